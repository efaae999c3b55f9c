-- Opened window lists, opened share cycles and shifts keep the law of timetables; windows lie one after another.
use Rattle.std.proofs.Common.{◌≡◌, ℕ, ◌+◌, ◌-◌, ◌%◌, ◌<◌, ◌≤◌, Bool, true, false, cond, ◌&&◌, ltb, leb, ◌⊎◌, List, [], ◌∷◌, ◌++◌, length, Some, None, Option, sym, refl, ◌∙◌, inl, inr, mod-lt, arith}
use Rattle.std.proofs.lemmas.Bool.{and_parts, cond-true, leb-true, ltb-true}
use Rattle.model.specs.declared.window.Window.{Window}
use Rattle.model.specs.Answers.{Answer, and_then, granted, refused}
use Rattle.model.specs.Timetables.{CoveredOnce, LawfulTimetable, Timetable, TimetablesAreLawful, bare_frame, covers, cycle_answer, opened, share_owner, share_timetable, shifted, window_owner, window_timetable}
use Rattle.model.specs.WindowLists.{Neighbours, count_answer, end_of, frame_answer, in_frame, list_answer, naming, overlap, window_answer, windows_answer}

-- an answer that grants
abbrev pub Grants : Answer (Unit {0}) → Type 0
Grants a = (u : Unit {0}) × (a ≡ granted u)

pub refuses : {A : Type 0} (n : ℕ) (vs : List ℕ) (a : A) → ◌≡◌ {A = Answer A} (refused n vs) (granted a) → ⊥
refuses n vs a e = let z : ◌≡◌ {A = ℕ} 0 1 = cc in omega arith

-- what comes second is granted only where both are
pub then_grants : {A : Type 0} (a : Answer (Unit {0})) (b : Answer A) (x : A) → and_then a b ≡ granted x → Grants a × (b ≡ granted x)
then_grants (granted u) b x e = ((u, refl), e)
then_grants (refused n vs) b x e = absurd (refuses n vs x e)

pub both_grant : (a b : Answer (Unit {0})) → Grants (and_then a b) → Grants a × Grants b
both_grant a b h = let v = then_grants a b h.0 h.1 in (v.0, (h.0, v.1))

if_granted : (b : Bool) (a : Answer (Unit {0})) (n : ℕ) (vs : List ℕ) → Grants (cond b a (refused n vs)) → b ≡ true
if_granted true a n vs h = refl
if_granted false a n vs h = absurd (refuses n vs h.0 h.1)

pub frame_granted : (f : ℕ) → Grants (frame_answer f) → (1 ≤ f) × (f ≤ 1024)
frame_granted f h = let v = and_parts (leb 1 f) (leb f 1024) (if_granted (leb 1 f && leb f 1024) (granted tt) 51 [] h) in (leb-true _ _ v.0, leb-true _ _ v.1)

bare_lawful : LawfulTimetable bare_frame
bare_lawful = record { frame_within = omega arith; owners_within = λ x p l e. cc }

-- what is opened keeps the law if what is granted does
pub opened_lawful : (a : Answer (Unit {0})) (t : Timetable) → (Grants a → LawfulTimetable t) → LawfulTimetable (opened a t)
unfolding opened
opened_lawful (granted u) t h = h (u, refl)
opened_lawful (refused n vs) t h = bare_lawful

pub either_owner : (b : Bool) (q p : ℕ) (o : Option ℕ) → cond b (Some q) o ≡ Some p → (q ≡ p) ⊎ (o ≡ Some p)
either_owner true q p o e = let z : q ≡ p = cc in inl z
either_owner false q p o e = inr e

window_below : (rule : Neighbours) (f i : ℕ) (v : Option Window) (ws : List Window) (x p : ℕ) → Grants (windows_answer rule f i v ws) → window_owner ws x ≡ Some p → p < 8
unfolding window_owner
window_below rule f i v [] x p h e = cc
window_below rule f i v (w ∷ ws) x p h e =
    let g = both_grant (window_answer rule f i v w) _ h in
    let a = and_parts (leb 1 w.length) _ (if_granted (in_frame f w) _ 53 (i ∷ []) g.0) in
    let b = and_parts (leb w.partition 7) _ a.1 in
    elim (either_owner (covers w x) w.partition p (window_owner ws x) e) [
      | inl z ↦ omega (arith, leb-true _ _ b.0)
      | inr z ↦ window_below rule f (i + 1) (Some w) ws x p g.1 z
    ]

windows_lawful : (rule : Neighbours) (f : ℕ) (ws : List Window) → LawfulTimetable (window_timetable rule f ws)
windows_lawful rule f ws = opened_lawful (list_answer rule f ws) _ (λ h.
    let g = both_grant (frame_answer f) _ h in
    let k = both_grant (count_answer (length ws)) _ g.1 in
    record {
      frame_within = frame_granted f g.0;
      owners_within = λ x p l e. window_below rule f 0 None ws x p k.1 e;
    })

share_below : (q : ℕ) (ns : List ℕ) (x p : ℕ) → share_owner q ns x ≡ Some p → p < q + length ns
unfolding share_owner
share_below q [] x p e = cc
share_below q (n ∷ ns) x p e = elim (either_owner (ltb x n) q p _ e) [
  | inl z ↦ omega arith
  | inr z ↦ omega (arith, share_below (q + 1) ns (x - n) p z)
]

cycles_lawful : (f : ℕ) (shares : List ℕ) → length shares ≤ 8 → LawfulTimetable (share_timetable f shares)
cycles_lawful f shares few = opened_lawful (cycle_answer f shares) _ (λ h. record {
  frame_within = frame_granted f (both_grant (frame_answer f) _ h).0;
  owners_within = λ x p l e. omega (arith, share_below 0 shares x p e);
})

shifts_lawful : (t : Timetable) (k : ℕ) → LawfulTimetable t → LawfulTimetable (shifted t k)
shifts_lawful t k h = record {
  frame_within = h.frame_within;
  owners_within = λ x p l e. h.owners_within ((x + k) % t.frame) p (mod-lt (x + k) h.frame_within.0) e;
}

pub timetables_lawful : TimetablesAreLawful
timetables_lawful = record { windows = windows_lawful; cycles = cycles_lawful; shifts = shifts_lawful }

-- Windows of an allowed list lie one after another.
module _ (f : ℕ) where
  abbrev pub Allowed : ℕ → Option Window → List Window → Type 0
  Allowed i v ws = Grants (windows_answer overlap f i v ws)

  -- what is granted of a window and those after it
  pub after_it : (i : ℕ) (v : Option Window) (w : Window) (ws : List Window) → Allowed i v (w ∷ ws) → Allowed (i + 1) (Some w) ws
  after_it i v w ws h = (both_grant (window_answer overlap f i v w) _ h).1

  some_length : (i : ℕ) (v : Option Window) (w : Window) (ws : List Window) → Allowed i v (w ∷ ws) → in_frame f w ≡ true
  some_length i v w ws h = if_granted (in_frame f w) _ 53 (i ∷ []) (both_grant (window_answer overlap f i v w) _ h).0

  no_overlap : (b : Bool) (i : ℕ) → Grants (naming i (cond b None (Some 54))) → b ≡ true
  no_overlap true i h = refl
  no_overlap false i h = absurd (refuses 54 (i ∷ []) h.0 h.1)

  pub next_begins : (i : ℕ) (v w : Window) (ws : List Window) → Allowed i (Some v) (w ∷ ws) → end_of v ≤ w.start
  next_begins i v w ws h =
      let g : Grants (window_answer overlap f i (Some v) w) = (both_grant (window_answer overlap f i (Some v) w) _ h).0 in
      let e : window_answer overlap f i (Some v) w ≡ naming i (overlap v w) = cond-true _ _ _ (some_length i (Some v) w ws h) in
      leb-true _ _ (no_overlap (leb (end_of v) w.start) i (g.0, sym e ∙ g.1))

  later_begins : (i : ℕ) (v : Window) (between : List Window) (w : Window) (later : List Window) → Allowed i (Some v) (between ++ (w ∷ later)) → end_of v ≤ w.start
  later_begins i v [] w later h = next_begins i v w later h
  later_begins i v (u ∷ us) w later h =
      omega (arith, next_begins i v u (us ++ (w ∷ later)) h, later_begins (i + 1) u us w later (after_it i (Some v) u (us ++ (w ∷ later)) h))

  from_here : (i : ℕ) (u : Option Window) (earlier : List Window) (v : Window) (ws : List Window) → Allowed i u (earlier ++ (v ∷ ws)) → (j : ℕ) × Allowed j (Some v) ws
  from_here i u [] v ws h = (i + 1, after_it i u v ws h)
  from_here i u (w ∷ es) v ws h = from_here (i + 1) (Some w) es v ws (after_it i u w (es ++ (v ∷ ws)) h)

pub covered_once : CoveredOnce
covered_once f x earlier between later v w e a b =
    let k = both_grant (count_answer (length (earlier ++ (v ∷ (between ++ (w ∷ later)))))) _ (both_grant (frame_answer f) _ (tt, e)).1 in
    let g = from_here f 0 None earlier v (between ++ (w ∷ later)) k.1 in
    let c = and_parts (leb v.start x) _ a in
    let d = and_parts (leb w.start x) _ b in
    omega (arith, later_begins f g.0 v between w later g.1, ltb-true _ _ c.1, leb-true _ _ d.0)
