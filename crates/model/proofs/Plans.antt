-- The windows of a plan are an allowed list, and with them the module is cleared.
use Rattle.std.proofs.Common.{◌≡◌, ℕ, zero, suc, ◌+◌, ◌-◌, ◌%◌, ◌<◌, ◌≤◌, Bool, true, false, cond, ◌&&◌, eqb, ltb, leb, List, [], ◌∷◌, length, get_or, Some, None, sum, Option, sym, refl, ap, ◌∙◌, subst, inl, inr, mod-lt, mod-eq_of_lt, arith}
use native.Mathlib.Nat.{add-mod_right, mod-add-mod}
use Rattle.std.proofs.lemmas.List.Sums.{sum_by-cons}
use Rattle.std.proofs.lemmas.Bool.{and_from, and_left, and_parts, and_right, both_ways, cases_eq, cases_lt, cond_both, cond-true, eq-eqb, eqb-true, le-leb, le-ltb, leb-true, lt-leb, lt-ltb, ltb-true, ne_eqb}
use Rattle.model.specs.declared.task.Task.{Task}
use Rattle.model.specs.declared.window.Window.{Window}
use Rattle.model.specs.Answers.{Answer, and_then, granted, refused}
use Rattle.model.specs.Decisions.{PlansClear}
use Rattle.model.specs.InTime.{D, InTime, Partition, demand, partition, size, sum_before, supply}
use Rattle.model.specs.Modules.{Module, tasks_of}
use Rattle.model.specs.Orders.{Order}
use Rattle.model.specs.Planning.{end_to_end, first_places, least_q, least_qs, plan, room_answer, windows_for, with_first, with_q}
use Rattle.model.specs.Timetables.{Timetable, opened, owned_by, owner_at, window_owner, window_timetable}
use Rattle.model.specs.Verdicts.{Cleared}
use Rattle.model.specs.WindowLists.{against, count_answer, end_of, frame_answer, list_answer, naming, overlap, window_answer, windows_answer}
use Rattle.model.proofs.Gaps.{first_again}
use Rattle.model.proofs.Limits.{has_part, limits}
use Rattle.model.proofs.Planning.{least_is}
use Rattle.model.proofs.Sums.{sum_same}
use Rattle.model.proofs.Supplies.{passes_everywhere}
use Rattle.model.proofs.Timetables.{Grants, either_owner, frame_granted, refuses, then_grants}

-- what a plan is made of
record Planned (order : Order) (m : Module) (f : ℕ) (ws : List Window) : Type 0 where
  frame : (1 ≤ f) × (f ≤ 1024)
  qs : List ℕ
  each : least_qs order f 0 m ≡ granted qs
  fits : sum qs ≤ f
  are : end_to_end 0 0 qs ≡ ws

picked : (b : Bool) (x ws : List Window) → cond b (granted x) (refused 62 []) ≡ granted ws → (b ≡ true) × (x ≡ ws)
picked true x ws e = let z : x ≡ ws = cc in (refl, z)
picked false x ws e = absurd (refuses 62 [] ws e)

planned : (order : Order) (m : Module) (f n : ℕ) (ws : List Window) → plan order m f n ≡ granted ws → Planned order m f ws
unfolding plan windows_for
planned order m f n ws e = go (least_qs order f 0 m) refl b.1
  where
    a : Grants (frame_answer f) × (and_then (room_answer n) (windows_for f (least_qs order f 0 m)) ≡ granted ws)
    a = then_grants (frame_answer f) (and_then (room_answer n) (windows_for f (least_qs order f 0 m))) ws e

    b : Grants (room_answer n) × (windows_for f (least_qs order f 0 m) ≡ granted ws)
    b = then_grants (room_answer n) (windows_for f (least_qs order f 0 m)) ws a.1

    go : (x : Answer (List ℕ)) → least_qs order f 0 m ≡ x → windows_for f x ≡ granted ws → Planned order m f ws
    go (granted qs) q r =
        let v = picked (leb (sum qs) f) (end_to_end 0 0 qs) ws r in
        record { frame = frame_granted f a.0; qs = qs; each = q; fits = leb-true _ _ v.0; are = v.1 }
    go (refused k vs) q r = absurd (refuses k vs ws r)

-- each q of a plan is its partition's least
abbrev Each : Order → ℕ → ℕ → Module → List ℕ → Type 0
Each order f p m qs = (length qs ≡ length m) × ((i : ℕ) → i < length m → least_q order (p + i) (tasks_of m i) f ≡ Some (get_or qs i 0))

each_one : (order : Order) (f p : ℕ) (ks : List Task) (m : Module) (q : ℕ) (rs : List ℕ) → least_q order p ks f ≡ Some q → Each order f (p + 1) m rs → Each order f p (ks ∷ m) (q ∷ rs)
each_one order f p ks m q rs e h = (omega (arith, h.0), go)
  where
    go : (i : ℕ) → i < length (ks ∷ m) → least_q order (p + i) (tasks_of (ks ∷ m) i) f ≡ Some (get_or (q ∷ rs) i 0)
    go zero l = ap (λ n. least_q order n ks f) (omega arith) ∙ e
    go (suc i) l = ap (λ n. least_q order n (tasks_of m i) f) (omega arith) ∙ h.1 i (omega arith)

each_q : (order : Order) (f p : ℕ) (m : Module) (qs : List ℕ) → least_qs order f p m ≡ granted qs → Each order f p m qs
unfolding least_qs with_q
each_q order f p [] qs e =
    let z : [] ≡ qs = cc in
    let P : List ℕ → Type 0 = λ y. Each order f p [] y in
    subst P z (refl, λ i l. absurd (omega arith))
each_q order f p (ks ∷ m) qs e = go (least_q order p ks f) refl (least_qs order f (p + 1) m) refl (each_q order f (p + 1) m) e
  where
    go : (o : Option ℕ) → least_q order p ks f ≡ o → (x : Answer (List ℕ)) → least_qs order f (p + 1) m ≡ x →
        ((rs : List ℕ) → least_qs order f (p + 1) m ≡ granted rs → Each order f (p + 1) m rs) → with_q p o x ≡ granted qs → Each order f p (ks ∷ m) qs
    go None a x b ih r = absurd (refuses 61 (p ∷ []) qs r)
    go (Some q) a (granted rs) b ih r =
        let z : q ∷ rs ≡ qs = cc in
        let P : List ℕ → Type 0 = λ y. Each order f p (ks ∷ m) y in
        subst P z (each_one order f p ks m q rs a (ih rs b))
    go (Some q) a (refused n vs) b ih r = absurd (refuses n vs qs r)

-- Where the windows lie.

-- the first place of window i
offset : List ℕ → ℕ → ℕ
offset [] i = 0
offset (q ∷ qs) zero = 0
offset (q ∷ qs) (suc i) = q + offset qs i

offset_fits : (qs : List ℕ) (i : ℕ) → i < length qs → offset qs i + get_or qs i 0 ≤ sum qs
unfolding offset
offset_fits [] i l = absurd (omega arith)
offset_fits (q ∷ qs) zero l = omega (arith, sum_by-cons (λ x. x) q qs)
offset_fits (q ∷ qs) (suc i) l = omega (arith, sum_by-cons (λ x. x) q qs, offset_fits qs i (omega arith))

-- the place y is one of the q places from x on
abbrev spans : ℕ → ℕ → ℕ → Bool
spans x q y = leb x y && ltb y (x + q)

spans_past : (x q y : ℕ) → x + q ≤ y → spans x q y ≡ false
spans_past x q y l = and_right (leb x y) _ (le-ltb y (x + q) l)

spans_before : (x q y : ℕ) → y < x → spans x q y ≡ false
spans_before x q y l = and_left (leb x y) _ (lt-leb x y l)

spans_none : (x q y : ℕ) → q ≡ 0 → spans x q y ≡ false
spans_none x q y e = elim (cases_lt y x) [ inl l ↦ spans_before x q y l | inr l ↦ spans_past x q y (omega arith) ]

first_owner : (n p : ℕ) (b : Bool) (o : Option ℕ) → n ≡ p → owned_by n o ≡ false → owned_by n (cond b (Some p) o) ≡ b
unfolding owned_by
first_owner n p true o z h = eq-eqb n p z
first_owner n p false o z h = h

later_owner : (n p : ℕ) (b c : Bool) (o : Option ℕ) → (n ≡ p → ⊥) → (b ≡ true → c ≡ false) → owned_by n o ≡ c → owned_by n (cond b (Some p) o) ≡ c
unfolding owned_by
later_owner n p true c o d h e = ne_eqb n p d ∙ sym (h refl)
later_owner n p false c o d h e = e

module _ (y : ℕ) where
  -- a partition below the first
  not_mine : (n p x : ℕ) (qs : List ℕ) → n < p → owned_by n (window_owner (end_to_end p x qs) y) ≡ false
  unfolding end_to_end window_owner owned_by
  not_mine n p x [] l = refl
  not_mine n p x (q ∷ qs) l = cond_both (eqb q 0) _ _ (λ ws. owned_by n (window_owner ws y) ≡ false)
      (λ _. not_mine n (p + 1) x qs (omega arith))
      (λ _. later_owner n p (spans x q y) false (window_owner (end_to_end (p + 1) (x + q) qs) y) (λ z. omega arith) (λ _. refl) (not_mine n (p + 1) (x + q) qs (omega arith)))

  -- what holds of the windows after the first
  mine_next : (p x q i : ℕ) (qs : List ℕ) → owned_by (p + 1 + i) (window_owner (end_to_end (p + 1) (x + q) qs) y) ≡ spans (x + q + offset qs i) (get_or qs i 0) y →
      owned_by (p + suc i) (window_owner (end_to_end p x (q ∷ qs)) y) ≡ spans (x + (q + offset qs i)) (get_or qs i 0) y
  unfolding end_to_end window_owner
  mine_next p x q i qs h = cond_both (eqb q 0) _ _ (λ ws. owned_by (p + suc i) (window_owner ws y) ≡ spans (x + (q + offset qs i)) (get_or qs i 0) y)
      (λ e. ap (λ z. owned_by (p + suc i) (window_owner (end_to_end (p + 1) z qs) y)) (at_x e) ∙ next)
      (λ e. later_owner (p + suc i) p (spans x q y) _ (window_owner (end_to_end (p + 1) (x + q) qs) y) (λ z. omega arith)
      (λ b. spans_before (x + (q + offset qs i)) (get_or qs i 0) y (omega (arith, ltb-true y (x + q) (and_parts (leb x y) _ b).1))) next)
    where
      next : owned_by (p + suc i) (window_owner (end_to_end (p + 1) (x + q) qs) y) ≡ spans (x + (q + offset qs i)) (get_or qs i 0) y
      next = ap (λ n. owned_by n (window_owner (end_to_end (p + 1) (x + q) qs) y)) (omega arith) ∙ h ∙ ap (λ z. spans z (get_or qs i 0) y) (omega arith)

      at_x : eqb q 0 ≡ true → x ≡ x + q
      at_x e = omega (arith, eqb-true q 0 e)

  mine : (p x : ℕ) (qs : List ℕ) (i : ℕ) → i < length qs → owned_by (p + i) (window_owner (end_to_end p x qs) y) ≡ spans (x + offset qs i) (get_or qs i 0) y
  unfolding end_to_end window_owner offset
  mine p x [] i l = absurd (omega arith)
  mine p x (q ∷ qs) zero l = cond_both (eqb q 0) _ _ (λ ws. owned_by (p + 0) (window_owner ws y) ≡ spans (x + 0) q y)
      (λ e. not_mine (p + 0) (p + 1) x qs (omega arith) ∙ sym (spans_none (x + 0) q y (eqb-true q 0 e)))
      (λ e. first_owner (p + 0) p (spans x q y) (window_owner (end_to_end (p + 1) (x + q) qs) y) (omega arith) (not_mine (p + 0) (p + 1) (x + q) qs (omega arith)) ∙ ap (λ z. spans z q y) (omega arith))
  mine p x (q ∷ qs) (suc i) l = mine_next p x q i qs (mine (p + 1) (x + q) qs i (omega arith))

  named : (n p x : ℕ) (qs : List ℕ) → window_owner (end_to_end p x qs) y ≡ Some n → n < p + length qs
  unfolding end_to_end window_owner
  named n p x [] e = cc
  named n p x (q ∷ qs) e = cond_both (eqb q 0) _ _ (λ ws. window_owner ws y ≡ Some n → n < p + suc (length qs))
      (λ _ k. omega (arith, named n (p + 1) x qs k))
      (λ _ k. elim (either_owner (spans x q y) p n (window_owner (end_to_end (p + 1) (x + q) qs) y) k) [
        | inl z ↦ omega arith
        | inr z ↦ omega (arith, named n (p + 1) (x + q) qs z)
      ]) e

-- The list is allowed.

-- the window before, if there is one, ends by the place x
abbrev Ended : Option Window → ℕ → Type 0
Ended None x = Unit {0}
Ended (Some v) x = end_of v ≤ x

clear_of : (v : Option Window) (w : Window) → Ended v w.start → against overlap v w ≡ None
clear_of None w h = refl
clear_of (Some v) w h = cond-true _ _ _ (le-leb (end_of v) w.start h)

module _ (f : ℕ) where
  abbrev at_place : ℕ → ℕ → ℕ → Window
  at_place p x q = record { partition = p; start = x; length = q }

  one_allowed : (i p x q : ℕ) (v : Option Window) → 1 ≤ q → p ≤ 7 → x + q ≤ f → Ended v x → window_answer overlap f i v (at_place p x q) ≡ granted tt
  one_allowed i p x q v a b c h =
      cond-true _ _ _ (and_from (leb 1 q) _ (le-leb 1 q a) (and_from (leb p 7) _ (le-leb p 7 b) (le-leb (x + q) f c))) ∙ ap (naming i) (clear_of v (at_place p x q) h)

  allowed : (i p x : ℕ) (qs : List ℕ) (v : Option Window) → x + sum qs ≤ f → p + length qs ≤ 8 → Ended v x → windows_answer overlap f i v (end_to_end p x qs) ≡ granted tt
  unfolding end_to_end
  allowed i p x [] v a b h = refl
  allowed i p x (q ∷ qs) v a b h = cond_both (eqb q 0) _ _ (λ ws. windows_answer overlap f i v ws ≡ granted tt)
      (λ e. allowed i (p + 1) x qs v (omega (arith, more)) (omega arith) h)
      (λ e. ap (λ a. and_then a (windows_answer overlap f (i + 1) (Some (at_place p x q)) (end_to_end (p + 1) (x + q) qs))) (one_allowed i p x q v (some e) (omega arith) (omega (arith, more)) h)
      ∙ allowed (i + 1) (p + 1) (x + q) qs (Some (at_place p x q)) (omega (arith, more)) (omega arith) (omega arith))
    where
      more : sum (q ∷ qs) ≡ q + sum qs
      more = sum_by-cons (λ n. n) q qs

      some : eqb q 0 ≡ false → 1 ≤ q
      some e = elim (cases_eq q 0) [ inl z ↦ absurd (both_ways (eqb q 0) e (eq-eqb q 0 z)) | inr z ↦ omega arith ]

  few_windows : (p x : ℕ) (qs : List ℕ) → length (end_to_end p x qs) ≤ length qs
  unfolding end_to_end
  few_windows p x [] = omega arith
  few_windows p x (q ∷ qs) = cond_both (eqb q 0) (end_to_end (p + 1) x qs) (at_place p x q ∷ end_to_end (p + 1) (x + q) qs) (λ (ws : List Window). length ws ≤ suc (length qs))
      (λ _. omega (arith, few_windows (p + 1) x qs))
      (λ _. omega (arith, few_windows (p + 1) (x + q) qs))

  list_allowed : (qs : List ℕ) → (1 ≤ f) × (f ≤ 1024) → sum qs ≤ f → length qs ≤ 8 → list_answer overlap f (end_to_end 0 0 qs) ≡ granted tt
  list_allowed qs h a b =
      ap (λ x. and_then x (and_then (count_answer (length (end_to_end 0 0 qs))) (windows_answer overlap f 0 None (end_to_end 0 0 qs))))
      (cond-true _ _ _ (and_from (leb 1 f) _ (le-leb 1 f h.0) (le-leb f 1024 h.1)))
      ∙ ap (λ x. and_then x (windows_answer overlap f 0 None (end_to_end 0 0 qs)))
      (cond-true _ _ _ (le-leb (length (end_to_end 0 0 qs)) 64 (omega (arith, few_windows 0 0 qs))))
      ∙ allowed 0 0 0 qs None (omega arith) (omega arith) tt

-- A partition with q places from x on is as well served as with the first q.

same_span : (f x q z : ℕ) → z < f → x + q ≤ f → spans x q z ≡ ltb ((z + (f - x)) % f) q
same_span f x q z l fits = elim (cases_lt z x) [
  | inl b ↦ spans_before x q z b ∙ sym (ap (λ n. ltb n q) (mod-eq_of_lt (below b)) ∙ le-ltb _ q (omega arith))
  | inr b ↦ elim (cases_lt z (x + q)) [
    | inl c ↦ and_from _ _ (le-leb x z b) (lt-ltb z (x + q) c) ∙ sym (ap (λ n. ltb n q) (back b) ∙ lt-ltb (z - x) q (omega arith))
    | inr c ↦ spans_past x q z c ∙ sym (ap (λ n. ltb n q) (back b) ∙ le-ltb (z - x) q (omega arith))
  ]
]
  where
    below : z < x → z + (f - x) < f
    below b = omega arith

    back : x ≤ z → (z + (f - x)) % f ≡ z - x
    back b =
        let e : z + (f - x) ≡ z - x + f = omega arith in
        let s : z - x < f = omega arith in
        ap (λ n. n % f) e ∙ add-mod_right (z - x) f ∙ mod-eq_of_lt s

module _ (order : Order) (m : Module) (f : ℕ) (qs : List ℕ) (pos : 1 ≤ f) (fits : sum qs ≤ f) (sizes : length qs ≡ length m) where
  abbrev T₀ : Timetable
  T₀ = record { frame = f; owner = window_owner (end_to_end 0 0 qs) }

  module _ (n : ℕ) (l : n < length m) where
    abbrev P : Partition
    P = partition T₀ order m n

    abbrev Q : Partition
    Q = with_first order n (tasks_of m n) f (get_or qs n 0)

    room : offset qs n + get_or qs n 0 ≤ f
    room = omega (arith, offset_fits qs n (omega (arith, sizes)))

    owned : (v : ℕ) → P.owns v ≡ first_places f (get_or qs n 0) (v + (f - offset qs n))
    unfolding owner_at
    owned v =
        ap (λ k. owned_by k (window_owner (end_to_end 0 0 qs) (v % f))) (omega arith)
        ∙ mine (v % f) 0 0 qs n (omega (arith, sizes))
        ∙ ap (λ z. spans z (get_or qs n 0) (v % f)) (omega arith)
        ∙ same_span f (offset qs n) (get_or qs n 0) (v % f) (mod-lt v pos) room
        ∙ ap (λ z. ltb z (get_or qs n 0)) (mod-add-mod v f (f - offset qs n))

    same_supply : (s t : ℕ) → supply P s t ≡ supply Q (s + (f - offset qs n)) t
    unfolding supply
    same_supply s t = sum_same t _ _ (λ u k. ap (λ b. cond b 1 0) (owned (s + u) ∙ ap (first_places f (get_or qs n 0)) (omega arith)))

    same_demand : (i t : ℕ) → demand P i t ≡ demand Q i t
    unfolding demand sum_before size
    same_demand i t = refl

    in_time_too : (i : ℕ) → InTime Q f i → InTime P f i
    in_time_too i h s k =
        let v = passes_everywhere Q f i (D Q i) (first_again order n (tasks_of m n) f (get_or qs n 0) pos) h (s + (f - offset qs n)) in
        (v.0, v.1, v.2, omega (arith, v.3, same_demand i v.0, same_supply s v.0))

  clears : ((n : ℕ) → n < length m → least_q order (0 + n) (tasks_of m n) f ≡ Some (get_or qs n 0)) → Cleared T₀ T₀ order m
  clears each = record {
    names_own = λ y p l e. omega (arith, named y p 0 0 qs e, sizes);
    in_time = λ n i l.
        let k : n < length m = has_part m n i l in
        let e : least_q order n (tasks_of m n) f ≡ Some (get_or qs n 0) = ap (λ x. least_q order x (tasks_of m n) f) (omega arith) ∙ each n k in
        in_time_too n k i (((least_is order n (tasks_of m n) f (get_or qs n 0)).0 e).enough i l);
  }

pub plans_clear : PlansClear
unfolding opened
plans_clear order m f n ws within e =
    let v : Planned order m f ws = planned order m f n ws e in
    let w : Each order f 0 m v.qs = each_q order f 0 m v.qs v.each in
    let a : list_answer overlap f (end_to_end 0 0 v.qs) ≡ granted tt = list_allowed f v.qs v.frame v.fits (omega (arith, w.0, (limits m within).few)) in
    let t : window_timetable overlap f (end_to_end 0 0 v.qs) ≡ T₀ order m f v.qs v.frame.0 v.fits w.0 =
    ap (λ x. opened x (record { frame = f; owner = window_owner (end_to_end 0 0 v.qs) })) a in
    let G : List Window → Type 0 = λ us. (list_answer overlap f us ≡ granted tt) × Cleared (window_timetable overlap f us) (window_timetable overlap f us) order m in
    subst G v.are (a, subst (λ x. Cleared x x order m) (sym t) (clears order m f v.qs v.frame.0 v.fits w.0 w.1))
