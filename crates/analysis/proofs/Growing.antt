-- A stretch that grows by one tick, and what it tells at the deadline.
use Rattle.std.proofs.Common.{◌≡◌, ℕ, ◌+◌, ◌%◌, ◌<◌, ◌≤◌, Bool, true, false, cond, MatchBool, length, sym, refl, ap, ◌∙◌, subst, inl, inr, arith}
use native.Mathlib.Nat.{mod-add-mod}
use mir.Val.{bool_byte}
use Rattle.std.proofs.lemmas.Bool.{cases_eq}
use Rattle.std.proofs.lemmas.List.{get_or_past}
use Rattle.model.specs.InTime.{D, Partition, Passes, PassesIn, demand, passes, supply}
use Rattle.model.specs.Modules.{task, task_of}
use Rattle.model.proofs.Decisions.{decides_passes, refuted}
use Rattle.model.proofs.Supplies.{supply_more, supply_none}
use Rattle.analysis.specs.declared.stretch.Stretch.{Stretch}
use Rattle.analysis.specs.Stretches.{TooShort}

byte_one : (b : Bool) → bool_byte b ≡ cond b 1 0
byte_one true = refl
byte_one false = refl

pub byte_le : (b : Bool) → bool_byte b ≤ 1
byte_le true = omega arith
byte_le false = omega arith

pub when_by : (b : Bool) (P Q : Type 0) → (b ≡ true → P) → (b ≡ false → Q) → MatchBool b P Q
when_by true P Q h k = h refl
when_by false P Q h k = k refl

-- a stretch of no ticks
abbrev pub begun : ℕ → Stretch
begun place = record { ticks = 0; supply = 0; place = place; needed = 0 }

pub begun_short : (p : Partition) (i f s : ℕ) (x : Stretch) → x ≡ begun (s % f) → TooShort p i f s x
begun_short p i f s x e = subst (TooShort p i f s) (sym e) (record {
  supplied = sym (supply_none p s);
  few = omega arith;
  after = ap (λ x. x % f) (omega arith);
  short = λ t a b. absurd (omega arith);
  low = λ t l. omega arith;
})

-- One tick more, which is owned or not.
module _ (p : Partition) (i f s : ℕ) (x : Stretch) (h : TooShort p i f s x) (b : Bool) (here : b ≡ p.owns (s + x.ticks)) (got : ℕ) (e : got ≡ x.supply + bool_byte b) where
  supply_next : got ≡ supply p s (x.ticks + 1)
  supply_next =
      let d : bool_byte b ≡ cond (p.owns (s + x.ticks)) 1 0 = byte_one b ∙ ap {B = ℕ} (λ q. cond q 1 0) here in
      omega (arith, h.supplied, supply_more p s x.ticks)

  pub grown_passes : demand p i (x.ticks + 1) ≤ got → PassesIn p i (x.ticks + 1) s
  grown_passes l = (x.ticks + 1, omega arith, omega arith, omega (arith, supply_next))

  pub grown_short : (next needed : ℕ) → next ≡ (x.place + 1) % f → got < demand p i (x.ticks + 1) → ((t : ℕ) → x.ticks + 1 < t → needed ≤ demand p i t) →
      TooShort p i f s (record { ticks = x.ticks + 1; supply = got; place = next; needed = needed })
  grown_short next needed n l low = record {
    supplied = supply_next;
    few = omega (arith, h.few, byte_le b);
    after = n ∙ ap (λ y. (y + 1) % f) h.after ∙ mod-add-mod (s + x.ticks) f 1 ∙ ap (λ y. y % f) (omega arith);
    short = λ t a m. elim (cases_eq t (x.ticks + 1)) [
      | inl z ↦ omega (arith, supply_next, ap (supply p s) z, ap (demand p i) z)
      | inr z ↦ h.short t a (omega arith)
    ];
    low = low;
  }

-- at the deadline
pub never_passes : (p : Partition) (i f s : ℕ) (x : Stretch) → TooShort p i f s x → x.ticks ≡ D p i → Passes p i s → ⊥
never_passes p i f s x h e v = omega (arith, h.short v.0 v.1 (omega (arith, v.2)), v.3)

pub passes_wider : (p : Partition) (i r q s : ℕ) → r ≤ q → PassesIn p i r s → PassesIn p i q s
passes_wider p i r q s l v = (v.0, v.1, omega (arith, v.2), v.3)

pub passes_no : (p : Partition) (i s : ℕ) → (Passes p i s → ⊥) → passes p i s ≡ false
passes_no p i s h = refuted (passes p i s) (λ e. h ((decides_passes p i s).0 e))

-- a task that is not there has the deadline 0
pub absent_never : (p : Partition) (i s : ℕ) → length p.tasks ≤ i → passes p i s ≡ false
unfolding task_of
absent_never p i s l =
    let e : D p i ≡ 0 = ap (λ k. k.deadline) (get_or_past p.tasks i (task 0 0 0) l) in
    passes_no p i s (λ v. omega (arith, v.1, v.2))
