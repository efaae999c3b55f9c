-- What a local order's laws on keys and records say of its meaning.
use Rattle.std.proofs.Common.{◌≡◌, ℕ, ◌<◌, Bool, true, false, not, ◌∙◌}
use Rattle.model.specs.declared.task_record.TaskRecord.{TaskRecord}
use Rattle.model.specs.Orders.{Order, CanExist, LawfulOrder}

-- an order that keys decide is lawful if its keys are irreflexive and transitive
pub lawful_by_keys :
    {K : Type 0} (order : Order) (keyed : ℕ → TaskRecord → K) (precedes : K → K → Bool) →
    ((p : ℕ) (a b : TaskRecord) → order p a b ≡ precedes (keyed p a) (keyed p b)) →
    ((k : K) → precedes k k ≡ false) →
    ((j k l : K) → precedes j k ≡ true → precedes k l ≡ true → precedes j l ≡ true) →
    ((p : ℕ) (a b : TaskRecord) → p < 8 → CanExist a → CanExist b → (a.number ≡ b.number → ⊥) → order p a b ≡ not (order p b a)) →
    LawfulOrder order
lawful_by_keys order keyed precedes decides irreflexive transitive total = record {
  irreflexive = λ p a. decides p a a ∙ irreflexive (keyed p a);
  transitive = λ p a b c h k. decides p a c ∙ transitive (keyed p a) (keyed p b) (keyed p c) (rw (← decides p a b) h) (rw (← decides p b c) k);
  one_first = total;
}
