-- The task that the choice gives is the one that goes first.
use Rattle.std.proofs.Common.{◌≡◌, ℕ, zero, suc, ◌<◌, Bool, true, false, not, ◌⊎◌, List, [], ◌∷◌, length, get_or, fold, Some, None, sym, refl, ap, ◌∙◌, subst, inl, inr, arith}
use Rattle.std.specs.List.{reduce}
use Rattle.std.proofs.lemmas.Bool.{both_ways, cases_Bool}
use Rattle.model.specs.declared.task_record.TaskRecord.{TaskRecord}
use Rattle.model.specs.Orders.{Order, LawfulOrder}
use Rattle.order.specs.Choices.{FirstAmong, GoesFirst, better, first_of}

module _ (order : Order) (ok : LawfulOrder order) (p : ℕ) where
  -- r is the first of a and bs
  record Best (a : TaskRecord) (bs : List TaskRecord) (r : TaskRecord) : Type 0 where
    chosen : first_of (order p) (Some a) bs ≡ Some r
    low : (r ≡ a) ⊎ (order p r a ≡ true)
    member : (r ≡ a) ⊎ ((k : ℕ) × (k < length bs) × ((d : TaskRecord) → get_or bs k d ≡ r))
    none_before : (k : ℕ) (d : TaskRecord) → k < length bs → order p (get_or bs k d) r ≡ false

  -- what would go before r would go before a
  not_before : (a b r : TaskRecord) → (r ≡ a) ⊎ (order p r a ≡ true) → order p b a ≡ false → order p b r ≡ false
  not_before a b r (inl e) h = rw e h
  not_before a b r (inr g) h = elim (cases_Bool (order p b r)) [
    | inl t ↦ absurd (both_ways _ h (ok.transitive p b r a t g))
    | inr f ↦ f
  ]

  -- nor does it go before what comes after it
  not_after : (a r : TaskRecord) → (r ≡ a) ⊎ (order p r a ≡ true) → order p a r ≡ false
  not_after a r h = not_before a a r h (ok.irreflexive p a)

  none_more : (b : TaskRecord) (bs : List TaskRecord) (r : TaskRecord) → order p b r ≡ false → ((k : ℕ) (d : TaskRecord) → k < length bs → order p (get_or bs k d) r ≡ false) → (k : ℕ) (d : TaskRecord) → k < length (b ∷ bs) → order p (get_or (b ∷ bs) k d) r ≡ false
  none_more b bs r here there zero d l = here
  none_more b bs r here there (suc k) d l = there k d (omega arith)

  -- one task more, before the others: it goes before a, or it does not
  with_better : (a b : TaskRecord) (bs : List TaskRecord) → order p b a ≡ true → (r : TaskRecord) → Best b bs r → Best a (b ∷ bs) r
  with_better a b bs g r w = record {
    chosen = rw g w.chosen;
    low = inr (elim w.low [ inl e ↦ rw e g | inr h ↦ ok.transitive p r b a h g ]);
    member = inr (elim w.member [
      | inl e ↦ (0, omega arith, λ d. sym e)
      | inr m ↦ (suc m.0, omega (arith, m.1), m.2)
    ]);
    none_before = λ k d l. none_more b bs r (not_after b r w.low) w.none_before k d l;
  }

  with_worse : (a b : TaskRecord) (bs : List TaskRecord) → order p b a ≡ false → (r : TaskRecord) → Best a bs r → Best a (b ∷ bs) r
  with_worse a b bs g r w = record {
    chosen = rw g w.chosen;
    low = w.low;
    member = elim w.member [
      | inl e ↦ inl e
      | inr m ↦ inr (suc m.0, omega (arith, m.1), m.2)
    ];
    none_before = λ k d l. none_more b bs r (not_before a b r w.low g) w.none_before k d l;
  }

  best : (a : TaskRecord) (bs : List TaskRecord) → (r : TaskRecord) × Best a bs r
  best a [] = (a, record { chosen = refl; low = inl refl; member = inl refl; none_before = λ k d l. absurd (omega arith) })
  best a (b ∷ bs) = elim (cases_Bool (order p b a)) [
    | inl g ↦ let w = best b bs in (w.0, with_better a b bs g w.0 w.1)
    | inr g ↦ let w = best a bs in (w.0, with_worse a b bs g w.0 w.1)
  ]

  first_among : (b : TaskRecord) (bs : List TaskRecord) (r : TaskRecord) → Best b bs r → FirstAmong order p (b ∷ bs) r
  first_among b bs r w =
      let none = none_more b bs r (not_after b r w.low) w.none_before in
      record {
        member = elim w.member [
          | inl e ↦ (0, omega arith, sym e)
          | inr m ↦ (suc m.0, omega (arith, m.1), m.2 r)
        ];
        none_before = λ k l. none k r l;
        before_others = λ k l few here there other. ok.one_first p r (get_or (b ∷ bs) k r) few here there (λ e. other (sym e)) ∙ ap not (none k r l);
      }

  pub goes_first : (bs : List TaskRecord) → GoesFirst order p bs (first_of (order p) None bs)
  goes_first [] = refl
  goes_first (b ∷ bs) = let w = best b bs in subst (GoesFirst order p (b ∷ bs)) (sym w.1.chosen) (first_among b bs w.0 w.1)

-- what is chosen of the best so far and those that are left, as a fold
best_of_rest : (goes : TaskRecord → TaskRecord → Bool) (a : TaskRecord) (bs : List TaskRecord) → Some (fold (λ b c. better goes (Some b) c) a bs) ≡ first_of goes (Some a) bs
best_of_rest goes a [] = refl
best_of_rest goes a (b ∷ bs) = best_of_rest goes (better goes (Some a) b) bs

pub reduce_better : (goes : TaskRecord → TaskRecord → Bool) (bs : List TaskRecord) → reduce (λ a b. better goes (Some a) b) bs ≡ first_of goes None bs
reduce_better goes [] = refl
reduce_better goes (b ∷ bs) = best_of_rest goes b bs
