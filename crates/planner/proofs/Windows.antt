-- Windows from a list of q: how the answer grows partition by partition, and how the windows are written one after another.
use Rattle.std.proofs.Common.{◌≡◌, ℕ, ◌+◌, ◌<◌, ◌≤◌, eqb, List, [], ◌∷◌, ◌++◌, length, drop, Some, None, sym, refl, ap, ◌∙◌}
use Rattle.std.proofs.lemmas.List.{append_assoc, append-nil, at_drop_all, at_drop_more}
use Rattle.std.proofs.lemmas.Bool.{cond-false, cond-true, eq-eqb, ne_eqb}
use Rattle.model.specs.Answers.{Answer, granted, refused}
use Rattle.model.specs.Modules.{Module, tasks_of}
use Rattle.model.specs.Orders.{Order}
use Rattle.model.specs.Planning.{end_to_end, least_q, least_qs, with_q}

-- some q before those of an answer
abbrev pub after : List ℕ → Answer (List ℕ) → Answer (List ℕ)
after qs (granted rs) = granted (qs ++ rs)
after qs (refused n vs) = refused n vs

pub after_none : (a : Answer (List ℕ)) → a ≡ after [] a
after_none (granted qs) = refl
after_none (refused n vs) = refl

after_one : (qs : List ℕ) (p q : ℕ) (a : Answer (List ℕ)) → after qs (with_q p (Some q) a) ≡ after (qs ++ (q ∷ [])) a
unfolding with_q
after_one qs p q (granted rs) = ap granted (sym (append_assoc qs (q ∷ []) rs))
after_one qs p q (refused n vs) = refl

module _ (order : Order) (f : ℕ) (m : Module) (i : ℕ) where
  step : i < length m → least_qs order f i (drop i m) ≡ with_q i (least_q order i (tasks_of m i) f) (least_qs order f (i + 1) (drop (i + 1) m))
  unfolding least_qs
  step l = at_drop_more (least_qs order f i) m i [] l

  pub qs_more : (qs : List ℕ) (q : ℕ) → i < length m → least_q order i (tasks_of m i) f ≡ Some q →
      after qs (least_qs order f i (drop i m)) ≡ after (qs ++ (q ∷ [])) (least_qs order f (i + 1) (drop (i + 1) m))
  qs_more qs q l e =
      ap (after qs) (step l ∙ ap (λ o. with_q i o (least_qs order f (i + 1) (drop (i + 1) m))) e)
      ∙ after_one qs i q (least_qs order f (i + 1) (drop (i + 1) m))

  pub qs_missing : (qs : List ℕ) → i < length m → least_q order i (tasks_of m i) f ≡ None → after qs (least_qs order f i (drop i m)) ≡ refused 61 (i ∷ [])
  unfolding with_q
  qs_missing qs l e = ap (after qs) (step l ∙ ap (λ o. with_q i o (least_qs order f (i + 1) (drop (i + 1) m))) e)

  pub qs_all : (qs : List ℕ) → length m ≤ i → after qs (least_qs order f i (drop i m)) ≡ granted qs
  unfolding least_qs
  qs_all qs l = ap (after qs) (at_drop_all (least_qs order f i) m i l) ∙ ap granted (append-nil qs)

-- a window more, or none for a q of 0
pub window_more : (p x q : ℕ) (qs : List ℕ) → (q ≡ 0 → ⊥) → end_to_end p x (q ∷ qs) ≡ record { partition = p; start = x; length = q } ∷ end_to_end (p + 1) (x + q) qs
unfolding end_to_end
window_more p x q qs d = cond-false (eqb q 0) _ _ (ne_eqb q 0 d)

pub window_none : (p x q : ℕ) (qs : List ℕ) → q ≡ 0 → end_to_end p x (q ∷ qs) ≡ end_to_end (p + 1) x qs
unfolding end_to_end
window_none p x q qs e = cond-true (eqb q 0) _ _ (eq-eqb q 0 e)

pub end_none : (p x : ℕ) (qs : List ℕ) → length qs ≤ p → end_to_end p x (drop p qs) ≡ []
unfolding end_to_end
end_none p x qs l = at_drop_all (end_to_end p x) qs p l
