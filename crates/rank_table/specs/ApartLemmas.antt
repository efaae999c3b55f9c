-- Ranks that are apart tell the tasks of a partition apart.
use Rattle.std.specs.Prelude.{◌≡◌, ℕ, ◌<◌, true, not, List, [], ◌==◌, ◌≢◌, nat_lt, slice_index, slice_index_or}
use Rattle.std.proofs.Common.{inl, inr}
use Rattle.std.proofs.lemmas.Bool.{and_from, both_ways, cases_order, cond-true, eq-eqb, lt-ltb, not-true}
use Rattle.model.proofs.Ranges.{all_from}
use Rattle.rank_table.specs.Apart.{all_apart, apart, apart_below, rank}

module _ (ranks : List (List ℕ)) (ok : all_apart ranks ≡ true) (p : ℕ) (few : p < 8) where
  -- of two different tasks the later one has a new rank
  different : (i j : ℕ) → j < i → i < 16 → slice_index (slice_index_or ranks p []) i ≢ slice_index (slice_index_or ranks p []) j
  different i j l m e =
      let all = all_from (λ q. apart (slice_index_or ranks q [])) 8 ok p few in
      let new = all_from (λ k. apart_below (slice_index_or ranks p []) k k) 16 all i m in
      both_ways _ (not-true _ (all_from (λ k. not (slice_index (slice_index_or ranks p []) i == slice_index (slice_index_or ranks p []) k)) i new j l)) (eq-eqb _ _ e)

  rank_is : (i : ℕ) → i < 16 → rank ranks p i ≡ slice_index (slice_index_or ranks p []) i
  rank_is i l = cond-true _ _ _ (and_from (nat_lt p 8) (nat_lt i 16) (lt-ltb p 8 few) (lt-ltb i 16 l))

  pub same_rank : (i j : ℕ) → i < 16 → j < 16 → rank ranks p i ≡ rank ranks p j → i ≡ j
  same_rank i j l m e = elim (cases_order i j) [
    | inl same ↦ same
    | inr o ↦ elim o [
      | inl less ↦ absurd (different j i less m (rw (← rank_is i l, ← rank_is j m) (cc)))
      | inr more ↦ absurd (different i j more l (rw (← rank_is i l, ← rank_is j m) e))
    ]
  ]
