-- Tests of the numbers below a bound, as tests of a list's elements.
use Rattle.std.proofs.Common.{◌≡◌, ℕ, zero, suc, ◌<◌, ◌≤◌, Bool, not, ◌&&◌, ◌||◌, eqb, List, [], length, get_or, take, sym, refl, ap, ◌∙◌, add-one, zero-add, arith}
use Rattle.std.proofs.Math.Bool.{and_comm}
use Rattle.std.specs.List.{enumerate_from, list_all, list_any}
use Rattle.std.proofs.lemmas.List.{take_all}
use Rattle.std.proofs.lemmas.List.Folds.{list_all_more, list_any_more}
use Rattle.std.proofs.lemmas.List.FromFn.{get_or-enumerate_from, length-enumerate_from}
use Rattle.std.proofs.lemmas.Bool.Decides.{nat_tests}
use Rattle.model.specs.Ranges.{all_below}
use Rattle.rank_table.specs.Apart.{all_apart, apart}

-- the first n elements pass
all_first : {X : Type 0} (test : X → Bool) (f : ℕ → Bool) (xs : List X) (d : X) (n : ℕ) → n ≤ length xs → ((k : ℕ) → k < n → test (get_or xs k d) ≡ f k) → list_all test (take n xs) ≡ all_below f n
unfolding all_below
all_first test f xs d zero l h = refl
all_first test f xs d (suc n) l h =
    let more = rw add-one at (list_all_more test xs n d (omega arith)) in
    more ∙ rw (all_first test f xs d n (omega arith) (λ k m. h k (omega arith)), h n (omega arith)) (and_comm (all_below f n) (f n))

all_elements : {X : Type 0} (test : X → Bool) (f : ℕ → Bool) (xs : List X) (d : X) (n : ℕ) → length xs ≡ n → ((k : ℕ) → k < n → test (get_or xs k d) ≡ f k) → list_all test xs ≡ all_below f n
all_elements test f xs d n l h = ap (list_all test) (sym (take_all n xs (omega arith))) ∙ all_first test f xs d n (omega arith) h

pub all_rows : (ranks : List (List ℕ)) → length ranks ≡ 8 → list_all apart ranks ≡ all_apart ranks
all_rows ranks l = all_elements apart _ ranks [] 8 l (λ k m. refl)

-- the rank at its place is not among those before it
abbrev pub is_new : List ℕ → ℕ × ℕ → Bool
is_new ranks p = not (list_any (λ y. eqb y p.1) (take p.0 ranks))

neither : (a : Bool) (x r : ℕ) → not (a || eqb x r) ≡ (not (eqb r x) && not a)
neither a x r = grind (arith, nat_tests)

new_rank : (ranks : List ℕ) (r n : ℕ) → n ≤ length ranks → not (list_any (λ y. eqb y r) (take n ranks)) ≡ all_below (λ j. not (eqb r (get_or ranks j 0))) n
unfolding all_below
new_rank ranks r zero l = refl
new_rank ranks r (suc n) l =
    let more = rw add-one at (list_any_more (λ y. eqb y r) ranks n 0 (omega arith)) in
    rw (more, ← new_rank ranks r n (omega arith)) (neither _ _ r)

pub all_new : (ranks : List ℕ) → length ranks ≡ 16 → list_all (is_new ranks) (enumerate_from 0 ranks) ≡ apart ranks
all_new ranks l =
    all_elements (is_new ranks) _ (enumerate_from 0 ranks) (0, 0) 16 (length-enumerate_from 0 ranks ∙ l) (λ k m.
    rw (get_or-enumerate_from 0 ranks k (0, 0) (omega arith), zero-add) (new_rank ranks (get_or ranks k 0) k (omega arith)))
