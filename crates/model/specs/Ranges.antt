-- Sums and searches over the numbers below a bound.
use Rattle.std.specs.Prelude.{ℕ, zero, suc, ◌+◌, Bool, true, false, cond, ◌&&◌, ◌||◌, Some, None, Option}

-- f 0 + f 1 + .. + f (n - 1)
unfoldable pub sum_below : ℕ → (ℕ → ℕ) → ℕ
sum_below zero f = 0
sum_below (suc n) f = sum_below n f + f n

-- f 1 or f 2 or .. or f n
unfoldable pub some_upto : (ℕ → Bool) → ℕ → Bool
some_upto f zero = false
some_upto f (suc n) = f (suc n) || some_upto f n

-- f 0 and f 1 and .. and f (n - 1)
unfoldable pub all_below : (ℕ → Bool) → ℕ → Bool
all_below f zero = true
all_below f (suc n) = f n && all_below f n

-- the first, if there is one, else the second
unfoldable pub or_else : {A : Type 0} → Option A → Option A → Option A
or_else (Some a) o = Some a
or_else None o = o

-- what f finds at the least number below n at which it finds anything
unfoldable pub first_found : {A : Type 0} → (ℕ → Option A) → ℕ → Option A
first_found f zero = None
first_found f (suc n) = or_else (first_found f n) (f n)

-- the least number below n that passes the test
unfoldable pub least_below : (ℕ → Bool) → ℕ → Option ℕ
least_below test n = first_found (λ k. cond (test k) (Some k) None) n

-- k or the other, whichever goes first
unfoldable pub first_of : (ℕ → ℕ → Bool) → ℕ → Option ℕ → ℕ
first_of goes k None = k
first_of goes k (Some j) = cond (goes k j) k j

-- of the numbers below n that pass the test, the one that goes first
unfoldable pub first_such : (ℕ → ℕ → Bool) → (ℕ → Bool) → ℕ → Option ℕ
first_such goes test zero = None
first_such goes test (suc n) = cond (test n) (Some (first_of goes n (first_such goes test n))) (first_such goes test n)
