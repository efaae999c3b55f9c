-- Facts on supply, for any partition, length and order.
use Rattle.std.specs.Prelude.{◌≡◌, ℕ, ◌+◌, ◌%◌, ◌<◌, ◌≤◌, true, false, List}
use Rattle.model.specs.declared.task.Task.{Task}
use Rattle.model.specs.Orders.{Order}
use Rattle.model.specs.InTime.{Partition, supply, PassesIn}
use Rattle.model.specs.Planning.{with_first}

-- The owned ticks come round every f ticks.
abbrev pub Repeats : Partition → ℕ → Type 0
Repeats p f = (1 ≤ f) × ((u : ℕ) → p.owns (u + f) ≡ p.owns u)

pub record SupplyFacts : Type 0 where
  -- a stretch supplies what its two parts supply
  pub splits : (p : Partition) (s a b : ℕ) → supply p s (a + b) ≡ supply p s a + supply p (s + a) b
  -- a frame later the supply is the same
  pub comes_round : (p : Partition) (f s t : ℕ) → Repeats p f → supply p (s + f) t ≡ supply p s t
  -- a longer stretch supplies no less, and at most one tick more for each tick
  pub grows : (p : Partition) (s a b : ℕ) → (supply p s a ≤ supply p s (a + b)) × (supply p s (a + b) ≤ supply p s a + b)

-- Which starts decide: on supply, and so for a demand that is to be met within r ticks.
pub record StartsThatDecide : Type 0 where
  -- from the tick after one that is not owned the supply is no less; from the tick after an owned one it is no more
  pub later_supply : (p : Partition) (s t : ℕ) → p.owns s ≡ false → supply p s t ≤ supply p (s + 1) t
  pub earlier_supply : (p : Partition) (s t : ℕ) → p.owns s ≡ true → supply p (s + 1) t ≤ supply p s t
  -- more first places supply no less
  pub more_supply : (order : Order) (p : ℕ) (ks : List Task) (f q more s t : ℕ) → q ≤ more →
      supply (with_first order p ks f q) s t ≤ supply (with_first order p ks f more) s t
  -- what passes at a tick that is not owned passes at the next tick
  pub later : (p : Partition) (i r s : ℕ) → p.owns s ≡ false → PassesIn p i r s → PassesIn p i r (s + 1)
  -- what passes after an owned tick passes at that tick
  pub earlier : (p : Partition) (i r s : ℕ) → p.owns s ≡ true → PassesIn p i r (s + 1) → PassesIn p i r s
  -- what passes at the start 0 and wherever a gap begins passes at every start
  pub gaps_suffice : (p : Partition) (f i r : ℕ) → Repeats p f → PassesIn p i r 0 →
      ((s : ℕ) → s + 1 < f → p.owns s ≡ true → p.owns (s + 1) ≡ false → PassesIn p i r (s + 1)) →
      (s : ℕ) → s < f → PassesIn p i r s
  -- with the first q places one start decides: the one after them
  pub one_suffices : (order : Order) (p : ℕ) (ks : List Task) (f q i r : ℕ) → 1 ≤ f → q ≤ f →
      PassesIn (with_first order p ks f q) i r (q % f) → (s : ℕ) → s < f → PassesIn (with_first order p ks f q) i r s
  -- with more places what passes still passes
  pub more_is_no_worse : (order : Order) (p : ℕ) (ks : List Task) (f q more i r s : ℕ) → q ≤ more →
      PassesIn (with_first order p ks f q) i r s → PassesIn (with_first order p ks f more) i r s
