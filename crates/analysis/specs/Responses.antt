-- How a task responds: within how many ticks it passes, or where it does not.
use Rattle.std.specs.Prelude.{◌≡◌, ℕ, ◌-◌, ◌<◌, ◌≤◌, Bool, true, false, not, ◌&&◌, ◌||◌, ◌==◌}
use Rattle.model.specs.InTime.{Partition, D, Passes, PassesIn}
use Rattle.analysis.specs.declared.response.Wanted.{Wanted}
use Rattle.analysis.specs.declared.response.Wanted.TheVariants.{Any, First}

-- whether the first start that fails is wanted, and not any
abbrev pub wants_first : Wanted → Bool
wants_first Any = false
wants_first First = true

-- whether the start s is tried: 0, and each that begins a gap; when the first start that fails is wanted, each after an owned tick
abbrev pub tried : (ℕ → Bool) → Bool → ℕ → Bool
tried owns first s = s == 0 || (owns (s - 1) && (first || not (owns s)))

-- task i passes within t ticks at every start of a frame of f, and t is no more than its deadline
abbrev pub Responds : Partition → ℕ → ℕ → ℕ → Type 0
Responds p f i t = (t ≤ D p i) × ((s : ℕ) → s < f → PassesIn p i t s)

-- task i does not pass at the start s; when the first such start is wanted, it is the first
abbrev pub FailsAt : Partition → ℕ → ℕ → Bool → ℕ → Type 0
FailsAt p f i first s = (s < f) × (Passes p i s → ⊥) × (first ≡ true → (r : ℕ) → r < s → Passes p i r)
