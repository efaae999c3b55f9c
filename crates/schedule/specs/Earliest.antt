-- The calls that release each task as early as allowed from tick 0 on.
use Rattle.std.specs.Prelude.{◌≡◌, ℕ, zero, suc, ◌+◌, ◌%◌, true, cond, ◌⊎◌, List, [], ◌∷◌, ◌++◌, Err, ◌==◌}
use Rattle.model.specs.declared.call.Call.{Call}
use Rattle.model.specs.declared.call.Call.TheVariants.{Tick as tick, Of as call}
use Rattle.model.specs.declared.call.Request.TheVariants.{Release as release}
use Rattle.model.specs.declared.refusal.Refusal.TheVariants.{TooSoon}
use Rattle.model.specs.declared.task.Task.{Task}
use Rattle.model.specs.Modules.{Module, HasTask}
use Rattle.model.specs.Machine.{Engine, new, reply}
use Rattle.model.specs.FlightRecords.{flown, accepted}

-- the release of task i of partition p at the tick u, which is due each whole period
abbrev pub release_at : ℕ → ℕ → ℕ → Task → List Call
release_at u p i k = cond (u % k.period == 0) (call p (release i) ∷ []) []

-- the releases of the tasks of partition p, from task i on
abbrev pub partition_releases : ℕ → ℕ → ℕ → List Task → List Call
partition_releases u p i [] = []
partition_releases u p i (k ∷ ks) = release_at u p i k ++ partition_releases u p (i + 1) ks

-- the releases of the partitions, from partition p on
abbrev pub module_releases : ℕ → ℕ → Module → List Call
module_releases u p [] = []
module_releases u p (ks ∷ m) = partition_releases u p 0 ks ++ module_releases u (p + 1) m

-- what is called at the tick u: the releases, then the tick
abbrev pub calls_at : Module → ℕ → List Call
calls_at m u = module_releases u 0 m ++ (tick ∷ [])

-- what is called over f ticks
abbrev pub earliest_calls : Module → ℕ → List Call
earliest_calls m zero = []
earliest_calls m (suc u) = earliest_calls m u ++ calls_at m u

-- Calls that release each task of m as early as allowed over f ticks, put to a new machine at tick 0, whatever its engine:
-- each is a tick or a release of one of the module's tasks; each is accepted; before each tick another release of any task
-- would be too soon; and there are f ticks.
pub record AsEarlyAsAllowed (m : Module) (f : ℕ) (cs : List Call) : Type 0 where
  pub tick_or_release : (earlier later : List Call) (c : Call) → cs ≡ earlier ++ (c ∷ later) →
      (c ≡ tick) ⊎ ((p : ℕ) × (i : ℕ) × HasTask m p i × (c ≡ call p (release i)))
  pub all_accepted : (g : Engine) (earlier later : List Call) (c : Call) → cs ≡ earlier ++ (c ∷ later) →
      accepted (reply g m (flown g m (new 0) earlier) c) ≡ true
  pub none_left : (g : Engine) (earlier later : List Call) → cs ≡ earlier ++ (tick ∷ later) → (p i : ℕ) → HasTask m p i →
      reply g m (flown g m (new 0) earlier) (call p (release i)) ≡ Err TooSoon
  pub all_ticks : (g : Engine) → (flown g m (new 0) cs).now ≡ f
