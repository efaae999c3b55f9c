use Rattle.std.proofs.Common.{◌≡◌, vec_items}
use Rattle.draft.specs.Drafts.{module_of}
use Rattle.schedule.specs.Earliest.{earliest_calls}
use Rattle.schedule.proofs.earliest.earliest_releases.Given as goal

abbrev pub invariant-loop-tick : goal.invariant-loop-tick
invariant-loop-tick l = vec_items l.calls ≡ earliest_calls (module_of l.draft) l.tick
