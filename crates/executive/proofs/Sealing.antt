-- What sealing and starting rest on.
use Rattle.std.proofs.Common.{◌≡◌, ℕ, zero, suc, ◌≤◌, true, length, get_or, replicate, sym, refl, ◌∙◌}
use Rattle.std.proofs.lemmas.Bool.{and_parts, false≢true, leb-true}
use Rattle.model.specs.declared.verdict.Verdict.{Verdict}
use Rattle.model.specs.declared.verdict.Verdict.TheVariants.{Cleared, Foreign, Late}
use Rattle.model.specs.Machine.{by_order}
use Rattle.model.specs.Modules.{Module}
use Rattle.model.specs.Orders.{Order}
use Rattle.model.specs.Promises.{NeverLate, plain}
use Rattle.model.specs.Timetables.{Timetable}
use Rattle.model.specs.Verdicts.{Lawful, verdict_on}
use Rattle.model.proofs.ClearedNeverLate.{never}
use Rattle.draft.specs.declared.draft.Draft.{Draft}
use Rattle.draft.specs.Drafts.{module_of}
use Rattle.draft.proofs.Modules.{draft_within}
use Rattle.promises.proofs.Promises.{cleared_verdict}
use Rattle.executive.specs.States.{clears}

pub few : (d : Draft) → length (module_of d) ≤ 8
few d = leb-true _ _ (and_parts _ _ (draft_within d)).0

cleared_is : (v : Verdict) → clears v ≡ true → v ≡ Cleared
cleared_is Cleared e = refl
cleared_is (Foreign x) e = absurd (false≢true e)
cleared_is (Late k) e = absurd (false≢true e)

-- where the verdict clears, no job is ever late
pub clears_never_late : (t : Timetable) (order : Order) (m : Module) → Lawful t order m → (v : Verdict) → v ≡ verdict_on t t order m → clears v ≡ true → NeverLate (plain t (by_order order)) m
clears_never_late t order m law v told e = never t order m law (cleared_verdict {given = t} law (sym told ∙ cleared_is v e)).in_time

-- a list of like values has the value everywhere, and past its end
pub all_alike : {A : Type 0} (n : ℕ) (a : A) (p : ℕ) → get_or (replicate n a) p a ≡ a
all_alike zero a p = refl
all_alike (suc n) a zero = refl
all_alike (suc n) a (suc p) = all_alike n a p
