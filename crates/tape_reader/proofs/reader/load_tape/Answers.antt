use Rattle.std.proofs.Common.{◌≡◌, ◌-◌, length, sym, subst, arith, rules}
use Rattle.draft.proofs.Modules.{draft_within}
use Rattle.tape_reader.specs.Loads.{progress}
use Rattle.std.proofs.lemmas.Result.{err_from_is_err_and}
use Rattle.tape.specs.Faults.{breach}
use Rattle.tape.proofs.Reading.{Standing, no_end, standing_start, standing_next}
use Rattle.tape.specs.declared.command.Command.TheVariants.{End}
use Rattle.tape_reader.specs.declared.reader.ReadRefusal.TheVariants.{Fault}
use Rattle.tape_reader.proofs.Mapped.{mapped_ok, mapped_err}
use Rattle.tape_reader.proofs.Whole.{load_offset, loaded_at_end, standing_told}
use Rattle.tape_reader.proofs.reader.load_tape.Goals as goal

pub loop-load-init : goal.loop-load-init
loop-load-init c = subst (λ l. Standing c.args.tape.now l c.args.tape.now) (sym c.new-load.ensures) (standing_start c.args.tape.now)

pub overflow_sub-offset : goal.overflow_sub-offset
overflow_sub-offset c = (load_offset c.args.tape.now c.loop-load.load c.loop-load.rest.now c.loop-load.invariant).1

pub overflow_cast-offset : goal.overflow_cast-offset
overflow_cast-offset c =
    record { fits = omega (arith, load_offset c.args.tape.now c.loop-load.load c.loop-load.rest.now c.loop-load.invariant) }

pub ended-requires : goal.ended-requires
ended-requires c = omega (arith, load_offset c.args.tape.now c.loop-load.load c.loop-load.rest.now c.loop-load.invariant)

pub returns-in_err-command-clause-answer : goal.returns-in_err-command-clause-answer
returns-in_err-command-clause-answer c =
    let tape = c.args.tape.now in
    let xs = c.loop-load.rest.now in
    let p = err_from_is_err_and c.from_residual.result c.from_residual.ensures.1 in
    let f = mapped_err _ c.step.result c.map_err.result c.in_err-command.field-0.0 c.map_err.ensures.cases c.in_err-command.was in
    let here : c.in_err-command.field-0.0 ≡ Fault f.0 (length tape - length xs) = let k = f.2 in search rules in
    let fails = rw f.1 at c.step.ensures.answer in
    rw (p.1, p.2, here) (standing_told tape (progress c.loop-load.load) xs c.loop-load.invariant (draft_within c.loop-load.load.draft) (breach f.0) fails)

pub returns-then-eq : goal.returns-then-eq
returns-then-eq c =
    let tape = c.args.tape.now in
    let xs = c.loop-load.rest.now in
    let m = c.in_ok-command.command in
    let rest = c.in_ok-command.after in
    let ok = mapped_ok _ c.step.result c.map_err.result (m, rest) c.map_err.ensures.cases c.in_ok-command.was in
    let e = rw ok at c.step.ensures.bytes in
    let r = rw ok at c.step.ensures.answer in
    let end : m ≡ End = search rules in
    rw c.ended.ensures (loaded_at_end tape (progress c.loop-load.load) xs c.loop-load.invariant m rest.now c.step.new.load e r end (draft_within c.loop-load.load.draft))

pub loop-load-preserved : goal.loop-load-preserved
loop-load-preserved c =
    let tape = c.args.tape.now in
    let xs = c.loop-load.rest.now in
    let m = c.in_ok-command.command in
    let rest = c.in_ok-command.after in
    let ok = mapped_ok _ c.step.result c.map_err.result (m, rest) c.map_err.ensures.cases c.in_ok-command.was in
    let e = rw ok at c.step.ensures.bytes in
    let r = rw ok at c.step.ensures.answer in
    standing_next tape (progress c.loop-load.load) xs c.loop-load.invariant m rest.now (progress c.step.new.load) e r (no_end m (search rules))
