use Rattle.std.proofs.Common.{sym, ap, ◌∙◌, arith, rules}
use Rattle.draft.specs.Drafts.{module_of}
use Rattle.draft.proofs.Modules.{draft_within}
use Rattle.tape.specs.Loading.{decode}
use Rattle.tape.proofs.RoundTrip.{reads_back, short}
use Rattle.tape_writer.proofs.writer.write.Goals as goal

pub overflow_cast-result : goal.overflow_cast-result
overflow_cast-result c =
    let d = c.args.draft.now in
    record { fits = omega (arith, short (module_of d) c.args.frame c.args.windows.now (draft_within d) (sym c.in_ok-check_list.ensures), c.put_tape.ensures.at) }

pub returns-clause-back : goal.returns-clause-back
returns-clause-back c =
    let d = c.args.draft.now in
    let read = ap decode c.put_tape.ensures.front ∙ reads_back (module_of d) c.args.frame c.args.windows.now (draft_within d) (sym c.in_ok-check_list.ensures) in
    search (rules, read)
