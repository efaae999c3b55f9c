use Rattle.std.proofs.Common.{rules}
use Rattle.std.proofs.lemmas.List.{take_rest}
use Rattle.tape.proofs.command.operands.Goals as goal

pub returns-in-80-clause-answer : goal.returns-in-80-clause-answer
returns-in-80-clause-answer c = rw take_rest (search rules)

pub returns-in-70-clause-answer : goal.returns-in-70-clause-answer
returns-in-70-clause-answer c = rw take_rest (search rules)

pub returns-in-69-clause-answer : goal.returns-in-69-clause-answer
returns-in-69-clause-answer c = rw take_rest (search rules)
