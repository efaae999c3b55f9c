use Rattle.tape.proofs.FirstFault.{first_fault}
use Rattle.tape.proofs.theorems.first_fault_stands.Goals as goal

pub returns : goal.returns
returns c = first_fault
