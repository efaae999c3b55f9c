use Rattle.promises.proofs.Promises.{exact_verdict}
use Rattle.promises.proofs.verdict_is_exact.Goals as goal

pub returns : goal.returns
returns c = λ given running order m law. exact_verdict law
