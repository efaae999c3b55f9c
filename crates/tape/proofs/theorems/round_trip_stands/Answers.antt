use Rattle.tape.proofs.Again.{writes_again}
use Rattle.tape.proofs.RoundTrip.{reads_back, short}
use Rattle.tape.proofs.theorems.round_trip_stands.Goals as goal

pub returns : goal.returns
returns c = record { reads_back = reads_back; writes_again = writes_again; short = short }
