use Rattle.std.proofs.Common.{length}
use Rattle.tape_reader.specs.Loads.{progress}
use Rattle.tape.proofs.Reading.{Standing}
use Rattle.tape_reader.proofs.reader.load_tape.Given as goal

abbrev pub invariant-loop-load : goal.invariant-loop-load
invariant-loop-load l = Standing l.tape (progress l.load) l.rest

abbrev pub decreases-loop-load : goal.decreases-loop-load
decreases-loop-load l = length l.rest
