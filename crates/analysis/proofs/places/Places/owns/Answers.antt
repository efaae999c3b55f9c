use Rattle.analysis.proofs.Placing.{place_owned}
use Rattle.analysis.proofs.places.Places.owns.Goals as goal

pub returns : goal.returns
returns c = place_owned c.args.self.now c.args.place c.requires
