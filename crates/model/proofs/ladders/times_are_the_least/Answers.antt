use Rattle.model.proofs.ladders.times_are_the_least.Goals as goal
use Rattle.model.proofs.LadderLaws.{times_are_the_least}

pub returns : goal.returns
returns c = times_are_the_least
