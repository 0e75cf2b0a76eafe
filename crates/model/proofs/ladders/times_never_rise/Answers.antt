use Rattle.model.proofs.ladders.times_never_rise.Goals as goal
use Rattle.model.proofs.LadderLaws.{times_never_rise}

pub returns : goal.returns
returns c = times_never_rise
