use Rattle.model.proofs.ladders.full_speed_takes_the_work.Goals as goal
use Rattle.model.proofs.LadderLaws.{full_speed_takes_the_work}

pub returns : goal.returns
returns c = full_speed_takes_the_work
