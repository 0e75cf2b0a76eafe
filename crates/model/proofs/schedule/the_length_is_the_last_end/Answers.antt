use Rattle.model.proofs.schedule.the_length_is_the_last_end.Goals as goal
use Rattle.model.proofs.ScheduleLaws.{the_length_is_the_last_end}

pub returns : goal.returns
returns c = the_length_is_the_last_end
