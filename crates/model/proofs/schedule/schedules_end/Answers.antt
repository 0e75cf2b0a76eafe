use Rattle.model.proofs.schedule.schedules_end.Goals as goal
use Rattle.model.proofs.ScheduleLaws.{schedules_end}

pub returns : goal.returns
returns c = schedules_end
