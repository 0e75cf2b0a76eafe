use Rattle.model.proofs.schedule.starts_never_fall.Goals as goal
use Rattle.model.proofs.ScheduleLaws.{starts_never_fall}

pub returns : goal.returns
returns c = starts_never_fall
