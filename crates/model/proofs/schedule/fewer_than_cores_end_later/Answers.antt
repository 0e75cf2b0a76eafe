use Rattle.model.proofs.schedule.fewer_than_cores_end_later.Goals as goal
use Rattle.model.proofs.ScheduleLaws.{fewer_than_cores_end_later}

pub returns : goal.returns
returns c = fewer_than_cores_end_later
