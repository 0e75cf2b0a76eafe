use Rattle.model.proofs.schedule.predecessors_end_first.Goals as goal
use Rattle.model.proofs.ScheduleLaws.{predecessors_end_first}

pub returns : goal.returns
returns c = predecessors_end_first
