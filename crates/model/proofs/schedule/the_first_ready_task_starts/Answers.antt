use Rattle.model.proofs.schedule.the_first_ready_task_starts.Goals as goal
use Rattle.model.proofs.ScheduleLaws.{the_first_ready_task_starts}

pub returns : goal.returns
returns c = the_first_ready_task_starts
