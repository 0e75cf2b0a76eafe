use Rattle.model.proofs.schedule.every_task_starts_once.Goals as goal
use Rattle.model.proofs.ScheduleLaws.{every_task_starts_once}

pub returns : goal.returns
returns c = every_task_starts_once
