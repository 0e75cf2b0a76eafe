use Rattle.model.proofs.schedule.a_core_runs_one_task_at_a_time.Goals as goal
use Rattle.model.proofs.ScheduleLaws.{a_core_runs_one_task_at_a_time}

pub returns : goal.returns
returns c = a_core_runs_one_task_at_a_time
