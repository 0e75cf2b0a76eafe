use Rattle.model.proofs.schedule.no_core_idles_while_a_task_is_ready.Goals as goal
use Rattle.model.proofs.ScheduleLaws.{no_core_idles_while_a_task_is_ready}

pub returns : goal.returns
returns c = no_core_idles_while_a_task_is_ready
