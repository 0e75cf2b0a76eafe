use Rattle.model.proofs.LineLaws.{every_task_has_a_line}
use Rattle.model.proofs.plans.every_task_has_a_line.Goals as goal

pub returns : goal.returns
returns c = every_task_has_a_line
