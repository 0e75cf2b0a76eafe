use Rattle.model.proofs.bytes_after_a_plan_are_refused.Goals as goal
use Rattle.model.proofs.BackLaws.{bytes_after_a_plan_are_refused}

pub returns : goal.returns
returns c = bytes_after_a_plan_are_refused
