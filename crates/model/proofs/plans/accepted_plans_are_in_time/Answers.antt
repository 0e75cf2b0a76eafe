use Rattle.model.proofs.plans.accepted_plans_are_in_time.Goals as goal
use Rattle.model.proofs.PlanLaws.{accepted_plans_are_in_time}

pub returns : goal.returns
returns c = accepted_plans_are_in_time
