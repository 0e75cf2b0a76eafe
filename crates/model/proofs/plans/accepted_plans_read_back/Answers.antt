use Rattle.model.proofs.plans.accepted_plans_read_back.Goals as goal
use Rattle.model.proofs.PlanLaws.{accepted_plans_read_back}

pub returns : goal.returns
returns c = accepted_plans_read_back
