use Rattle.model.proofs.plans.cells_at_the_limits_suffice.Goals as goal
use Rattle.model.proofs.PlanLaws.{cells_at_the_limits_suffice}

pub returns : goal.returns
returns c = cells_at_the_limits_suffice
