use Rattle.model.proofs.plans.plan_refusals_are_on_the_card.Goals as goal
use Rattle.model.proofs.PlanLaws.{plan_refusals_are_on_the_card}

pub returns : goal.returns
returns c = plan_refusals_are_on_the_card
