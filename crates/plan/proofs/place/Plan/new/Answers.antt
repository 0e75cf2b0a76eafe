use Rattle.model.specs.Numbers as numbers
use Rattle.plan.proofs.place.Plan.new.Goals as goal

-- the fresh plan is what its bytes read as
pub returns : goal.returns
unfolding numbers.number
returns c = c.plan_of.ensures.answer
