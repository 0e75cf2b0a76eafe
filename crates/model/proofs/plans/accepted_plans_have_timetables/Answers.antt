use Rattle.model.proofs.Timetables.{accepted_plans_have_timetables}
use Rattle.model.proofs.plans.accepted_plans_have_timetables.Goals as goal

pub returns : goal.returns
returns c = accepted_plans_have_timetables
