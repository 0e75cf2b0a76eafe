use Rattle.model.proofs.plans_cut_short_end_inside.Goals as goal
use Rattle.model.proofs.BackLaws.{plans_cut_short_end_inside}

pub returns : goal.returns
returns c = plans_cut_short_end_inside
