use Rattle.model.proofs.ladders.refusals_name_the_first_bad_level.Goals as goal
use Rattle.model.proofs.MakingLaws.{refusals_name_the_first_bad_level}

pub returns : goal.returns
returns c = refusals_name_the_first_bad_level
