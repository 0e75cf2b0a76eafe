use Rattle.model.proofs.ladders.floors_part_the_levels.Goals as goal
use Rattle.model.proofs.LadderLaws.{floors_part_the_levels}

pub returns : goal.returns
returns c = floors_part_the_levels
