use Rattle.model.proofs.ladders.sound_speeds_make_a_ladder.Goals as goal
use Rattle.model.proofs.MakingLaws.{sound_speeds_make_a_ladder}

pub returns : goal.returns
returns c = sound_speeds_make_a_ladder
