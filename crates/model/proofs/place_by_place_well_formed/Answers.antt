use Rattle.model.proofs.place_by_place_well_formed.Goals as goal
use Rattle.model.proofs.PlaceLaws.{place_by_place_well_formed}

pub returns : goal.returns
returns c = place_by_place_well_formed
