use Rattle.model.proofs.well_formed_place_by_place.Goals as goal
use Rattle.model.proofs.PlaceLaws.{well_formed_place_by_place}

pub returns : goal.returns
returns c = well_formed_place_by_place
