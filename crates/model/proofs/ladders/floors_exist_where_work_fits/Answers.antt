use Rattle.model.proofs.ladders.floors_exist_where_work_fits.Goals as goal
use Rattle.model.proofs.LadderLaws.{floors_exist_where_work_fits}

pub returns : goal.returns
returns c = floors_exist_where_work_fits
