use Rattle.model.proofs.schedule.some_exit_fills.Goals as goal
use Rattle.model.proofs.LengthLaws.{some_exit_fills}

pub returns : goal.returns
returns c = some_exit_fills
