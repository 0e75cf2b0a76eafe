use Rattle.model.proofs.schedule.every_exit_fits.Goals as goal
use Rattle.model.proofs.LengthLaws.{every_exit_fits}

pub returns : goal.returns
returns c = every_exit_fits
