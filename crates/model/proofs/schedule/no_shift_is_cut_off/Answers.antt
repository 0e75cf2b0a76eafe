use Rattle.model.proofs.schedule.no_shift_is_cut_off.Goals as goal
use Rattle.model.proofs.LengthLaws.{no_shift_is_cut_off}

pub returns : goal.returns
returns c = no_shift_is_cut_off
