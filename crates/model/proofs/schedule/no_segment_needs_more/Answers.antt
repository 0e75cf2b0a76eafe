use Rattle.model.proofs.schedule.no_segment_needs_more.Goals as goal
use Rattle.model.proofs.LengthLaws.{no_segment_needs_more}

pub returns : goal.returns
returns c = no_segment_needs_more
