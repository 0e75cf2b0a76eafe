use Rattle.model.proofs.frames.every_run_keeps.Goals as goal
use Rattle.model.proofs.RunLaws.{every_run_keeps}

pub returns : goal.returns
returns c = every_run_keeps
