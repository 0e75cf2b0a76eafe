use Rattle.model.proofs.LineLaws.{latest_ends_are_in_time}
use Rattle.model.proofs.plans.latest_ends_are_in_time.Goals as goal

pub returns : goal.returns
returns c = latest_ends_are_in_time
