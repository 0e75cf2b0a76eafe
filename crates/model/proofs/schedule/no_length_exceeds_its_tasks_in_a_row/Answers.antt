use Rattle.model.proofs.schedule.no_length_exceeds_its_tasks_in_a_row.Goals as goal
use Rattle.model.proofs.LengthLaws.{no_length_exceeds_its_tasks_in_a_row}

pub returns : goal.returns
returns c = no_length_exceeds_its_tasks_in_a_row
