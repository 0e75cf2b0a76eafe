use Rattle.model.proofs.faults_stand_at_their_numbers.Goals as goal
use Rattle.model.proofs.FaultLaws.{faults_stand_at_their_numbers}

pub returns : goal.returns
returns c = faults_stand_at_their_numbers
