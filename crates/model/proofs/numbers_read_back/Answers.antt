use Rattle.model.proofs.numbers_read_back.Goals as goal
use Rattle.model.proofs.NumberLaws.{numbers_read_back}

pub returns : goal.returns
returns c = numbers_read_back
