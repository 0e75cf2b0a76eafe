use Rattle.model.proofs.numbers_take_their_bytes.Goals as goal
use Rattle.model.proofs.NumberLaws.{numbers_take_their_bytes}

pub returns : goal.returns
returns c = numbers_take_their_bytes
