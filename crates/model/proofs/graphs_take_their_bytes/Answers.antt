use Rattle.model.proofs.graphs_take_their_bytes.Goals as goal
use Rattle.model.proofs.GraphLaws.{graphs_take_their_bytes}

pub returns : goal.returns
returns c = graphs_take_their_bytes
