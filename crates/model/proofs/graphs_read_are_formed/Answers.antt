use Rattle.model.proofs.graphs_read_are_formed.Goals as goal
use Rattle.model.proofs.GraphLaws.{graphs_read_are_formed}

pub returns : goal.returns
returns c = graphs_read_are_formed
