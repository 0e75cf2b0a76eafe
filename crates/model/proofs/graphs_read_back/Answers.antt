use Rattle.model.proofs.graphs_read_back.Goals as goal
use Rattle.model.proofs.BackLaws.{graphs_read_back}

pub returns : goal.returns
returns c = graphs_read_back
