-- What a graph means.
use Rattle.std.specs.Prelude.{vec_items}
use Rattle.graph.specs.declared.structure.Graph.{Graph}
use Rattle.graph.specs.Meaning.{graph_with}
use Rattle.model.specs.Graph as model

abbrev pub graph_of : Graph → model.Graph
graph_of g = graph_with g.cores g.deadline (vec_items g.segments)
