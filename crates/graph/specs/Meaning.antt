-- What tasks and segments mean.
use Rattle.std.specs.Prelude.{ℕ, List, map, vec_items}
use Rattle.graph.specs.declared.parts.Segment.{Segment}
use Rattle.graph.specs.declared.parts.Task.{Task}
use Rattle.model.specs.Graph as model

abbrev pub task_of : Task → model.Task
task_of t = record { name = vec_items t.name; worst = t.worst; predecessors = vec_items t.predecessors }

abbrev pub segment_of : Segment → model.Segment
segment_of s = record { tasks = map task_of (vec_items s.tasks); exits = vec_items s.exits }

abbrev pub graph_with : ℕ → ℕ → List Segment → model.Graph
graph_with cores deadline segments = record { cores = cores; deadline = deadline; segments = map segment_of segments }
