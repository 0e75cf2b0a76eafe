-- The bytes of a plan.
use Rattle.std.specs.Prelude.{◌≡◌, ℕ, ◌<◌, ◌≤◌, List, ◌++◌, length, drop, Ok, Err, Result}
use Rattle.std.specs.List.{flat_map}
use Rattle.fault.specs.declared.kind.Fault.{Fault}
use Rattle.fault.specs.declared.kind.Kind.TheVariants.{TooSmall}
use Rattle.fault.specs.Card.{fault}
use Rattle.model.specs.Graph.{Graph, Segment, Task}
use Rattle.model.specs.Numbers.{number_bytes}

-- how many, and then each
abbrev pub listed : {X : Type 0} → (X → List ℕ) → List X → List ℕ
listed bytes xs = number_bytes (length xs) ++ flat_map bytes xs

abbrev pub task_bytes : Task → List ℕ
task_bytes t =
    number_bytes (length t.name) ++ (t.name ++ (number_bytes t.worst ++ listed number_bytes t.predecessors))

abbrev pub segment_bytes : Segment → List ℕ
segment_bytes s = listed task_bytes s.tasks ++ listed number_bytes s.exits

abbrev pub graph_bytes : Graph → List ℕ
graph_bytes g = number_bytes g.cores ++ (number_bytes g.deadline ++ listed segment_bytes g.segments)

-- what a writer answers that was to put these items first in a run, and what the run holds after it
abbrev pub Written : {X : Type 0} → List X → Result ℕ Fault → List X → List X → Type 0
Written xs (Ok n) run after = (n ≡ length xs) × (n ≤ length run) × (after ≡ xs ++ drop n run)
Written xs (Err f) run after = (f ≡ fault TooSmall (length xs)) × (length run < length xs) × (after ≡ run)
