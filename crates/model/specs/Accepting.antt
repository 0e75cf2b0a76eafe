-- Accepting a plan: the faults that come after those of its bytes.
use Rattle.std.specs.Prelude.{ℕ, ◌≤◌, max, cond, List, [], ◌∷◌, length, Ok, Err, Result, nat_lt}
use Rattle.fault.specs.Card.{fault}
use Rattle.fault.specs.declared.kind.Fault.{Fault}
use Rattle.fault.specs.declared.kind.Kind.TheVariants.{TooSmall, OverDeadline}
use Rattle.model.specs.Graph.{Graph, Segment}
use Rattle.model.specs.Places.{no_task, Formed}
use Rattle.model.specs.Reading.{reading}
use Rattle.model.specs.Times.{needed}

-- how many tasks the largest of some segments has
abbrev pub tasks_of_largest : List Segment → ℕ
tasks_of_largest [] = 0
tasks_of_largest (s ∷ ss) = max (length s.tasks) (tasks_of_largest ss)

-- a graph that is well-formed and needs no longer than its deadline
pub record Accepted (g : Graph) : Type 0 where
  pub formed : Formed g
  pub in_time : needed g ≤ g.deadline

-- what a fresh place holds: one core, deadline 0, and one nameless task of worst 0
abbrev pub fresh : Graph
fresh = record { cores = 1; deadline = 0; segments = record { tasks = no_task ∷ []; exits = [] } ∷ [] }

module _ (ready running : ℕ) where
  -- too few ready cells, then too few running ones, then a needed length above the deadline
  abbrev pub accepting : Graph → Result Graph Fault
  accepting g =
      cond (nat_lt ready (tasks_of_largest g.segments)) (Err (fault TooSmall (tasks_of_largest g.segments)))
      (cond (nat_lt running g.cores) (Err (fault TooSmall g.cores))
      (cond (nat_lt g.deadline (needed g)) (Err (fault OverDeadline (needed g)))
      (Ok g)))

  -- goes on with a graph that was read
  abbrev pub then_accepting : Result Graph Fault → Result Graph Fault
  then_accepting (Ok g) = accepting g
  then_accepting (Err f) = Err f

  -- the plan that a run of bytes describes, or why it is refused, in so many cells
  abbrev pub plan_reading : List ℕ → Result Graph Fault
  plan_reading bs = then_accepting (reading bs)
