-- The laws over accepting a plan, one name each.
use Rattle.std.specs.Prelude.{◌≡◌, ℕ, ◌≤◌, cond, List, length, Ok, Err, nat_lt}
use Rattle.fault.specs.declared.kind.Fault.{Fault}
use Rattle.fault.specs.declared.kind.Kind.TheVariants.{OverDeadline}
use Rattle.fault.specs.Card.{fault, OnCard}
use Rattle.model.specs.Accepting.{tasks_of_largest, Accepted, accepting, plan_reading}
use Rattle.model.specs.Graph.{Graph, tasks_in}
use Rattle.model.specs.Limits.{most_cores, most_tasks}
use Rattle.model.specs.LineRecords.{Line, lines}
use Rattle.model.specs.Lists.{In}
use Rattle.model.specs.Places.{Formed}
use Rattle.model.specs.Times.{needed}
use Rattle.model.specs.Timetables.{Timetabled}
use Rattle.model.specs.Writing.{graph_bytes}

-- a plan that is read is accepted, its bytes are those of its graph, and the cells suffice for it
abbrev pub AcceptedPlansAreInTime : Type 0
AcceptedPlansAreInTime =
    (ready running : ℕ) (bs : List ℕ) (g : Graph) → plan_reading ready running bs ≡ Ok g
    → Accepted g × (bs ≡ graph_bytes g) × (tasks_of_largest g.segments ≤ ready) × (g.cores ≤ running)

-- the bytes of an accepted graph read back to it, in cells that suffice for it
abbrev pub AcceptedPlansReadBack : Type 0
AcceptedPlansReadBack =
    (ready running : ℕ) (g : Graph) → Accepted g → tasks_of_largest g.segments ≤ ready → g.cores ≤ running
    → plan_reading ready running (graph_bytes g) ≡ Ok g

-- a refusal carries a place that the card allows
abbrev pub PlanRefusalsAreOnTheCard : Type 0
PlanRefusalsAreOnTheCard = (ready running : ℕ) (bs : List ℕ) (f : Fault) → plan_reading ready running bs ≡ Err f → OnCard f

-- with as many cells as a plan may have tasks and cores, the deadline alone decides
abbrev pub CellsAtTheLimitsSuffice : Type 0
CellsAtTheLimitsSuffice =
    (ready running : ℕ) → most_tasks ≤ ready → most_cores ≤ running → (g : Graph) → Formed g
    → accepting ready running g ≡ cond (nat_lt g.deadline (needed g)) (Err (fault OverDeadline (needed g))) (Ok g)

-- there are as many line records as tasks
abbrev pub EveryTaskHasALine : Type 0
EveryTaskHasALine = (g : Graph) → Formed g → length (lines g) ≡ tasks_in g.segments

-- no line record of an accepted plan ends after the deadline
abbrev pub LatestEndsAreInTime : Type 0
LatestEndsAreInTime = (g : Graph) → Accepted g → (l : Line) → In l (lines g) → l.end ≤ g.deadline

-- the latest times of an accepted plan make a timetable of each segment, which fits what may follow
abbrev pub AcceptedPlansHaveTimetables : Type 0
AcceptedPlansHaveTimetables = (g : Graph) → Accepted g → Timetabled g
