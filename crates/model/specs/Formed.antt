-- When a graph is well-formed: every limit and every order that a plan has to keep.
use Rattle.std.specs.Prelude.{ℕ, zero, suc, pred, ◌+◌, Bool, true, ◌&&◌, List, [], length, nat_le, nat_lt}
use Rattle.model.specs.Graph.{Graph, Segment, Task, tasks_in, predecessors_in, entered}
use Rattle.model.specs.Limits.{most_cores, most_deadline, most_segments, most_tasks, most_predecessors, most_exits, most_name, most_worst}
use Rattle.model.specs.Lists.{past, each}

abbrev pub within : ℕ → ℕ → ℕ → Bool
within low high n = nat_le low n && nat_le n high

-- the number may follow those before it: all of them rise, from `least` on and below `top`
abbrev pub rises : ℕ → ℕ → List ℕ → ℕ → Bool
rises least top before n = nat_lt n top && nat_le (past least before) n

-- a task, told the tasks of its segment before it: its predecessors rise and are lower tasks
abbrev pub task_formed : List Task → Task → Bool
task_formed before t =
    nat_le (length t.name) most_name && (nat_le t.worst most_worst && each (rises 0 (length before)) [] t.predecessors)

-- a segment of a plan of `segments`, told the segments before it: its exits rise and are higher segments of the plan
abbrev pub segment_formed : ℕ → List Segment → Segment → Bool
segment_formed segments before s =
    nat_le 1 (length s.tasks)
    && (each task_formed [] s.tasks
    && (nat_le (length s.exits) most_exits && each (rises (length before + 1) segments) [] s.exits))

-- the segments from k on, n of them, are each an exit of one of the plan's
abbrev pub all_entered : List Segment → ℕ → ℕ → Bool
all_entered ss k zero = true
all_entered ss k (suc n) = entered ss k && all_entered ss (k + 1) n

abbrev pub well_formed : Graph → Bool
well_formed g =
    within 1 most_cores g.cores
    && (within 0 most_deadline g.deadline
    && (within 1 most_segments (length g.segments)
    && (nat_le (tasks_in g.segments) most_tasks
    && (nat_le (predecessors_in g.segments) most_predecessors
    && (each (segment_formed (length g.segments)) [] g.segments
    && all_entered g.segments 1 (pred (length g.segments)))))))
