-- What a plan's bytes describe: an AND/OR graph of tasks, the cores to run it on, and a deadline.
use Rattle.std.specs.Prelude.{ℕ, ◌+◌, Bool, false, ◌||◌, List, [], ◌∷◌, length}
use Rattle.model.specs.Lists.{has}

-- a task: the bytes of its name, its worst-case execution time at full speed in ticks,
-- and its predecessors, the tasks of its segment that have to end before it starts
pub record Task : Type 0 where
  pub name : List ℕ
  pub worst : ℕ
  pub predecessors : List ℕ

-- a segment: the tasks between two OR nodes, and its exits, the segments of which one may follow
pub record Segment : Type 0 where
  pub tasks : List Task
  pub exits : List ℕ

pub record Graph : Type 0 where
  pub cores : ℕ
  pub deadline : ℕ
  pub segments : List Segment

-- how many predecessors some tasks have in all
abbrev pub predecessors_of : List Task → ℕ
predecessors_of [] = 0
predecessors_of (t ∷ ts) = length t.predecessors + predecessors_of ts

-- how many tasks, and how many predecessors, some segments have in all
abbrev pub tasks_in : List Segment → ℕ
tasks_in [] = 0
tasks_in (s ∷ ss) = length s.tasks + tasks_in ss

abbrev pub predecessors_in : List Segment → ℕ
predecessors_in [] = 0
predecessors_in (s ∷ ss) = predecessors_of s.tasks + predecessors_in ss

-- whether a segment is an exit of one of these
abbrev pub entered : List Segment → ℕ → Bool
entered [] e = false
entered (s ∷ ss) e = has s.exits e || entered ss e
