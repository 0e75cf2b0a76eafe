-- Collecting the followers of each task.
use Rattle.std.specs.Prelude.{◌≡◌, ℕ, ◌<◌, List, [], ◌++◌, length, replicate, filter, slice_index_or}
use Rattle.std.specs.List.{range_with_len}
use Rattle.model.specs.Graph.{Segment}
use Rattle.model.specs.Lists.{has}
use Rattle.model.specs.Places.{task}
use Rattle.schedule_laws.specs.Counting.{times}

-- a task was added to the followers of each of its predecessors
pub record Followed (number : ℕ) (predecessors : List ℕ) (follows follows' : List (List ℕ)) : Type 0 where
  pub long : length follows' ≡ length follows
  pub gains : (q : ℕ) → q < length follows → slice_index_or follows' q [] ≡ slice_index_or follows q [] ++ replicate (times (λ u. u) q predecessors) number

-- each task has those of its followers that are among the first i tasks
pub record Following (s : Segment) (i : ℕ) (follows : List (List ℕ)) : Type 0 where
  pub long : length follows ≡ length s.tasks
  pub each : (q : ℕ) → q < length s.tasks → slice_index_or follows q [] ≡ filter (λ t. has (task s t).predecessors q) (range_with_len 0 i)
