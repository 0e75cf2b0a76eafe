-- The laws over canonical schedules, one name each.
use Rattle.std.specs.Prelude.{◌≡◌, ℕ, ◌+◌, ◌*◌, ◌<◌, ◌≤◌, Bool, ◌&&◌, ◌⊎◌, [], length, take, filter, nat_le, nat_lt}
use Rattle.model.specs.Canonical.{Start, end_of, next, after, canonical, order, nth, length_of}
use Rattle.model.specs.Graph.{Graph, Segment, tasks_in}
use Rattle.model.specs.Limits.{most_worst}
use Rattle.model.specs.Lists.{In, Apart}
use Rattle.model.specs.Places.{task, segment, count, exits_of, Formed}
use Rattle.model.specs.Times.{remaining, needed, shift}

-- the predecessors of a segment's tasks are lower tasks
abbrev pub Lower : Segment → Type 0
Lower s = (t u : ℕ) → t < length s.tasks → In u (task s t).predecessors → u < t

-- the order has every task of the segment, nothing else, and none twice
pub record Whole (cores : ℕ) (s : Segment) : Type 0 where
  pub each : (t : ℕ) → t < length s.tasks → In t (order cores s)
  pub only : (t : ℕ) → In t (order cores s) → t < length s.tasks
  pub once : Apart (order cores s)

abbrev pub EveryTaskStartsOnce : Type 0
EveryTaskStartsOnce = (cores : ℕ) (s : Segment) → 1 ≤ cores → Lower s → Whole cores s

-- starts along the order never fall
abbrev pub StartsNeverFall : Type 0
StartsNeverFall =
    (cores : ℕ) (s : Segment) (j k : ℕ) → j ≤ k → k < length (canonical cores s) → (nth cores s j).at ≤ (nth cores s k).at

-- every predecessor of a task comes earlier in the order, and ends at or before the task's start
abbrev pub PredecessorsEndFirst : Type 0
PredecessorsEndFirst =
    (cores : ℕ) (s : Segment) (k t : ℕ) → k < length (canonical cores s) → In t (task s (nth cores s k).task).predecessors
    → (j : ℕ) × (j < k) × ((nth cores s j).task ≡ t) × (end_of s (nth cores s j) ≤ (nth cores s k).at)

module _ (s : Segment) (m : ℕ) where
  -- the task ends after the moment m
  abbrev pub ends_after : Start → Bool
  ends_after x = nat_lt m (end_of s x)

  -- the task has started by then, and ends after it
  abbrev pub under_way : Start → Bool
  under_way x = nat_le x.at m && ends_after x

-- at each place of the order fewer of the earlier tasks than there are cores end after this task's start
abbrev pub FewerThanCoresEndLater : Type 0
FewerThanCoresEndLater =
    (cores : ℕ) (s : Segment) (k : ℕ) → k < length (canonical cores s)
    → length (filter (ends_after s (nth cores s k).at) (take k (canonical cores s))) < cores

-- no core is idle while a task is ready: at every moment from the end of a task's predecessors to its start
-- as many tasks are under way as there are cores
abbrev pub NoCoreIdlesWhileATaskIsReady : Type 0
NoCoreIdlesWhileATaskIsReady =
    (cores : ℕ) (s : Segment) (k m : ℕ) → k < length (canonical cores s) → m < (nth cores s k).at
    → ((j : ℕ) → j < length (canonical cores s) → In (nth cores s j).task (task s (nth cores s k).task).predecessors → end_of s (nth cores s j) ≤ m)
    → cores ≤ length (filter (under_way s m) (canonical cores s))

-- the first ready task starts: of two tasks, where the predecessors of the later had all started before the earlier one's start
-- and ended by it, the earlier has the larger worst, or the same and the lower number
abbrev pub TheFirstReadyTaskStarts : Type 0
TheFirstReadyTaskStarts =
    (cores : ℕ) (s : Segment) (j k : ℕ) → j < k → k < length (canonical cores s)
    → ((i : ℕ) → i < length (canonical cores s) → In (nth cores s i).task (task s (nth cores s k).task).predecessors
    → ((nth cores s i).at < (nth cores s j).at) × (end_of s (nth cores s i) ≤ (nth cores s j).at))
    → ((task s (nth cores s k).task).worst < (task s (nth cores s j).task).worst)
    ⊎ (((task s (nth cores s j).task).worst ≡ (task s (nth cores s k).task).worst) × ((nth cores s j).task < (nth cores s k).task))

-- every task runs on one of the cores, and of two tasks on one core the earlier in the order ends at or before the later starts
abbrev pub ACoreRunsOneTaskAtATime : Type 0
ACoreRunsOneTaskAtATime =
    (cores : ℕ) (s : Segment) (k : ℕ) → k < length (canonical cores s)
    → ((nth cores s k).core < cores)
    × ((j : ℕ) → j < k → (nth cores s j).core ≡ (nth cores s k).core → end_of s (nth cores s j) ≤ (nth cores s k).at)

-- no task ends after the length, and where there is a task one ends then
abbrev pub TheLengthIsTheLastEnd : Type 0
TheLengthIsTheLastEnd =
    (cores : ℕ) (s : Segment) → 1 ≤ cores → Lower s
    → ((k : ℕ) → k < length (canonical cores s) → end_of s (nth cores s k) ≤ length_of cores s)
    × (1 ≤ length s.tasks → (k : ℕ) × (k < length (canonical cores s)) × (end_of s (nth cores s k) ≡ length_of cores s))

-- after two events for each task nothing is left to happen
abbrev pub SchedulesEnd : Type 0
SchedulesEnd =
    (cores : ℕ) (s : Segment) → 1 ≤ cores → next cores s (after cores s (2 * length s.tasks)) ≡ after cores s (2 * length s.tasks)

-- a segment's length and the remaining length of any of its exits are at most its own remaining length
abbrev pub EveryExitFits : Type 0
EveryExitFits =
    (g : Graph) → Formed g → (s e : ℕ) → s < count g → In e (exits_of g s)
    → length_of g.cores (segment g s) + remaining g e ≤ remaining g s

-- and for some exit equal; a segment with no exits has its length remaining
abbrev pub SomeExitFills : Type 0
SomeExitFills =
    (g : Graph) → Formed g → (s : ℕ) → s < count g
    → ((e : ℕ) × In e (exits_of g s) × (length_of g.cores (segment g s) + remaining g e ≡ remaining g s))
    ⊎ ((exits_of g s ≡ []) × (remaining g s ≡ length_of g.cores (segment g s)))

-- no segment has more remaining than is needed
abbrev pub NoSegmentNeedsMore : Type 0
NoSegmentNeedsMore = (g : Graph) → Formed g → (s : ℕ) → s < count g → remaining g s ≤ needed g

-- so where the needed length is within the deadline, no shift is cut off at 0
abbrev pub NoShiftIsCutOff : Type 0
NoShiftIsCutOff =
    (g : Graph) → Formed g → needed g ≤ g.deadline → (s : ℕ) → s < count g → shift g s + remaining g s ≡ g.deadline

-- no segment has more remaining than all tasks of the graph would take in a row, each of the largest worst that a task may have
abbrev pub NoLengthExceedsItsTasksInARow : Type 0
NoLengthExceedsItsTasksInARow =
    (g : Graph) → Formed g → (s : ℕ) → s < count g → remaining g s ≤ tasks_in g.segments * most_worst
