-- Timetables: what a run asks of a schedule.
use Rattle.std.specs.Prelude.{◌≡◌, ℕ, ◌+◌, ◌<◌, ◌≤◌, List, length, take, slice_index}
use Rattle.model.specs.Canonical.{lasts}
use Rattle.model.specs.Graph.{Graph}
use Rattle.model.specs.Lists.{In, Apart}
use Rattle.model.specs.Places.{segment, count, exits_of, task_of}
use Rattle.model.specs.Times.{remaining, order_of, latest_start, latest_end}

-- a segment's tasks in an order, each with the latest times to begin and to finish,
-- between the latest time to enter the segment and the latest time to be done with it
pub record Timetable (cores : ℕ) (predecessors : ℕ → List ℕ) (worst : ℕ → ℕ) (order : List ℕ) (begin finish : ℕ → ℕ) (entry close : ℕ) : Type 0 where
  -- no task comes twice, and they begin in order
  pub fresh : (k : ℕ) → k < length order → In (slice_index order k) (take k order) → ⊥
  pub rises : (k t : ℕ) → k < length order → In t (take k order) → begin t ≤ begin (slice_index order k)
  -- predecessors come earlier, and finish before the task begins
  pub awaited : (k t : ℕ) → k < length order → In t (predecessors (slice_index order k)) → In t (take k order) × (finish t ≤ begin (slice_index order k))
  -- of the earlier tasks, fewer than there are cores finish after it begins
  pub few : (k : ℕ) → k < length order → (ts : List ℕ) → Apart ts → ((t : ℕ) → In t ts → In t (take k order) × (begin (slice_index order k) < finish t)) → length ts < cores
  pub lasts : (t : ℕ) → begin t + worst t ≡ finish t
  pub opens : (t : ℕ) → entry ≤ begin t
  pub closes : (t : ℕ) → In t order → finish t ≤ close
  pub spans : entry ≤ close

-- a segment of the graph from which the rest fits in the deadline
abbrev pub Fits : Graph → ℕ → Type 0
Fits g s = (s < count g) × (remaining g s ≤ g.deadline)

-- a timetable of each segment, by its latest times; these fit from a segment to each of its exits, and in the deadline
pub record Timetabled (g : Graph) : Type 0 where
  pub entry : ℕ → ℕ
  pub close : ℕ → ℕ
  pub table : (s : ℕ) → Timetable g.cores (λ t. (task_of g s t).predecessors) (lasts (segment g s)) (order_of g s) (latest_start g s) (latest_end g s) (entry s) (close s)
  pub first : Fits g 0
  pub onward : (s i : ℕ) → Fits g s → i < length (exits_of g s) → Fits g (slice_index (exits_of g s) i) × (close s ≤ entry (slice_index (exits_of g s) i))
  pub in_deadline : (s : ℕ) → Fits g s → close s ≤ g.deadline
