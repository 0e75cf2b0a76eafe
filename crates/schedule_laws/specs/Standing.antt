-- What a schedule keeps as it stands after some events: the entries of the ready tasks and of the running ones, how
-- many predecessors each task waits for, and which cores are taken.
use Rattle.std.specs.Prelude.{◌≡◌, ℕ, ◌*◌, ◌<◌, ◌≤◌, Bool, true, false, not, ◌&&◌, List, [], ◌∷◌, ◌++◌, length, filter, nat_lt, slice_index, slice_index_or}
use Rattle.std.specs.List.{range_with_len, AllByRecursion}
use Rattle.model.specs.Canonical.{Start, Progress, begun, lasts, end_of, ready}
use Rattle.model.specs.Graph.{Segment}
use Rattle.model.specs.Lists.{has, In, Apart}
use Rattle.model.specs.Places.{task}
use Rattle.queue.specs.declared.kinds.Ready.{Ready}
use Rattle.queue.specs.declared.kinds.Running.{Running}
use Rattle.schedule_laws.specs.Counting.{one, times, missing}

-- the progress once a task has ended
abbrev pub over : Progress → ℕ → Progress
over p t = record { moment = p.moment; starts = p.starts; ended = t ∷ p.ended }

-- the tasks that have a task as a predecessor, from the lowest on
abbrev pub followers : Segment → ℕ → List ℕ
followers s p = filter (λ t. has (task s t).predecessors p) (range_with_len 0 (length s.tasks))

-- the entry of one of the starts
abbrev pub EntryOf : Segment → List Start → Running → Type 0
EntryOf s xs e = (x : Start) × In x xs × (x.task ≡ e.task) × (x.core ≡ e.core) × (end_of s x ≡ e.end)

pub record Standing (cores : ℕ) (s : Segment) (p : Progress) (waits_for_core : List Ready) (runs : List Running) (waiting : List ℕ) (taken : List Bool) : Type 0 where
  -- the counts of predecessors that have not ended
  pub counted : length waiting ≡ length s.tasks
  pub counts : (t : ℕ) → t < length s.tasks → slice_index waiting t ≡ missing p.ended (task s t).predecessors
  -- each ready task has one entry
  pub ready_once : (t : ℕ) → times (λ (e : Ready). e.task) t waits_for_core ≡ one (nat_lt t (length s.tasks) && ready s p t)
  pub worsts : AllByRecursion (λ (e : Ready). e.worst ≡ lasts s e.task) waits_for_core
  -- so has each task that runs, and each core that is taken
  pub running_once : (t : ℕ) → times (λ (e : Running). e.task) t runs ≡ one (has (begun p.starts) t && not (has p.ended t))
  pub started : AllByRecursion (EntryOf s p.starts) runs
  pub cores_known : length taken ≡ 8
  pub core_once : (c : ℕ) → times (λ (e : Running). e.core) c runs ≡ one (slice_index_or taken c false)
  pub core_low : (c : ℕ) → slice_index_or taken c false ≡ true → c < cores
  -- tasks begin once, after their predecessors, and end after that
  pub begun_once : Apart (begun p.starts)
  pub begun_low : (t : ℕ) → has (begun p.starts) t ≡ true → t < length s.tasks
  pub awaited : (t : ℕ) → has (begun p.starts) t ≡ true → missing p.ended (task s t).predecessors ≡ 0
  pub ended_begun : (t : ℕ) → has p.ended t ≡ true → has (begun p.starts) t ≡ true
  -- no time is far away
  pub near : p.moment ≤ 1000000 * length p.starts
  pub ends_near : (x : Start) → In x p.starts → end_of s x ≤ 1000000 * length p.starts

-- the progress once a task has begun on a core
abbrev pub begin : Progress → ℕ → ℕ → Progress
begin p t c = record { moment = p.moment; starts = p.starts ++ (record { task = t; at = p.moment; core = c } ∷ []); ended = p.ended }
