-- A well-formed graph, place by place.
use Rattle.std.specs.Prelude.{◌≡◌, ℕ, ◌<◌, ◌≤◌, true, List, [], length, slice_index, slice_index_or}
use Rattle.model.specs.Formed.{well_formed}
use Rattle.model.specs.Graph.{Graph, Segment, Task, tasks_in, predecessors_in}
use Rattle.model.specs.Limits.{most_cores, most_deadline, most_segments, most_tasks, most_predecessors, most_exits, most_name, most_worst}

-- what stands where there is no task, and where there is no segment
abbrev pub no_task : Task
no_task = record { name = []; worst = 0; predecessors = [] }

abbrev pub no_segment : Segment
no_segment = record { tasks = []; exits = [] }

abbrev pub task : Segment → ℕ → Task
task s t = slice_index_or s.tasks t no_task

abbrev pub segment : Graph → ℕ → Segment
segment g s = slice_index_or g.segments s no_segment

module _ (g : Graph) where
  abbrev pub count : ℕ
  count = length g.segments

  abbrev pub exits_of : ℕ → List ℕ
  exits_of s = (segment g s).exits

  abbrev pub tasks_of : ℕ → List Task
  tasks_of s = (segment g s).tasks

  abbrev pub task_of : ℕ → ℕ → Task
  task_of s t = task (segment g s) t

  pub record Formed : Type 0 where
    pub some_core : 1 ≤ g.cores
    pub few_cores : g.cores ≤ most_cores
    pub deadline_within : g.deadline ≤ most_deadline
    pub some_segment : 1 ≤ count
    pub few_segments : count ≤ most_segments
    pub few_tasks : tasks_in g.segments ≤ most_tasks
    pub few_predecessors : predecessors_in g.segments ≤ most_predecessors
    pub some_task : (s : ℕ) → s < count → 1 ≤ length (tasks_of s)
    pub short_name : (s t : ℕ) → s < count → t < length (tasks_of s) → length (task_of s t).name ≤ most_name
    pub worst_within : (s t : ℕ) → s < count → t < length (tasks_of s) → (task_of s t).worst ≤ most_worst
    -- predecessors rise, and are lower tasks
    pub predecessors_rise : (s t i j : ℕ) → s < count → t < length (tasks_of s) → i < j → j < length (task_of s t).predecessors
        → slice_index (task_of s t).predecessors i < slice_index (task_of s t).predecessors j
    pub lower : (s t i : ℕ) → s < count → t < length (tasks_of s) → i < length (task_of s t).predecessors → slice_index (task_of s t).predecessors i < t
    -- exits rise, and are higher segments of the plan
    pub few_exits : (s : ℕ) → s < count → length (exits_of s) ≤ most_exits
    pub exits_rise : (s i j : ℕ) → s < count → i < j → j < length (exits_of s) → slice_index (exits_of s) i < slice_index (exits_of s) j
    pub higher : (s i : ℕ) → s < count → i < length (exits_of s) → s < slice_index (exits_of s) i
    pub inside : (s i : ℕ) → s < count → i < length (exits_of s) → slice_index (exits_of s) i < count
    -- every segment but 0 is an exit
    pub exit_of : (e : ℕ) → 1 ≤ e → e < count → (s : ℕ) × (i : ℕ) × (s < count) × (i < length (exits_of s)) × (slice_index (exits_of s) i ≡ e)

-- a well-formed graph keeps every limit and order at every place
abbrev pub WellFormedPlaceByPlace : Type 0
WellFormedPlaceByPlace = (g : Graph) → well_formed g ≡ true → Formed g

-- and no other does
abbrev pub PlaceByPlaceWellFormed : Type 0
PlaceByPlaceWellFormed = (g : Graph) → Formed g → well_formed g ≡ true
