-- The state before the first event, made task by task.
use Rattle.std.specs.Prelude.{◌≡◌, ℕ, ◌<◌, ◌&&◌, List, length, ◌==◌, nat_lt, slice_index}
use Rattle.std.specs.List.{AllByRecursion}
use Rattle.model.specs.Canonical.{lasts}
use Rattle.model.specs.Graph.{Segment}
use Rattle.model.specs.Places.{task}
use Rattle.queue.specs.declared.kinds.Ready.{Ready}
use Rattle.schedule_laws.specs.Counting.{one, times}

-- the first i tasks are counted, and those without predecessors are entered
pub record Beginning (s : Segment) (i : ℕ) (R : List Ready) (W : List ℕ) : Type 0 where
  pub counted : length W ≡ i
  pub counts : (t : ℕ) → t < i → slice_index W t ≡ length (task s t).predecessors
  pub ready_once : (t : ℕ) → times (λ (e : Ready). e.task) t R ≡ one (nat_lt t i && length (task s t).predecessors == 0)
  pub worsts : AllByRecursion (λ (e : Ready). e.worst ≡ lasts s e.task) R
