-- What the end of a task leaves, once each of its followers waits for one task less.
use Rattle.std.specs.Prelude.{◌≡◌, ℕ, ◌+◌, ◌-◌, ◌&&◌, List, length, ◌==◌, nat_lt, slice_index}
use Rattle.std.specs.List.{AllByRecursion}
use Rattle.model.specs.Canonical.{lasts}
use Rattle.model.specs.Graph.{Segment}
use Rattle.queue.specs.declared.kinds.Ready.{Ready}
use Rattle.schedule_laws.specs.Counting.{one, times}

pub record Released (s : Segment) (follows waiting waiting' : List ℕ) (ready ready' : List Ready) : Type 0 where
  pub counted : length waiting' ≡ length waiting
  pub counts : (t : ℕ) → slice_index waiting' t ≡ slice_index waiting t - times (λ u. u) t follows
  -- those that wait for no other are ready now
  pub ready_once : (t : ℕ) → times (λ (e : Ready). e.task) t ready' ≡ times (λ (e : Ready). e.task) t ready + one (nat_lt 0 (slice_index waiting t) && slice_index waiting' t == 0)
  pub worsts : AllByRecursion (λ (e : Ready). e.worst ≡ lasts s e.task) ready → AllByRecursion (λ (e : Ready). e.worst ≡ lasts s e.task) ready'
