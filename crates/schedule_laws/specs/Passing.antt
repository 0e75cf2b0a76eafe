-- Time passes: it moves to the earliest end, and the tasks that end then end one by one, in whatever order.
use Rattle.std.specs.Prelude.{◌≡◌, ℕ, ◌≤◌, Bool, true, ◌⊎◌, List}
use Rattle.std.specs.List.{AllByRecursion}
use Rattle.model.specs.Canonical.{Start, Progress, running, end_of, pass}
use Rattle.model.specs.Graph.{Segment}
use Rattle.model.specs.Lists.{In, has}
use Rattle.queue.specs.declared.kinds.Ready.{Ready}
use Rattle.queue.specs.declared.kinds.Running.{Running}
use Rattle.schedule_laws.specs.Standing.{Standing}

-- the progress once all that end first have ended
abbrev pub time_passed : Segment → Progress → Progress
time_passed s p = pass s p (running p)

-- the progress at a moment, with other tasks ended
abbrev pub passed : Progress → ℕ → List ℕ → Progress
passed p m ended = record { moment = m; starts = p.starts; ended = ended }

-- the progress p passes to the moment m; so far `ended` have ended
pub record Passing (cores : ℕ) (s : Segment) (p : Progress) (m : ℕ) (ended : List ℕ) (R : List Ready) (U : List Running) (W : List ℕ) (T : List Bool) : Type 0 where
  pub standing : Standing cores s (passed p m ended) R U W T
  pub keeps : (t : ℕ) → has p.ended t ≡ true → has ended t ≡ true
  pub only : (t : ℕ) → has ended t ≡ true → (has p.ended t ≡ true) ⊎ ((x : Start) × In x p.starts × (x.task ≡ t) × (end_of s x ≡ m))
  -- m is the earliest end
  pub one_ends : (x : Start) × In x (running p) × (end_of s x ≡ m)
  pub none_earlier : (x : Start) → In x (running p) → m ≤ end_of s x
  pub later : AllByRecursion (λ (u : Running). m ≤ u.end) U
