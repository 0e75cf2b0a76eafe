-- What a well-formed graph says of one of its segments.
use Rattle.std.specs.Prelude.{ℕ, ◌<◌, ◌≤◌, List, [], ◌∷◌, length}
use Rattle.std.specs.Coded.{→_prop, ×_prop, Unit-prop}
use Rattle.model.specs.Canonical.{lasts}
use Rattle.model.specs.Graph.{Segment}
use Rattle.model.specs.Lists.{In, Apart}
use Rattle.model.specs.Places.{task}

pub record Bounded (cores : ℕ) (s : Segment) : Type 0 where
  pub few_cores : cores ≤ 8
  pub few_tasks : length s.tasks ≤ 256
  pub short : (t : ℕ) → t < length s.tasks → lasts s t ≤ 1000000
  pub apart : (t : ℕ) → t < length s.tasks → Apart (task s t).predecessors
  pub inside : (t p : ℕ) → t < length s.tasks → In p (task s t).predecessors → p < length s.tasks

-- there is one proof at most that they are apart
pub Apart_prop : {X : Type 0} (xs : List X) → IsProp (Apart xs)
Apart_prop [] = Unit-prop
Apart_prop (x ∷ xs) = ×_prop (→_prop (λ b. absurd b)) (Apart_prop xs)
