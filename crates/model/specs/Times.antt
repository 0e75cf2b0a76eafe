-- Lengths, shifts and latest times of a graph.
use Rattle.std.specs.Prelude.{ℕ, suc, ◌+◌, ◌-◌, max, cond, List, [], ◌∷◌, ◌==◌, slice_index}
use Rattle.model.specs.Canonical.{Start, lasts, canonical, order, length_of}
use Rattle.model.specs.Graph.{Graph, Segment}
use Rattle.model.specs.Places.{segment}

-- the largest remaining length among some exits, where `rest` has those of segment k and of all after it
abbrev pub largest : List ℕ → ℕ → List ℕ → ℕ
largest rest k [] = 0
largest rest k (e ∷ es) = max (slice_index rest (e - k)) (largest rest k es)

-- the remaining length of each segment, from segment k on
abbrev pub lengths : ℕ → ℕ → List Segment → List ℕ
lengths cores k [] = []
lengths cores k (s ∷ ss) =
    let rest = lengths cores (suc k) ss in
    (length_of cores s + largest rest (suc k) s.exits) ∷ rest

-- when a task starts, 0 where it does not
abbrev pub start_of : List Start → ℕ → ℕ
start_of [] t = 0
start_of (x ∷ xs) t = cond (x.task == t) x.at (start_of xs t)

module _ (g : Graph) where
  abbrev pub remaining : ℕ → ℕ
  remaining s = slice_index (lengths g.cores 0 g.segments) s

  abbrev pub needed : ℕ
  needed = remaining 0

  abbrev pub shift : ℕ → ℕ
  shift s = g.deadline - remaining s

  abbrev pub schedule_of : ℕ → List Start
  schedule_of s = canonical g.cores (segment g s)

  abbrev pub order_of : ℕ → List ℕ
  order_of s = order g.cores (segment g s)

  abbrev pub latest_start : ℕ → ℕ → ℕ
  latest_start s t = start_of (schedule_of s) t + shift s

  abbrev pub latest_end : ℕ → ℕ → ℕ
  latest_end s t = latest_start s t + lasts (segment g s) t
