-- The last end of some starts, and the largest of some segments.
use Rattle.std.proofs.Common.{◌≡◌, ℕ, max, List, [], ◌∷◌, map, vec_len, arith}
use Rattle.std.specs.List.{fold}
use Rattle.graph.specs.Meaning.{segment_of}
use Rattle.graph.specs.declared.parts.Segment as code
use Rattle.model.specs.Accepting.{tasks_of_largest}
use Rattle.model.specs.Canonical.{end_of, last_end}
use Rattle.model.specs.Graph.{Segment}
use Rattle.schedule.specs.Meaning.{start_of}
use Rattle.schedule.specs.declared.parts.Start.{Start}
use Rattle.schedule.proofs.Reading.{length-tasks}

last_end_fold : (s : Segment) (a : ℕ) (xs : List Start) → fold (λ n x. max n (end_of s (start_of x))) a xs ≡ max a (last_end s (map start_of xs))
last_end_fold s a [] = omega arith
last_end_fold s a (x ∷ xs) = omega (arith, last_end_fold s (max a (end_of s (start_of x))) xs)

largest_fold : (a : ℕ) (ss : List code.Segment) → fold (λ n s. max n (vec_len s.tasks)) a ss ≡ max a (tasks_of_largest (map segment_of ss))
largest_fold a [] = omega arith
largest_fold a (s ∷ ss) = omega (arith, largest_fold (max a (vec_len s.tasks)) ss, length-tasks s)

pub last_end_is : (s : Segment) (xs : List Start) → fold (λ n x. max n (end_of s (start_of x))) 0 xs ≡ last_end s (map start_of xs)
last_end_is s xs = omega (arith, last_end_fold s 0 xs)

pub largest_is : (ss : List code.Segment) → fold (λ n s. max n (vec_len s.tasks)) 0 ss ≡ tasks_of_largest (map segment_of ss)
largest_is ss = omega (arith, largest_fold 0 ss)
