use Rattle.std.proofs.Common.{◌≡◌, drop, vec_items, vec_len}
use Rattle.graph.specs.Whole.{graph_of}
use Rattle.model.specs.Times.{lengths}
use Rattle.plan.proofs.lengths.remaining_lengths.Given as goal

-- the lengths from segment s on are there
abbrev pub invariant-loop-s : goal.invariant-loop-s
invariant-loop-s l =
    (vec_len l.remaining ≡ vec_len l.graph.segments)
    × (drop l.s (vec_items l.remaining) ≡ drop l.s (lengths l.graph.cores 0 (graph_of l.graph).segments))
