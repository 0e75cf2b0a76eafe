use Rattle.std.proofs.Common.{◌≡◌, ◌-◌, map, vec_items, vec_len}
use Rattle.model.specs.Graph.{tasks_in, predecessors_in}
use Rattle.model.specs.Reading.{next_segment}
use Rattle.graph.specs.Meaning.{segment_of}
use Rattle.reader.proofs.Several.{Underway}
use Rattle.reader.proofs.input.Input.segments.Given as goal

abbrev pub invariant-loop-own : goal.invariant-loop-own
invariant-loop-own l =
    Underway (λ k. next_segment k l.many) l.many l.initial.self l.own (map segment_of (vec_items l.segments)) l.self
    × (l.tasks_left ≡ 256 - tasks_in (map segment_of (vec_items l.segments)))
    × (l.left ≡ 1024 - predecessors_in (map segment_of (vec_items l.segments)))
    × (vec_len l.segments ≡ l.own)
