use Rattle.std.proofs.Common.{◌≡◌, length, vec_items}
use Rattle.graph.specs.Meaning.{segment_of}
use Rattle.queue.specs.Held.{held, cells_of}
use Rattle.schedule_laws.specs.Beginning.{Beginning}
use Rattle.schedule.proofs.begins.begin.Given as goal

-- the tasks so far are counted
abbrev pub invariant-loop-number : goal.invariant-loop-number
invariant-loop-number l =
    (length (cells_of l.ready) ≡ length (cells_of l.initial.ready))
    × Beginning (segment_of l.segment) l.number (held l.ready) (vec_items l.waiting)
