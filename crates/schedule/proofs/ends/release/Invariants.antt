use Rattle.std.proofs.Common.{◌≡◌, ◌+◌, ◌≤◌, length, take, vec_items}
use Rattle.graph.specs.Meaning.{segment_of}
use Rattle.queue.specs.Held.{held, count, cells_of}
use Rattle.schedule_laws.specs.Released.{Released}
use Rattle.schedule.proofs.ends.release.Given as goal

-- the followers so far are released
abbrev pub invariant-loop-follower : goal.invariant-loop-follower
invariant-loop-follower l =
    (length (cells_of l.ready) ≡ length (cells_of l.initial.ready))
    × (count l.ready ≤ count l.initial.ready + l.follower-index)
    × Released (segment_of l.segment) (take l.follower-index l.followers) (vec_items l.initial.waiting) (vec_items l.waiting) (held l.initial.ready) (held l.ready)
