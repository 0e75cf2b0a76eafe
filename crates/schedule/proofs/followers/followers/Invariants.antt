use Rattle.graph.specs.Meaning.{segment_of}
use Rattle.schedule_laws.specs.Following.{Following}
use Rattle.schedule.specs.Vecs.{lists}
use Rattle.schedule.proofs.followers.followers.Given as goal

-- the tasks so far follow their predecessors
abbrev pub invariant-loop-number : goal.invariant-loop-number
invariant-loop-number l = Following (segment_of l.segment) l.number (lists l.followers)
