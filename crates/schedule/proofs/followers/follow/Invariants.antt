use Rattle.std.proofs.Common.{take}
use Rattle.schedule_laws.specs.Following.{Followed}
use Rattle.schedule.specs.Vecs.{lists}
use Rattle.schedule.proofs.followers.follow.Given as goal

-- it follows the predecessors so far
abbrev pub invariant-loop-predecessor : goal.invariant-loop-predecessor
invariant-loop-predecessor l = Followed l.number (take l.predecessor-index l.predecessors) (lists l.initial.followers) (lists l.followers)
