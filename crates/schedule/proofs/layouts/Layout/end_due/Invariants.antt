use Rattle.std.proofs.Common.{ℕ, List}
use Rattle.model.specs.Canonical.{Progress}
use Rattle.queue.specs.Held.{held, count}
use Rattle.schedule.specs.Stands.{SameWork, Passes}
use Rattle.schedule.proofs.layouts.Layout.end_due.Given as goal

-- some of those that end at the moment have ended
abbrev pub invariant-loop-next : goal.invariant-loop-next
invariant-loop-next l =
    SameWork l.initial.self l.self
    × ((p : Progress) (over : List ℕ) → Passes p over (held l.initial.self.running) l.initial.self → (more : List ℕ) × Passes p more (held l.self.running) l.self)

abbrev pub decreases-loop-next : goal.decreases-loop-next
decreases-loop-next l = count l.self.running
