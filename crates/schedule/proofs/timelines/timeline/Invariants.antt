use Rattle.std.proofs.Common.{◌≡◌}
use Rattle.graph.specs.Meaning.{segment_of}
use Rattle.model.specs.Canonical.{after}
use Rattle.schedule.specs.Stands.{Stands}
use Rattle.schedule.proofs.timelines.timeline.Given as goal

-- the layout stands for the schedule after so many events
abbrev pub invariant-loop-event : goal.invariant-loop-event
invariant-loop-event l = (l.layout.cores ≡ l.cores) × (l.layout.segment.now ≡ l.segment) × Stands (after l.cores (segment_of l.segment) l._event) l.layout
