use Rattle.std.proofs.Common.{◌≡◌, map, take, vec_items}
use Rattle.graph.specs.Meaning.{segment_of}
use Rattle.schedule.specs.Meaning.{timeline_of, planned}
use Rattle.schedule.proofs.segments.schedule.Given as goal

-- the timelines so far are those of the first segments
abbrev pub invariant-loop-segment : goal.invariant-loop-segment
invariant-loop-segment l = map timeline_of (vec_items l.timelines) ≡ map (planned l.cores) (map segment_of (take l.segment-index l.graph.segments.items))
