use Rattle.std.proofs.Common.{◌≡◌, ◌+◌, map, drop}
use Rattle.graph.specs.Meaning.{segment_of}
use Rattle.model.specs.CanonicalLines.{lines_from}
use Rattle.model.specs.Runs.{over}
use Rattle.schedule.specs.Meaning.{start_of}
use Rattle.lines.specs.Meaning.{line_of}
use Rattle.lines.proofs.canonical.fill_segment.Given as goal

-- the starts to come end the work
abbrev pub invariant-loop-order : goal.invariant-loop-order
invariant-loop-order l =
    over (l.at + l.order) (lines_from (segment_of l.segment) l.number l.order (map start_of (drop l.order l.starts))) (map line_of l.out)
    ≡ over l.at (lines_from (segment_of l.segment) l.number 0 (map start_of l.starts)) (map line_of l.initial.out)
