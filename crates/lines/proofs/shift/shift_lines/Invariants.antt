use Rattle.std.proofs.Common.{◌≡◌, map, take, drop}
use Rattle.graph.specs.Whole.{graph_of}
use Rattle.model.specs.CanonicalLines.{shifted}
use Rattle.lines.specs.Meaning.{line_of}
use Rattle.lines.proofs.shift.shift_lines.Given as goal

-- the first records are shifted, and the others are as they were
abbrev pub invariant-loop-line : goal.invariant-loop-line
invariant-loop-line l =
    (map line_of (take l.line-index l.records) ≡ map (shifted (graph_of l.plan.graph)) (map line_of (take l.line-index l.initial.records)))
    × (drop l.line-index l.records ≡ drop l.line-index l.initial.records)
