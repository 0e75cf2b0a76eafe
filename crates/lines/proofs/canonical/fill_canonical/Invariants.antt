use Rattle.std.proofs.Common.{◌≡◌, ◌+◌, map, length, drop}
use Rattle.std.specs.List.{range_with_len, flat_map}
use Rattle.graph.specs.Whole.{graph_of}
use Rattle.model.specs.CanonicalLines.{canonical_segment_lines, canonical_lines}
use Rattle.model.specs.Places.{count}
use Rattle.model.specs.Runs.{over}
use Rattle.lines.specs.Meaning.{line_of}
use Rattle.lines.proofs.canonical.fill_canonical.Given as goal

-- the segments to come end the work
abbrev pub invariant-loop-number : goal.invariant-loop-number
invariant-loop-number l =
    let g = graph_of l.plan.graph in
    let left = flat_map (canonical_segment_lines g) (drop (length l.yielded) (range_with_len 0 (count g))) in
    (over l.place left (map line_of l.out) ≡ over 0 (canonical_lines g) (map line_of l.initial.out))
    × (l.place + length left ≡ length (canonical_lines g))
