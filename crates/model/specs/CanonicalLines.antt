-- Line records before the shift: the canonical starts and ends, segment by segment in canonical order.
use Rattle.std.specs.Prelude.{ℕ, ◌+◌, List, [], ◌∷◌}
use Rattle.std.specs.List.{range_with_len, flat_map}
use Rattle.model.specs.Canonical.{Start, end_of}
use Rattle.model.specs.Graph.{Graph, Segment}
use Rattle.model.specs.LineRecords.{Line}
use Rattle.model.specs.Places.{segment, count}
use Rattle.model.specs.Times.{schedule_of, shift}

module _ (s : Segment) (number : ℕ) where
  -- a start at a place of the order
  abbrev pub canonical_line : ℕ → Start → Line
  canonical_line k x = record { segment = number; task = x.task; order = k; start = x.at; end = end_of s x }

  -- some starts, from a place of the order on
  abbrev pub lines_from : ℕ → List Start → List Line
  lines_from k [] = []
  lines_from k (x ∷ xs) = canonical_line k x ∷ lines_from (k + 1) xs

module _ (g : Graph) where
  abbrev pub canonical_segment_lines : ℕ → List Line
  canonical_segment_lines s = lines_from (segment g s) s 0 (schedule_of g s)

  abbrev pub canonical_lines : List Line
  canonical_lines = flat_map canonical_segment_lines (range_with_len 0 (count g))

  -- later by the shift of its segment
  abbrev pub shifted : Line → Line
  shifted l =
      record {
        segment = l.segment;
        task = l.task;
        order = l.order;
        start = l.start + shift g l.segment;
        end = l.end + shift g l.segment;
      }
