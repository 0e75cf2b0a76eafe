-- Line records: the latest times of a plan's tasks, segment by segment in canonical order.
use Rattle.std.specs.Prelude.{ℕ, List, map, length, slice_index_or}
use Rattle.std.specs.List.{range_with_len, flat_map}
use Rattle.model.specs.Graph.{Graph}
use Rattle.model.specs.Places.{count}
use Rattle.model.specs.Times.{order_of, latest_start, latest_end}

-- a task of a segment, its place in the order, and its latest times
pub record Line : Type 0 where
  pub segment : ℕ
  pub task : ℕ
  pub order : ℕ
  pub start : ℕ
  pub end : ℕ

module _ (g : Graph) where
  -- the task at a place of a segment's order
  abbrev pub line : ℕ → ℕ → Line
  line s k =
      let t = slice_index_or (order_of g s) k 0 in
      record { segment = s; task = t; order = k; start = latest_start g s t; end = latest_end g s t }

  abbrev pub segment_lines : ℕ → List Line
  segment_lines s = map (line s) (range_with_len 0 (length (order_of g s)))

  abbrev pub lines : List Line
  lines = flat_map segment_lines (range_with_len 0 (count g))
