-- The text of a graph: a line on the whole plan, a header, and a row for each task in plan order.
use Rattle.std.specs.Prelude.{ℕ, List, [], ◌∷◌, ◌++◌, length, codes, decimal}
use Rattle.std.specs.List.{flat_map, enumerate_from}
use Rattle.model.specs.Graph.{Graph, Segment, Task}

-- numbers parted by commas, or - where there are none
abbrev pub numbers_text : List ℕ → List ℕ
numbers_text [] = codes "-"
numbers_text (n ∷ ns) = decimal n ++ flat_map (λ m. codes "," ++ decimal m) ns

-- segment, task, worst and predecessors, parted by blanks
abbrev pub row_text : ℕ → ℕ → Task → List ℕ
row_text s t x =
    decimal s ++ (codes " " ++ (decimal t ++ (codes " " ++ (decimal x.worst ++ (codes " " ++ (numbers_text x.predecessors ++ codes "\n"))))))

-- the rows of a segment's tasks
abbrev pub rows_text : ℕ → List Task → List ℕ
rows_text s tasks = flat_map (λ task. row_text s task.0 task.1) (enumerate_from 0 tasks)

-- the rows of all segments
abbrev pub segments_text : List Segment → List ℕ
segments_text segments = flat_map (λ segment. rows_text segment.0 segment.1.tasks) (enumerate_from 0 segments)

abbrev pub head_text : Graph → List ℕ
head_text g =
    codes "cores " ++ (decimal g.cores ++ (codes " deadline " ++ (decimal g.deadline ++ (codes " segments " ++ (decimal (length g.segments) ++ codes "\n")))))

abbrev pub table_text : Graph → List ℕ
table_text g = head_text g ++ (codes "segment task worst predecessors\n" ++ segments_text g.segments)
