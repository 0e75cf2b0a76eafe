-- What a queue holds.
use Rattle.std.specs.Prelude.{ℕ, List, take}
use Rattle.queue.specs.declared.cells.Queue.{Queue}
use Rattle.queue.specs.declared.order.Entry as entry

-- the cells that were handed in
abbrev pub cells_of : {E : Type 0} {o : entry.Ghosts E} → Queue E o → List E
cells_of q = q.cells.now

-- how many of them are taken
abbrev pub count : {E : Type 0} {o : entry.Ghosts E} → Queue E o → ℕ
count q = q.len

-- the entries in those, which are the first ones
abbrev pub held : {E : Type 0} {o : entry.Ghosts E} → Queue E o → List E
held q = take (count q) (cells_of q)
