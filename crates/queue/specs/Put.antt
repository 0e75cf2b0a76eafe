-- A queue after an entry was put into it.
use Rattle.std.specs.Prelude.{◌≡◌, ◌+◌, ◌<◌, ◌∷◌, length, drop}
use Rattle.std.specs.List.Sorted.{IsPermutation}
use Rattle.queue.specs.Held.{cells_of, count, held}
use Rattle.queue.specs.declared.cells.Queue.{Queue}
use Rattle.queue.specs.declared.order.Entry as entry

pub record Put {E : Type 0} {o : entry.Ghosts E} (e : E) (q q' : Queue E o) : Type 0 where
  -- there was a free cell
  pub free : count q < length (cells_of q)
  -- it holds what it held, and the entry
  pub holds : IsPermutation (e ∷ held q) (held q')
  pub counts : count q' ≡ count q + 1
  -- the cells are as many as before, and those that are free as they were
  pub room : length (cells_of q') ≡ length (cells_of q)
  pub free_cells : drop (count q') (cells_of q') ≡ drop (count q') (cells_of q)
