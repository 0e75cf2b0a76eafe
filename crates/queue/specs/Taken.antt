-- A queue after an entry was taken from it.
use Rattle.std.specs.Prelude.{◌≡◌, ◌+◌, false, ◌∷◌, length, drop}
use Rattle.std.specs.List.Sorted.{IsPermutation}
use Rattle.std.specs.List.{AllByRecursion}
use Rattle.queue.specs.Held.{cells_of, count, held}
use Rattle.queue.specs.declared.cells.Queue.{Queue}
use Rattle.queue.specs.declared.order.Entry as entry

pub record Taken {E : Type 0} {o : entry.Ghosts E} (e : E) (q q' : Queue E o) : Type 0 where
  -- it held the entry and what it holds now, and nothing else
  pub holds : IsPermutation (held q) (e ∷ held q')
  pub counts : count q ≡ count q' + 1
  -- nothing that it held comes before the entry
  pub first : AllByRecursion (λ x. o.before x e ≡ false) (held q)
  -- the cells are as many as before, and those that are free as they were
  pub room : length (cells_of q') ≡ length (cells_of q)
  pub free_cells : drop (count q') (cells_of q') ≡ drop (count q') (cells_of q)
