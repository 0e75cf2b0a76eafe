-- A queue that holds nothing.
use Rattle.std.specs.Prelude.{◌≡◌, []}
use Rattle.queue.specs.Held.{count, held}
use Rattle.queue.specs.declared.cells.Queue.{Queue}
use Rattle.queue.specs.declared.order.Entry as entry

pub record Empty {E : Type 0} {o : entry.Ghosts E} (q : Queue E o) : Type 0 where
  pub holds : held q ≡ []
  pub counts : count q ≡ 0
