-- A queue with no free cell.
use Rattle.std.specs.Prelude.{◌≡◌, ◌+◌, ◌-◌, ◌^◌, min, length}
use Rattle.fault.specs.Card.{fault}
use Rattle.fault.specs.declared.kind.Fault.{Fault}
use Rattle.fault.specs.declared.kind.Kind.TheVariants.{TooSmall}
use Rattle.queue.specs.Held.{cells_of, count}
use Rattle.queue.specs.declared.cells.Queue.{Queue}
use Rattle.queue.specs.declared.order.Entry as entry

-- every cell is taken, and one more is needed, as far as a place can count
pub record Full {E : Type 0} {o : entry.Ghosts E} (q : Queue E o) (f : Fault) : Type 0 where
  pub none_free : count q ≡ length (cells_of q)
  pub fault_is : f ≡ fault TooSmall (min (length (cells_of q) + 1) (2 ^ 64 - 1))
