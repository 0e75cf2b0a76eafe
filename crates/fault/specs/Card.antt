-- The fault card: what each kind of fault is, its number, its layer and the places that it may carry.
use Rattle.std.specs.Prelude.{◌≡◌, ℕ, Bool, true, ◌&&◌, ◌==◌, nat_le}
use Rattle.fault.specs.declared.kind.Fault.{Fault}
use Rattle.fault.specs.declared.kind.Kind.{Kind}
use Rattle.fault.specs.declared.kind.Kind.TheVariants.{BytesEnd, NumberForm, OutOfRange, NotRising, TrailingBytes, NoEntry, TooSmall, OverDeadline, LadderForm, StartDue, NoStartDue, CoreIdle, BeforeClock, AfterPromise, NoChoiceDue, NoExit}
use Rattle.fault.specs.declared.kind.Layer.{Layer}
use Rattle.fault.specs.declared.kind.Layer.TheVariants.{Bytes, Plan, Ladder, Frame}

-- one line of the card: number, layer, and whether a place is one that it may carry
pub record Line : Type 0 where
  pub number : ℕ
  pub layer : Layer
  pub carries : ℕ → Bool

abbrev any : ℕ → Bool
any p = true

abbrev only : ℕ → ℕ → Bool
only n p = p == n

abbrev from_to : ℕ → ℕ → ℕ → Bool
from_to low high p = nat_le low p && nat_le p high

abbrev at_least : ℕ → ℕ → Bool
at_least low p = nat_le low p

abbrev line : ℕ → Layer → (ℕ → Bool) → Line
line n l s = record { number = n; layer = l; carries = s }

abbrev pub card : Kind → Line
-- the bytes end inside the plan; how many there are
card BytesEnd = line 1 Bytes any
-- a number is not in fewest groups or too large; its first byte
card NumberForm = line 2 Bytes any
-- a number is outside its limit; its first byte
card OutOfRange = line 3 Plan any
-- a predecessor or an exit does not rise, or is not on its owner's right side; its first byte
card NotRising = line 4 Plan any
-- bytes follow the plan; the first of them
card TrailingBytes = line 5 Plan any
-- a segment other than 0 is nobody's exit; the lowest such segment
card NoEntry = line 6 Plan (from_to 1 31)
-- too few cells, or too short a run; how many are needed
card TooSmall = line 7 Plan (at_least 1)
-- the needed length is above the deadline; the needed length, at most 256 tasks of 1,000,000 ticks
card OverDeadline = line 8 Plan (from_to 1 256000000)
-- a ladder's count or one of its speeds; 0, or the level and one; no kind of ladder has more than 64 levels
card LadderForm = line 9 Ladder (from_to 0 64)
-- an end report while a start is due; the head's task
card StartDue = line 10 Frame (from_to 0 255)
-- a start while none is due
card NoStartDue = line 11 Frame (only 0)
-- the core named is idle or not on the board; that core
card CoreIdle = line 12 Frame any
-- a time below the clock; the clock, which is never past a deadline
card BeforeClock = line 13 Frame (from_to 1 1000000000)
-- a time above a promise; the core that promised the earliest
card AfterPromise = line 14 Frame (from_to 0 7)
-- a choice while none is due
card NoChoiceDue = line 15 Frame (only 0)
-- no such exit; how many there are
card NoExit = line 16 Frame (from_to 1 31)

abbrev pub number : Kind → ℕ
number k = (card k).number

abbrev pub layer : Kind → Layer
layer k = (card k).layer

-- the fault carries a place that its line of the card allows
abbrev pub OnCard : Fault → Type 0
OnCard f = (card f.kind).carries f.place ≡ true

abbrev pub fault : Kind → ℕ → Fault
fault k p = record { kind = k; place = p }
