-- Whether a run or some cells have room for what is needed.
use Rattle.std.specs.Prelude.{ℕ, cond, Ok, Err, Result, nat_lt}
use Rattle.fault.specs.Card.{fault}
use Rattle.fault.specs.declared.kind.Fault.{Fault}
use Rattle.fault.specs.declared.kind.Kind.TheVariants.{TooSmall}

-- too few places are refused with how many are needed
abbrev pub room : ℕ → ℕ → Result (Unit {0}) Fault
room needed there = cond (nat_lt there needed) (Err (fault TooSmall needed)) (Ok tt)
