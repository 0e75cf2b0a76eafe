-- A test as a number.
use Rattle.std.proofs.Common.{◌≡◌, ◌≤◌, Bool, true, false, ◌&&◌, refl, arith}
use Rattle.schedule_laws.specs.Counting.{one}

pub one_true : (b : Bool) → 1 ≤ one b → b ≡ true
one_true true h = refl
one_true false h = absurd (omega arith)

pub one_most : (b : Bool) → one b ≤ 1
one_most true = omega arith
one_most false = omega arith

-- one of a first fact and another is at most one of the first
pub one_and : (a b : Bool) → one (a && b) ≤ one a
one_and true b = one_most b
one_and false b = omega arith

pub one_and_true : (b : Bool) → one (b && true) ≡ one b
one_and_true true = refl
one_and_true false = refl

pub one_and_false : (b : Bool) → one (b && false) ≡ 0
one_and_false true = refl
one_and_false false = refl
