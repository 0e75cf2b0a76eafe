-- A quotient that is rounded up: it is at most q exactly where q times the divisor is enough.
use Rattle.std.proofs.Common.{ℕ, suc, ◌+◌, ◌-◌, ◌*◌, ◌/◌, ◌<◌, ◌≤◌, div-lt_iff_lt-mul, arith}

module _ (n d q : ℕ) (some : 1 ≤ d) where
  pub rounded_covers : (n + (d - 1)) / d ≤ q → n ≤ q * d
  rounded_covers h =
      let below : (n + (d - 1)) / d < suc q = omega arith in
      let within = (div-lt_iff_lt-mul some).0 below in
      omega (arith, within)

  pub rounded_within : n ≤ q * d → (n + (d - 1)) / d ≤ q
  rounded_within h = let below : (n + (d - 1)) / d < suc q = (div-lt_iff_lt-mul some).1 (omega arith) in omega arith
