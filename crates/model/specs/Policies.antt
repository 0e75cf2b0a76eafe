-- What a policy means: a rule that picks a level.
use Rattle.std.specs.Prelude.{◌≡◌, ℕ, ◌<◌, ◌≤◌, min, max, cond, nat_lt}

-- from task, time, floor and top level to a level
abbrev pub Rule : Type 0
Rule = ℕ → ℕ → ℕ → ℕ → ℕ

-- where the floor is at most the top, the level lies from floor to top; otherwise it is the top
pub record Ranged (rule : Rule) : Type 0 where
  pub from_floor : (task time floor top : ℕ) → floor ≤ top → floor ≤ rule task time floor top
  pub to_top : (task time floor top : ℕ) → floor ≤ top → rule task time floor top ≤ top
  pub else_top : (task time floor top : ℕ) → top < floor → rule task time floor top ≡ top

-- the lower of floor and top
abbrev pub greedy : Rule
greedy task time floor top = min floor top

-- the first level before a time, the second from then on; raised to the floor, then lowered to the top
abbrev pub two_step : ℕ → ℕ → ℕ → Rule
two_step switch first second task time floor top = min (max (cond (nat_lt time switch) first second) floor) top
