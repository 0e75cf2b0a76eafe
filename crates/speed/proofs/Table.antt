-- A table that begins with some speeds.
use Rattle.std.proofs.Common.{◌≡◌, ℕ, ◌<◌, ◌≤◌, List, ◌++◌, length, get_or, take, ap, ◌∙◌, arith}
use Rattle.std.proofs.lemmas.List.{get_or_append_left, take_at}
use Rattle.model.specs.Ladders.{Sound, speed}
use Rattle.model.specs.Limits.{most_speed}

module _ (speeds front rest : List ℕ) (same : front ≡ speeds) where
  pub table_speeds : take (length speeds) (front ++ rest) ≡ speeds
  table_speeds = take_at front rest (length speeds) (ap length same) ∙ same

  read : (i : ℕ) → i < length speeds → get_or (front ++ rest) i 0 ≡ speed speeds i
  read i inside = get_or_append_left front rest 0 i (omega (arith, ap length same)) ∙ ap (λ l. speed l i) same

  module _ (sound : Sound speeds) where
    pub table_least : (i : ℕ) → i < length speeds → 1 ≤ get_or (front ++ rest) i 0
    table_least i inside = omega (arith, read i inside, sound.least i inside)

    pub table_most : (i : ℕ) → i < length speeds → get_or (front ++ rest) i 0 ≤ most_speed
    table_most i inside = omega (arith, read i inside, sound.most i inside)

    pub table_rises : (i j : ℕ) → (i < j) × (j < length speeds) → get_or (front ++ rest) i 0 < get_or (front ++ rest) j 0
    table_rises i j h = omega (arith, read i (omega arith), read j h.1, sound.rises i j h.0 h.1)
