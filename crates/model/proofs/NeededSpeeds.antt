-- The speed that some work takes in a window, as `takes` has the ticks that it takes at a speed.
use Rattle.std.proofs.Common.{◌≡◌, ℕ, ◌<◌, ◌≤◌, List, length, Some, ⊎_elim, mul-le-mul_right, arith}
use Rattle.std.proofs.lemmas.Bool.{cases_lt}
use Rattle.model.proofs.LadderLaws.{within_window, window_covers, enough_speed, speed_needed, floor_is}
use Rattle.model.specs.Ladders.{Sound, speed, full, takes, time, floor}

module _ (speeds : List ℕ) (sound : Sound speeds) (work window : ℕ) where
  -- no work fits at the lowest level
  pub floor_of_nothing : work ≡ 0 → floor speeds work window ≡ Some 0
  floor_of_nothing none =
      floor_is speeds work window 0 sound.some_level
      (window_covers speeds work window (speed speeds 0) (sound.least 0 sound.some_level) (rw none (omega arith)))
      (λ j below. absurd (omega arith))

  module _ (some : 1 ≤ window) where
    pub needed_most : work ≤ window → takes speeds work window ≤ full speeds
    needed_most fits = speed_needed speeds work window (full speeds) some (mul-le-mul_right (full speeds) fits)

    -- the floor is the lowest level of at least that speed
    pub floor_of_needed : (i : ℕ) → i < length speeds → takes speeds work window ≤ speed speeds i
        → ((j : ℕ) → j < i → speed speeds j < takes speeds work window) → floor speeds work window ≡ Some i
    floor_of_needed i inside enough slower =
        floor_is speeds work window i inside
        (window_covers speeds work window (speed speeds i) (sound.least i inside) (enough_speed speeds work window (speed speeds i) some enough))
        (λ j below.
        ⊎_elim
        (λ slow. slow)
        (λ fast. absurd (omega (arith, slower j below, speed_needed speeds work window (speed speeds j) some (within_window speeds work window (speed speeds j) (sound.least j (omega arith)) fast))))
        (cases_lt window (time speeds work j)))
