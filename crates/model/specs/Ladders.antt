-- What a ladder means: a list of speeds, one to a level.
use Rattle.std.specs.Prelude.{ℕ, suc, ◌+◌, ◌-◌, ◌*◌, ◌/◌, ◌<◌, ◌≤◌, cond, List, [], ◌∷◌, length, Some, None, Option, nat_le, slice_index}
use Rattle.model.specs.Limits.{most_speed}

module _ (speeds : List ℕ) where
  -- the speed of a level, 0 beyond the list
  abbrev pub speed : ℕ → ℕ
  speed i = slice_index speeds i

  -- some speeds, strictly rising, each from 1 to the most
  pub record Sound : Type 0 where
    pub some_level : 1 ≤ length speeds
    pub least : (i : ℕ) → i < length speeds → 1 ≤ speed i
    pub most : (i : ℕ) → i < length speeds → speed i ≤ most_speed
    pub rises : (i j : ℕ) → i < j → j < length speeds → speed i < speed j

  -- the highest level, and the last speed
  abbrev pub top : ℕ
  top = length speeds - 1

  abbrev pub full : ℕ
  full = speed top

  module _ (work : ℕ) where
    -- how long the work takes at a speed: work × full ÷ speed, rounded up once
    abbrev pub takes : ℕ → ℕ
    takes s = (work * full + (s - 1)) / s

    -- at a level
    abbrev pub time : ℕ → ℕ
    time i = takes (speed i)

    -- of some levels from i on, with these speeds, the lowest whose time is within the window
    abbrev pub lowest : ℕ → ℕ → List ℕ → Option ℕ
    lowest window i [] = None
    lowest window i (s ∷ ss) = cond (nat_le (takes s) window) (Some i) (lowest window (suc i) ss)

    -- of all levels
    abbrev pub floor : ℕ → Option ℕ
    floor window = lowest window 0 speeds
