-- What a ladder answers.
use Rattle.std.specs.Prelude.{ℕ, ◌<◌, ◌≤◌, cond, List, length, Some, None, Option, nat_lt}
use Rattle.model.specs.LadderLaws.{Parted}
use Rattle.model.specs.Ladders.{speed, time}

module _ (speeds : List ℕ) where
  -- the level is the lowest of at least a speed
  pub record FirstEnough (least level : ℕ) : Type 0 where
    pub inside : level < length speeds
    pub enough : least ≤ speed speeds level
    pub slower : (j : ℕ) → j < level → speed speeds j < least

  module _ (work : ℕ) where
    -- the time at a level, none beyond the list
    abbrev pub time_at : ℕ → Option ℕ
    time_at level = cond (nat_lt level (length speeds)) (Some (time speeds work level)) None

    -- the level parts those that are in time from those that are not; none where the work is longer than the window
    abbrev pub Parts : ℕ → Option ℕ → Type 0
    Parts window None = window < work
    Parts window (Some i) = Parted speeds work window i
