-- The laws over ladders, one name each.
use Rattle.std.specs.Prelude.{◌≡◌, ℕ, ◌+◌, ◌-◌, ◌*◌, ◌<◌, ◌≤◌, ◌⊎◌, List, length, Some, None, Ok, Err}
use Rattle.fault.specs.declared.kind.Fault.{Fault}
use Rattle.fault.specs.declared.kind.Kind.TheVariants.{LadderForm}
use Rattle.fault.specs.Card.{fault, OnCard}
use Rattle.model.specs.Ladders.{Sound, speed, top, full, time, floor}
use Rattle.model.specs.Limits.{most_levels, most_speed}
use Rattle.model.specs.Making.{making}

-- the time at full speed is the work itself
abbrev pub FullSpeedTakesTheWork : Type 0
FullSpeedTakesTheWork = (speeds : List ℕ) → Sound speeds → (work : ℕ) → time speeds work (top speeds) ≡ work

-- times never rise with the level
abbrev pub TimesNeverRise : Type 0
TimesNeverRise = (speeds : List ℕ) → Sound speeds → (work i j : ℕ) → i ≤ j → j < length speeds → time speeds work j ≤ time speeds work i

-- a time is rounded up once: it is the least number of ticks in which the speed does the work
abbrev pub TimesAreTheLeast : Type 0
TimesAreTheLeast =
    (speeds : List ℕ) → Sound speeds → (work i : ℕ) → i < length speeds
    → (work * full speeds ≤ time speeds work i * speed speeds i)
    × ((ticks : ℕ) → work * full speeds ≤ ticks * speed speeds i → time speeds work i ≤ ticks)

-- a floor exists exactly where the work fits at full speed
abbrev pub FloorsExistWhereWorkFits : Type 0
FloorsExistWhereWorkFits =
    (speeds : List ℕ) → Sound speeds → (work window : ℕ)
    → (work ≤ window → (i : ℕ) × (floor speeds work window ≡ Some i))
    × (window < work → floor speeds work window ≡ None)

-- every level from this one on takes at most the window, and none below it does
abbrev pub Parted : List ℕ → ℕ → ℕ → ℕ → Type 0
Parted speeds work window i =
    (i < length speeds)
    × ((j : ℕ) → i ≤ j → j < length speeds → time speeds work j ≤ window)
    × ((j : ℕ) → j < i → window < time speeds work j)

-- the floor parts the levels that are in time from those that are not
abbrev pub FloorsPartTheLevels : Type 0
FloorsPartTheLevels = (speeds : List ℕ) → Sound speeds → (work window i : ℕ) → floor speeds work window ≡ Some i → Parted speeds work window i

-- a ladder is made exactly of sound speeds that are not too many for its kind, and of these speeds
abbrev pub SoundSpeedsMakeALadder : Type 0
SoundSpeedsMakeALadder =
    (most : ℕ) (speeds : List ℕ)
    → (Sound speeds → length speeds ≤ most → making most speeds ≡ Ok speeds)
    × ((made : List ℕ) → making most speeds ≡ Ok made → (made ≡ speeds) × Sound speeds × (length speeds ≤ most))

-- its speed is 0, above the most, or not above that of the level before
abbrev pub Bad : List ℕ → ℕ → Type 0
Bad speeds i = (speed speeds i ≡ 0) ⊎ ((most_speed < speed speeds i) ⊎ ((1 ≤ i) × (speed speeds i ≤ speed speeds (i - 1))))

pub record FirstBad (speeds : List ℕ) (i : ℕ) : Type 0 where
  pub inside : i < length speeds
  pub bad : Bad speeds i
  pub before : (j : ℕ) → j < i → Bad speeds j → ⊥

-- the fault carries 0, and the count is 0 or too large; or it carries a level and one, the first bad one
abbrev pub NamesTheFault : ℕ → List ℕ → Fault → Type 0
NamesTheFault most speeds f =
    (((length speeds ≡ 0) ⊎ (most < length speeds)) × (f ≡ fault LadderForm 0))
    ⊎ ((i : ℕ) × (length speeds ≤ most) × FirstBad speeds i × (f ≡ fault LadderForm (i + 1)))

-- on the card where the kind has at most as many levels as any kind may have
abbrev pub RefusalsNameTheFirstBadLevel : Type 0
RefusalsNameTheFirstBadLevel =
    (most : ℕ) (speeds : List ℕ) (f : Fault) → making most speeds ≡ Err f → NamesTheFault most speeds f × (most ≤ most_levels → OnCard f)
