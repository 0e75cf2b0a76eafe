use Rattle.std.proofs.Common.{ℕ, ◌-◌, ◌<◌, ◌≤◌, length}
use Rattle.model.specs.Ladders.{speed}
use Rattle.speed.proofs.floors.lowest_level.Given as goal

abbrev pub invariant-loop-low : goal.invariant-loop-low
invariant-loop-low g l =
    let xs = g.L.Ladder.speeds l.ladder in
    (l.low ≤ l.high)
    × (l.high < length xs)
    × ((j : ℕ) → j < l.low → speed xs j < l.least)
    × (l.least ≤ speed xs l.high)

abbrev pub decreases-loop-low : goal.decreases-loop-low
decreases-loop-low g l = l.high - l.low
