use Rattle.std.proofs.Common.{◌≡◌, ◌-◌, ◌≤◌, length}
use Rattle.model.specs.Numbers.{number}
use Rattle.number.proofs.Onward.{onward}
use Rattle.number.proofs.read.read_number.Given as goal

abbrev pub invariant-loop-rest : goal.invariant-loop-rest
invariant-loop-rest l =
    (onward l.count (l.count - length l.bytes) l.sum l.weight l.rest ≡ number l.count l.bytes)
    × (l.sum ≤ 4294967296) × (1 ≤ l.weight) × (l.weight ≤ 34359738368)

abbrev pub decreases-loop-rest : goal.decreases-loop-rest
decreases-loop-rest l = length l.rest
