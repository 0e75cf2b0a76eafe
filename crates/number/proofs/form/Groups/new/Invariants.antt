use Rattle.std.proofs.Common.{◌≡◌, ◌-◌, ◌^◌, ◌<◌, ◌≤◌, ◌++◌}
use Rattle.model.specs.Numbers.{digits, number_bytes}
use Rattle.number.specs.Held.{bytes_of}
use Rattle.number.proofs.form.Groups.new.Given as goal

-- the groups so far and those of what is left are the number's, and what is left fits the groups that are left
abbrev pub invariant-loop-left : goal.invariant-loop-left
invariant-loop-left l =
    (bytes_of l.groups ++ digits (4 - l.groups.len) l.left ≡ number_bytes l.n)
    × (l.groups.len ≤ 4) × (l.left < 128 ^ (5 - l.groups.len))

abbrev pub decreases-loop-left : goal.decreases-loop-left
decreases-loop-left l = l.left
