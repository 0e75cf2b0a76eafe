use Rattle.std.proofs.Common.{◌≡◌, drop}
use Rattle.model.specs.Making.{rising}
use Rattle.speed.proofs.check.check.Given as goal

abbrev pub invariant-loop-level : goal.invariant-loop-level
invariant-loop-level g l =
    let xs = g.A.Asked.speeds l.asked in rising l.level l.before (drop l.level xs) xs ≡ rising 0 0 xs xs
