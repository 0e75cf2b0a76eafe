use Rattle.std.proofs.Common.{◌∷◌, get_or, take}
use Rattle.std.specs.Fmt.{HasWritten, IsPlainFormatter}
use Rattle.bagplan.specs.Table.{numbers_text}
use Rattle.bagplan.proofs.report.CommasDisplay.fmt.Given as goal

-- the first number and those so far are written
abbrev pub invariant-loop-number : goal.invariant-loop-number
invariant-loop-number g l =
    IsPlainFormatter l.fn.f → HasWritten g.W.Write.write_str_gives l.fn.f (numbers_text (get_or l.self.0.now 0 0 ∷ take l.number-index l.more)) l.f
