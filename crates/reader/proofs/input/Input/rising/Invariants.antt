use Rattle.std.proofs.Common.{◌≡◌, vec_items, vec_len}
use Rattle.model.specs.Lists.{past}
use Rattle.model.specs.Reading.{next_rising}
use Rattle.reader.proofs.Several.{Underway}
use Rattle.reader.proofs.input.Input.rising.Given as goal

abbrev pub invariant-loop-i : goal.invariant-loop-i
invariant-loop-i l =
    Underway (λ k. next_rising k l.over l.least l.top) l.many l.initial.self l._i (vec_items l.numbers) l.self
    × (l.lowest ≡ past l.least (vec_items l.numbers))
    × (vec_len l.numbers ≡ l._i)
