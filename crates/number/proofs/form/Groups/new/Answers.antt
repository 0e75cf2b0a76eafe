use Rattle.std.proofs.Common.{refl, ◌∙◌, arith}
use Rattle.model.specs.Numbers.{number_bytes}
use Rattle.number.specs.Held.{bytes_of}
use Rattle.number.proofs.Digits.{room, digits_more}
use Rattle.number.proofs.form.Groups.new.Goals as goal

pub loop-left-init : goal.loop-left-init
unfolding number_bytes
loop-left-init c = (refl, omega arith, omega arith)

pub loop-left-preserved : goal.loop-left-preserved
loop-left-preserved c =
    let next = room c.loop-left.groups.len c.loop-left.left c.loop-left.invariant.1 c.loop-left.invariant.2 c.loop-left-test.true in
    rw (c.push.ensures.bytes, c.push.ensures.len) (digits_more (bytes_of c.loop-left.groups) c.loop-left.groups.len c.loop-left.left next.0 c.loop-left-test.true ∙ c.loop-left.invariant.0, omega (arith, next.0), next.1)
