use Rattle.std.proofs.Common.{arith}
use Rattle.number.proofs.Onward.{onward_number}
use Rattle.number.proofs.read.read_number.Goals as goal

pub loop-rest-init : goal.loop-rest-init
loop-rest-init c = (onward_number c.args.count c.args.bytes.now, omega arith, omega arith, omega arith)
