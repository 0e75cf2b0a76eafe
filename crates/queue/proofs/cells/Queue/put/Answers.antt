use Rattle.std.proofs.Common.{refl}
use Rattle.queue.proofs.Putting.{puts}
use Rattle.queue.proofs.cells.Queue.put.Goals as goal

pub returns-clause-cases : goal.returns-clause-cases
returns-clause-cases g c = puts c.args.e c.args.self.now _ c.rise.new.entries c.if-count-self.false refl refl c.rise.ensures.shuffled
