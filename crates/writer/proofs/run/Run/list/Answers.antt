use Rattle.writer.proofs.Laying.{lays_then}
use Rattle.writer.proofs.run.Run.list.Goals as goal

pub returns : goal.returns
returns g c = lays_then c.put.ensures c.each.ensures
