use Rattle.std.proofs.Common.{◌-◌, refl, arith}
use Rattle.queue.proofs.Ranking.{ranks}
use Rattle.queue.proofs.Taking.{takes}
use Rattle.queue.proofs.cells.Queue.take.Goals as goal

pub returns-clause-cases : goal.returns-clause-cases
returns-clause-cases g c =
    let m = g.met.E.Entry in
    let q = c.args.self.now in
    takes (ranks g.E.Entry.before m.asymmetric m.total m.transitive) q (q.len - 1) c.index-self-last.result c.sink.new.entries (omega arith) c.sink.ensures.shuffled c.index-self-0.result _ refl refl
