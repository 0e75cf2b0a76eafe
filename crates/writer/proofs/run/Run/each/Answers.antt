use Rattle.std.proofs.Common.{◌+◌, drop, ◌∙◌}
use Rattle.std.specs.List.{flat_map}
use Rattle.model.proofs.Runs.{laid_more, joined-drop}
use Rattle.writer.proofs.run.Run.each.Goals as goal

pub loop-item-preserved : goal.loop-item-preserved
loop-item-preserved g c =
    let f = g.T.Put.bytes in
    let turn = joined-drop f c.args.items.now c.loop-item.item-index c.item-item.result c.loop-item-test.true c.item-item.is in
    let more = laid_more (f c.item-item.result) (flat_map f (drop (c.loop-item.item-index + 1) c.args.items.now)) (flat_map f (drop c.loop-item.item-index c.args.items.now)) c.loop-item.self.at c.loop-item.self.out.now _ _ turn c.loop-item.invariant.1 c.loop-item.invariant.2 _ _ c.put.ensures.laid in
    (c.put.ensures.same_reference ∙ c.loop-item.invariant.0, more.0, more.1)
