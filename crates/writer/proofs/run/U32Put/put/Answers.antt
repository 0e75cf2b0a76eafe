use Rattle.std.proofs.Common.{◌∙◌}
use Rattle.writer.proofs.Laying.{each_byte}
use Rattle.writer.proofs.run.U32Put.put.Goals as goal

pub each-requires : goal.each-requires
each-requires c = let e = each_byte c.as_slice.result.now ∙ (c.as_slice.ensures ∙ c.new.ensures) in rw e c.requires

pub returns : goal.returns
returns c = let e = each_byte c.as_slice.result.now ∙ (c.as_slice.ensures ∙ c.new.ensures) in rw e at c.each.ensures
