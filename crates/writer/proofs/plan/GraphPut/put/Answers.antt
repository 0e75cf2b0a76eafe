use Rattle.std.proofs.Common.{◌≡◌, map, vec_items, ap, ◌∙◌, rules}
use Rattle.model.specs.Numbers.{number_bytes}
use Rattle.model.specs.Writing.{listed, segment_bytes}
use Rattle.graph.specs.Meaning.{segment_of}
use Rattle.writer.proofs.Laying.{count_rest, lays_then, listed-map}
use Rattle.writer.proofs.plan.GraphPut.put.Goals as goal
use Rattle.writer.proofs.plan.GraphPut.put.Goals.{After-as_slice}

-- the bytes of the segments, as they are put
segments : (c : goal.After-as_slice) → listed (λ s. segment_bytes (segment_of s)) c.as_slice.result.now ≡ listed segment_bytes (map segment_of (vec_items c.args.self.now.segments))
segments c = ap (listed (λ s. segment_bytes (segment_of s))) c.as_slice.ensures.value ∙ listed-map segment_bytes segment_of (vec_items c.args.self.now.segments)

pub list-requires : goal.list-requires
list-requires c =
    let e = segments (goal.at.list-requires c).After-as_slice in
    let after_cores = count_rest (number_bytes c.args.self.now.cores) _ c.args.run.now c.requires c.put.new.run c.put.ensures in
    (search rules, rw e (count_rest (number_bytes c.args.self.now.deadline) _ c.put.new.run after_cores c.put-2.new.run c.put-2.ensures))

pub returns : goal.returns
returns c =
    let e = segments (goal.at.returns c).After-as_slice in
    let parts = lays_then c.put.ensures (lays_then c.put-2.ensures c.list.ensures) in
    simp e at parts
