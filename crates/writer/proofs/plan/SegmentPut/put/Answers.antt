use Rattle.std.proofs.Common.{◌≡◌, map, vec_items, ap, ◌∙◌, rules}
use Rattle.model.specs.Numbers.{number_bytes}
use Rattle.model.specs.Writing.{listed, task_bytes}
use Rattle.graph.specs.Meaning.{task_of}
use Rattle.writer.proofs.Laying.{count_first, count_rest, lays_then, listed-map}
use Rattle.writer.proofs.plan.SegmentPut.put.Goals as goal
use Rattle.writer.proofs.plan.SegmentPut.put.Goals.{After-as_slice}

-- the bytes of the tasks, as they are put
tasks : (c : goal.After-as_slice) → listed (λ t. task_bytes (task_of t)) c.as_slice.result.now ≡ listed task_bytes (map task_of (vec_items c.args.self.now.tasks))
tasks c = ap (listed (λ t. task_bytes (task_of t))) c.as_slice.ensures.value ∙ listed-map task_bytes task_of (vec_items c.args.self.now.tasks)

pub list-requires : goal.list-requires
list-requires c =
    let e = tasks (goal.at.list-requires c).After-as_slice in
    (search rules, rw e (count_first _ (listed number_bytes (vec_items c.args.self.now.exits)) c.args.run.now c.requires))

pub list-requires-2 : goal.list-requires-2
list-requires-2 c =
    let e = tasks (goal.at.list-requires-2 c).After-as_slice in
    (search rules, rw c.as_slice-2.ensures.value (count_rest (listed task_bytes (map task_of (vec_items c.args.self.now.tasks))) (listed number_bytes (vec_items c.args.self.now.exits)) c.args.run.now c.requires c.list.new.self (rw e at c.list.ensures)))

pub returns : goal.returns
returns c =
    let e = tasks (goal.at.returns c).After-as_slice in
    let parts = lays_then c.list.ensures c.list-2.ensures in
    simp (e, c.as_slice-2.ensures.value) at parts
