use Rattle.std.proofs.Common.{ℕ, List, [], ◌∷◌, ◌++◌, vec_items, ap, arith, rules, length}
use Rattle.model.specs.Numbers.{number_bytes}
use Rattle.model.specs.Writing.{listed}
use Rattle.writer.specs.Laid.{Countable}
use Rattle.writer.proofs.Laying.{count_first, count_rest, lays_then, task_parts}
use Rattle.writer.proofs.plan.TaskPut.put.Goals as goal
use Rattle.writer.proofs.plan.TaskPut.put.Goals.{After-as_slice, After-list}

-- what is put after the name
abbrev rest : goal.After-as_slice → List ℕ
rest c = number_bytes c.args.self.now.worst ++ listed number_bytes (vec_items c.args.self.now.predecessors)

all : (c : goal.After-as_slice) → Countable c.args.run.now (listed (λ b. b ∷ []) c.as_slice.result.now ++ rest c)
all c = rw c.as_slice.ensures.value (omega (arith, c.requires, ap length (task_parts c.args.self.now)))

after_name : (c : goal.After-list) → Countable c.list.new.self (rest (goal.at.After-list c).After-as_slice)
after_name c = let a = (goal.at.After-list c).After-as_slice in count_rest _ (rest a) c.args.run.now (all a) c.list.new.self c.list.ensures

pub list-requires : goal.list-requires
list-requires c = let a = (goal.at.list-requires c).After-as_slice in (search rules, count_first _ (rest a) c.args.run.now (all a))

pub put-requires : goal.put-requires
put-requires c = count_first (number_bytes c.args.self.now.worst) _ c.list.new.self (after_name (goal.at.put-requires c).After-list)

pub list-requires-2 : goal.list-requires-2
list-requires-2 c = (search rules, rw c.as_slice-2.ensures.value (count_rest (number_bytes c.args.self.now.worst) _ c.list.new.self (after_name (goal.at.list-requires-2 c).After-list) c.put.new.run c.put.ensures))

pub returns : goal.returns
returns c =
    let parts = lays_then c.list.ensures (lays_then c.put.ensures c.list-2.ensures) in
    let e = task_parts c.args.self.now in
    rw (← e) (rw (c.as_slice.ensures.value, c.as_slice-2.ensures.value) at parts)
