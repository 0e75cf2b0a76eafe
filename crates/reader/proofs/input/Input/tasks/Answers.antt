use Rattle.std.proofs.Common.{◌≡◌, map, length, vec_items, sym, refl, ap, ◌∙◌, arith, rules}
use Rattle.std.proofs.lemmas.List.{length-map, map_push}
use Rattle.std.proofs.lemmas.Result.{err_from_is_err_and}
use Rattle.model.proofs.Along.{total_push}
use Rattle.model.specs.Graph.{predecessors_of}
use Rattle.model.specs.Reading.{numbered_task, next_task}
use Rattle.graph.specs.Meaning.{task_of}
use Rattle.reader.proofs.Several.{one_more, stopped}
use Rattle.reader.proofs.input.Input.tasks.Goals as goal
use Rattle.reader.proofs.input.Input.tasks.Goals.{After-task}

-- the next task as the model has it and as the loop's counts have it
counted : (c : goal.After-task) → numbered_task c.loop-own.self.count c.loop-own.own c.loop-own.allowed c.loop-own.self.rest.now ≡ next_task c.loop-own.self.count c.args.left (map task_of (vec_items c.loop-own.tasks)) c.loop-own.self.rest.now
counted c =
    let done = map task_of (vec_items c.loop-own.tasks) in
    let own : c.loop-own.own ≡ length done = sym (length-map (vec_items c.loop-own.tasks) task_of ∙ (sym c.loop-own.tasks.ok.0 ∙ c.loop-own.invariant.2)) in
    ap (λ n. numbered_task c.loop-own.self.count n c.loop-own.allowed c.loop-own.self.rest.now) own
    ∙ ap (λ w. numbered_task c.loop-own.self.count (length done) w c.loop-own.self.rest.now) c.loop-own.invariant.1

pub returns-in_err-task-clause-reads : goal.returns-in_err-task-clause-reads
returns-in_err-task-clause-reads c =
    let p = err_from_is_err_and c.from_residual.result c.from_residual.ensures.1 in
    let same = counted (goal.at.returns-in_err-task-clause-reads c).After-task in
    rw (p.1, p.2) (stopped (λ k. next_task k c.args.left) c.args.many c.loop-own.own (map task_of (vec_items c.loop-own.tasks)) c.args.self.now c.loop-own.self c.task.new.self c.loop-own.invariant.0 c.loop-own-test.true c.in_err-task.ensures.same_run
    (λ v. map task_of v.items) _ (rw (← same) c.in_err-task.ensures.answer))

pub loop-own-preserved : goal.loop-own-preserved
loop-own-preserved c =
    let done = map task_of (vec_items c.loop-own.tasks) in
    let t = c.in_ok-task.task in
    let same = counted (goal.at.loop-own-preserved c).After-task in
    let pushed = ap (map task_of) c.in_ok-push.ensures.items ∙ map_push task_of (vec_items c.loop-own.tasks) t in
    let total = ap predecessors_of pushed ∙ total_push (λ x. length x.predecessors) predecessors_of refl (λ _ _. refl) done (task_of t) in (
      rw pushed (one_more (λ k. next_task k c.args.left) c.args.many c.loop-own.own done c.args.self.now c.loop-own.self c.task.new.self c.loop-own.invariant.0 c.loop-own-test.true c.in_ok-task.ensures.same_run
          (task_of t) (sym same ∙ c.in_ok-task.ensures.answer)),
      omega (arith, total, c.loop-own.invariant.1, c.saturating_sub-allowed.ensures, c.len.ensures, t.predecessors.ok.0),
      search rules,
    )
