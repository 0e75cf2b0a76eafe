use Rattle.std.proofs.Common.{◌≡◌, ◌-◌, map, length, vec_items, sym, refl, ap, ◌∙◌, arith, rules}
use Rattle.std.proofs.lemmas.List.{length-map, map_push}
use Rattle.std.proofs.lemmas.Result.{err_from_is_err_and}
use Rattle.model.proofs.Along.{total_push}
use Rattle.model.specs.Graph.{predecessors_of, tasks_in, predecessors_in}
use Rattle.model.specs.Reading.{numbered_segment, next_segment}
use Rattle.graph.specs.Meaning.{task_of, segment_of}
use Rattle.reader.proofs.Several.{one_more, stopped}
use Rattle.reader.proofs.input.Input.segments.Goals as goal
use Rattle.reader.proofs.input.Input.segments.Goals.{After-segment}

-- the next segment as the model has it and as the loop's counts have it
counted : (c : goal.After-segment) → numbered_segment c.loop-own.self.count c.args.many c.loop-own.own c.loop-own.tasks_left c.loop-own.left c.loop-own.self.rest.now ≡ next_segment c.loop-own.self.count c.args.many (map segment_of (vec_items c.loop-own.segments)) c.loop-own.self.rest.now
counted c =
    let done = map segment_of (vec_items c.loop-own.segments) in
    let own : c.loop-own.own ≡ length done = sym (length-map (vec_items c.loop-own.segments) segment_of ∙ (sym c.loop-own.segments.ok.0 ∙ c.loop-own.invariant.3)) in
    ap (λ n. numbered_segment c.loop-own.self.count c.args.many n c.loop-own.tasks_left c.loop-own.left c.loop-own.self.rest.now) own
    ∙ (ap (λ n. numbered_segment c.loop-own.self.count c.args.many (length done) n c.loop-own.left c.loop-own.self.rest.now) c.loop-own.invariant.1
    ∙ ap (λ n. numbered_segment c.loop-own.self.count c.args.many (length done) (256 - tasks_in done) n c.loop-own.self.rest.now) c.loop-own.invariant.2)

pub returns-in_err-segment-clause-reads : goal.returns-in_err-segment-clause-reads
returns-in_err-segment-clause-reads c =
    let p = err_from_is_err_and c.from_residual.result c.from_residual.ensures.1 in
    let same = counted (goal.at.returns-in_err-segment-clause-reads c).After-segment in
    rw (p.1, p.2) (stopped (λ k. next_segment k c.args.many) c.args.many c.loop-own.own (map segment_of (vec_items c.loop-own.segments)) c.args.self.now c.loop-own.self c.segment.new.self c.loop-own.invariant.0 c.loop-own-test.true c.in_err-segment.ensures.same_run
    (λ v. map segment_of v.items) _ (rw (← same) c.in_err-segment.ensures.answer))

pub loop-own-preserved : goal.loop-own-preserved
loop-own-preserved c =
    let done = map segment_of (vec_items c.loop-own.segments) in
    let s = c.in_ok-segment.segment in
    let same = counted (goal.at.loop-own-preserved c).After-segment in
    let pushed = ap (map segment_of) c.in_ok-push.ensures.items ∙ map_push segment_of (vec_items c.loop-own.segments) s in
    let tasks = ap tasks_in pushed ∙ total_push (λ x. length x.tasks) tasks_in refl (λ _ _. refl) done (segment_of s) in
    let few = length-map (vec_items s.tasks) task_of in
    let total = ap predecessors_in pushed ∙ total_push (λ x. predecessors_of x.tasks) predecessors_in refl (λ _ _. refl) done (segment_of s) in
    let spent = ap (λ ts. predecessors_of (map task_of ts)) c.as_slice.ensures.value in (
      rw pushed (one_more (λ k. next_segment k c.args.many) c.args.many c.loop-own.own done c.args.self.now c.loop-own.self c.segment.new.self c.loop-own.invariant.0 c.loop-own-test.true c.in_ok-segment.ensures.same_run
          (segment_of s) (sym same ∙ c.in_ok-segment.ensures.answer)),
      omega (arith, tasks, few, c.loop-own.invariant.1, c.saturating_sub-tasks_left.ensures, c.len.ensures, s.tasks.ok.0),
      omega (arith, total, spent, c.loop-own.invariant.2, c.left_after-left.ensures),
      search rules,
    )
