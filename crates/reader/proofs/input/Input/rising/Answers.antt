use Rattle.std.proofs.Common.{◌≡◌, [], vec_items, sym, ap, ◌∙◌, rules}
use Rattle.std.proofs.lemmas.Result.{err_from_is_err_and}
use Rattle.model.proofs.Rising.{past_push}
use Rattle.model.specs.Lists.{past}
use Rattle.model.specs.Reading.{next_rising}
use Rattle.reader.proofs.Several.{one_more, stopped}
use Rattle.reader.proofs.input.Input.rising.Goals as goal
use Rattle.reader.proofs.input.Input.rising.Goals.{After-next_rising}

-- the next number as the model has it and as the loop has it
told : (c : goal.After-next_rising) → next_rising c.loop-i.self.count c.args.over c.args.least c.args.top (vec_items c.loop-i.numbers) c.loop-i.self.rest.now ≡ next_rising c.loop-i.self.count c.args.over c.loop-i.lowest c.args.top [] c.loop-i.self.rest.now
told c = ap (λ w. next_rising c.loop-i.self.count c.args.over w c.args.top [] c.loop-i.self.rest.now) (sym c.loop-i.invariant.1)

pub returns-in_err-n-clause-reads : goal.returns-in_err-n-clause-reads
returns-in_err-n-clause-reads c =
    let p = err_from_is_err_and c.from_residual.result c.from_residual.ensures.1 in
    let one = told (goal.at.returns-in_err-n-clause-reads c).After-next_rising ∙ sym c.in_err-n.ensures.answer in
    rw (p.1, p.2) (stopped (λ k. next_rising k c.args.over c.args.least c.args.top) c.args.many c.loop-i._i (vec_items c.loop-i.numbers) c.args.self.now c.loop-i.self c.next_rising.new.self c.loop-i.invariant.0 c.loop-i-test.true c.in_err-n.ensures.same_run vec_items _ one)

pub loop-i-preserved : goal.loop-i-preserved
loop-i-preserved c =
    let one = told (goal.at.loop-i-preserved c).After-next_rising ∙ sym c.in_ok-n.ensures.answer in
    let pushed = c.in_ok-push.ensures.items in (
      rw pushed (one_more (λ k. next_rising k c.args.over c.args.least c.args.top) c.args.many c.loop-i._i (vec_items c.loop-i.numbers) c.args.self.now c.loop-i.self c.next_rising.new.self c.loop-i.invariant.0 c.loop-i-test.true c.in_ok-n.ensures.same_run c.in_ok-n.n one),
      sym (ap (past c.args.least) pushed ∙ past_push c.args.least (vec_items c.loop-i.numbers) c.in_ok-n.n),
      search rules,
    )
