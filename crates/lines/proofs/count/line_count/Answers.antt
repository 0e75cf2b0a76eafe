use Rattle.std.proofs.Common.{◌≡◌, ◌^◌, ◌<◌, vec_items, vec_len, arith, rules}
use Rattle.std.specs.List.{sum_by}
use Rattle.schedule.specs.declared.parts.Timeline.{Timeline}
use Rattle.lines.proofs.Tables.{starts_are_lines, few_starts}
use Rattle.lines.proofs.count.line_count.Goals as goal

pub sum-requires-clause-fits : goal.sum-requires-clause-fits
sum-requires-clause-fits c =
    let ts = vec_items c.args.plan.now.timelines in
    let few : sum_by (λ (t : Timeline). vec_len t.starts) ts < 2 ^ 64 = few_starts c.args.plan.now in
    search rules

pub returns : goal.returns
returns c =
    let ts = vec_items c.args.plan.now.timelines in
    let all : c.sum.result ≡ sum_by (λ (t : Timeline). vec_len t.starts) ts = search rules in
    omega (arith, all, starts_are_lines c.args.plan.now)
