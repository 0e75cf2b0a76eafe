use Rattle.std.proofs.Common.{◌≡◌, ℕ, ◌<◌, ◌≤◌, get_or, ap, ◌∙◌, ⊎_elim, arith, rules}
use Rattle.std.proofs.lemmas.Bool.{cases_lt}
use Rattle.std.proofs.lemmas.List.{get_or_past}
use Rattle.graph.specs.Whole.{graph_of}
use Rattle.model.proofs.LengthLaws.{length-lengths, no_segment_needs_more}
use Rattle.model.proofs.PlaceLaws.{well_formed_place_by_place}
use Rattle.model.specs.Places.{count}
use Rattle.model.specs.Times.{lengths, remaining}
use Rattle.plan.specs.declared.place.Plan.{Plan}
use Rattle.plan.proofs.place.Plan.shift.Goals as goal

-- what remains of a segment, in the plan or outside, is within the deadline
within : (p : Plan) (s : ℕ) → remaining (graph_of p.graph) s ≤ p.graph.deadline
within p s =
    let g = graph_of p.graph in
    ⊎_elim
    (λ (inside : s < count g). omega (arith, no_segment_needs_more g (well_formed_place_by_place g p.graph.formed) s inside, p.in_time))
    (λ past. omega (arith, get_or_past (lengths g.cores 0 g.segments) s 0 (omega (arith, past, length-lengths g.cores g.segments 0))))
    (cases_lt s (count g))

pub overflow_sub-result : goal.overflow_sub-result
overflow_sub-result c =
    let s = c.args.segment in
    let read : c.unwrap_or.result ≡ get_or c.deref.result.now s 0 = search rules in
    omega (arith, read, ap (λ l. get_or l s 0) (c.deref.ensures.value ∙ c.args.self.now.remains), within c.args.self.now s, c.from-deadline.ensures)
