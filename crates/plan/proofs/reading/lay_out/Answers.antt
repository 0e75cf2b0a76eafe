use Rattle.std.proofs.Common.{◌≡◌, ◌<◌, map, length, get_or, Err, vec_items, Result, sym, ap, ◌∙◌, arith}
use Rattle.std.proofs.lemmas.List.{get_or_default}
use Rattle.std.proofs.lemmas.Bool.{cond-true, lt-ltb}
use Rattle.fault.specs.Card.{fault}
use Rattle.fault.specs.declared.kind.Fault.{Fault}
use Rattle.fault.specs.declared.kind.Kind.TheVariants.{OverDeadline}
use Rattle.graph.specs.Whole.{graph_of}
use Rattle.model.proofs.LengthLaws.{length-lengths}
use Rattle.model.proofs.PlaceLaws.{well_formed_place_by_place}
use Rattle.model.specs.Graph.{Graph}
use Rattle.model.specs.Times.{needed}
use Rattle.schedule.specs.Meaning.{timeline_of, planned}
use Rattle.plan.specs.Tables.{lengths_of}
use Rattle.plan.proofs.Laying.{measured, scheduled, deadline_decides}
use Rattle.plan.proofs.reading.lay_out.Goals as goal
use Rattle.plan.proofs.reading.lay_out.Goals.{In_ok-timelines, After-index-needed}

-- the timelines are those of the segments
laid : (c : goal.In_ok-timelines) → map timeline_of (vec_items c.in_ok-timelines.timelines) ≡ map (planned c.args.graph.cores) (graph_of c.args.graph).segments
laid c = scheduled (graph_of c.args.graph) (length c.args.ready.now) (length c.args.running.now) _ c.in_ok-timelines.ensures.answer

pub remaining_lengths-requires : goal.remaining_lengths-requires
remaining_lengths-requires c =
    ap lengths_of c.as_slice.ensures.value
    ∙ measured c.args.graph.cores (vec_items c.in_ok-timelines.timelines) (graph_of c.args.graph).segments (laid (goal.at.remaining_lengths-requires c).In_ok-timelines)

pub index-needed-requires : goal.index-needed-requires
index-needed-requires c =
    let g = graph_of c.args.graph in
    omega (arith, ap length c.in_ok-remaining.ensures, length-lengths g.cores g.segments 0, (well_formed_place_by_place g c.args.graph.formed).some_segment)

-- the first of the remaining lengths is what is needed
first : (c : goal.After-index-needed) → c.index-needed.result.now ≡ needed (graph_of c.args.graph)
first c =
    let items = vec_items c.in_ok-remaining.remaining in
    let g = graph_of c.args.graph in
    let some : 0 < length items = omega (arith, ap length c.in_ok-remaining.ensures, length-lengths g.cores g.segments 0, (well_formed_place_by_place g c.args.graph.formed).some_segment) in
    c.index-needed.ensures ∙ get_or_default items 0 _ 0 some ∙ ap (λ l. get_or l 0 0) c.in_ok-remaining.ensures

pub returns-then-needed-from : goal.returns-then-needed-from
returns-then-needed-from c =
    let g = graph_of c.args.graph in
    let is = first (goal.at.returns-then-needed-from c).After-index-needed in
    rw c.into.ensures
    (deadline_decides g (length c.args.ready.now) (length c.args.running.now) _ c.in_ok-timelines.ensures.answer
    ∙ cond-true _ _ _ (lt-ltb g.deadline (needed g) (omega (arith, is, c.if-needed-from.true, c.from.ensures)))
    ∙ ap {B = Result Graph Fault} Err (ap (fault OverDeadline) (sym is) ∙ sym c.at.ensures))

pub invariant_of-result : goal.invariant_of-result
invariant_of-result c =
    let at = goal.at.invariant_of-result c in
    record {
      laid = laid at.In_ok-timelines;
      remains = c.in_ok-remaining.ensures;
      in_time = omega (arith, first at.After-index-needed, c.if-needed-from.false, c.from.ensures);
    }
