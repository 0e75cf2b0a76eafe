use Rattle.std.proofs.Common.{◌≡◌, ◌^◌, ◌<◌, map, length, Ok, vec_items, vec_len, sym, ap, ◌∙◌, arith, rules}
use Rattle.std.proofs.lemmas.Result.{err_from_is_err_and}
use Rattle.model.proofs.GraphLaws.{graphs_read_are_formed, graphs_take_their_bytes}
use Rattle.model.specs.Graph.{Graph}
use Rattle.model.specs.Reading.{reading}
use Rattle.reader.specs.Answers.{passing}
use Rattle.graph.specs.Meaning.{segment_of, graph_with}
use Rattle.reader.proofs.Whole.{read_whole}
use Rattle.reader.proofs.plan.whole.Goals as goal
use Rattle.reader.proofs.plan.whole.Goals.{After-entries, In_ok-entries}

-- the graph that the parts make
abbrev whole : goal.After-entries → Graph
whole c = graph_with c.in_ok-cores.cores c.in_ok-deadline.deadline (vec_items c.in_ok-segments.segments)

-- once the parts are read, the entries decide
read : (c : goal.After-entries) → reading c.args.bytes.now ≡ passing c.entries.result (whole c)
read c =
    read_whole c.args.bytes.now c.new-input.result c.ranged.new.self c.ranged-2.new.self c.ranged-3.new.self c.segments.new.self
    c.in_ok-cores.cores c.in_ok-deadline.deadline c.in_ok-many.many (map segment_of (vec_items c.in_ok-segments.segments))
    c.new-input.ensures c.in_ok-cores.ensures c.in_ok-deadline.ensures c.in_ok-many.ensures c.in_ok-segments.ensures.reads.same_run c.in_ok-segments.ensures.reads.answer
    c.entries.result c.in_ok-nothing_left.ensures (c.entries.ensures (whole c) (ap (map segment_of) (sym c.as_slice.ensures.value)))

pub returns-in_err-entries : goal.returns-in_err-entries
returns-in_err-entries c =
    let p = err_from_is_err_and c.from_residual-in_err-entries.result c.from_residual-in_err-entries.ensures.1 in
    let at_entries = (goal.at.returns-in_err-entries c).After-entries in
    rw (p.1, p.2) (read at_entries ∙ ap (λ r. passing r (whole at_entries)) c.in_err-entries.was)

-- the bytes are read without fault
accepted : (c : goal.In_ok-entries) → reading c.args.bytes.now ≡ Ok (whole (goal.at.In_ok-entries c).After-entries)
accepted c = let at_entries = (goal.at.In_ok-entries c).After-entries in read at_entries ∙ ap (λ r. passing r (whole at_entries)) c.in_ok-entries.was

pub invariant_of-result : goal.invariant_of-result
invariant_of-result c =
    let ok = accepted c in
    let small : length c.args.bytes.now < 2 ^ 64 = search rules in
    let counted : vec_len c.in_ok-segments.segments < 2 ^ 32 = search rules in
    record {
      formed = graphs_read_are_formed _ _ ok;
      counted = counted;
      size_counted = omega (arith, ap length (graphs_take_their_bytes _ _ ok), small);
    }

pub returns : goal.returns
returns c = accepted (goal.at.returns c).In_ok-entries
