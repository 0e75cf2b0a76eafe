use Rattle.std.proofs.Common.{◌≡◌, suc, ◌+◌, ◌-◌, ◌<◌, length, get_or, drop, vec_items, vec_len, sym, ap, ◌∙◌, subst, arith, rules}
use Rattle.std.proofs.lemmas.List.{drop_all, drop_more, drop-set}
use Rattle.graph.specs.Whole.{graph_of}
use Rattle.model.specs.Lists.{In}
use Rattle.model.specs.Times.{largest, lengths, remaining}
use Rattle.model.proofs.LengthLaws.{length-lengths, exit_later, remaining_within}
use Rattle.model.proofs.PlaceLaws.{well_formed_place_by_place}
use Rattle.plan.proofs.Measured.{length-segments, read_exits, read_length}
use Rattle.plan.proofs.Remaining.{remaining_from}
use Rattle.plan.proofs.lengths.remaining_lengths.Goals as goal
use Rattle.plan.proofs.lengths.remaining_lengths.Goals.{After-index-timelines-s}

pub loop-s-init : goal.loop-s-init
loop-s-init c =
    let g = c.args.graph.now in
    let xs = vec_items c.in_ok-remaining.remaining in
    let all = lengths g.cores 0 (graph_of g).segments in
    let n = c.len-count.result in
    let many : vec_len c.in_ok-remaining.remaining ≡ vec_len g.segments = search rules in
    let few : length xs ≡ n = search rules in
    (many, drop_all n xs (omega arith) ∙ sym (drop_all n all (omega (arith, length-lengths g.cores (graph_of g).segments 0, length-segments g, c.len-count.ensures))))

pub largest-after-requires : goal.largest-after-requires
largest-after-requires c e i =
    let g = c.args.graph.now in
    let s = c.loop-s.s - 1 in
    let inside : s < vec_len g.segments = omega (arith, c.loop-s.auto.s, c.len-count.ensures, c.loop-s-test.true) in
    let exits = c.as_slice-in-loop-s.ensures.value ∙ sym (read_exits g s c.index.result.now inside c.index.ensures) in
    omega (
      arith,
      (exit_later (graph_of g) (well_formed_place_by_place (graph_of g) g.formed) s e (omega (arith, length-segments g)) (subst (λ l. In e l) exits i)).1,
      length-segments g,
      c.as_slice.ensures.len,
      c.loop-s.invariant.0,
    )

-- the sum is the remaining length of the segment
sum_is : (c : goal.After-index-timelines-s)
    → (get_or c.args.timelines.now (c.loop-s.s - 1) c.index-timelines-s.result).length + c.largest-after.result
    ≡ remaining (graph_of c.args.graph.now) (c.loop-s.s - 1)
sum_is c =
    let g = c.args.graph.now in
    let s = c.loop-s.s - 1 in
    let xs = vec_items c.loop-s.remaining in
    let all = lengths g.cores 0 (graph_of g).segments in
    let inside : s < vec_len g.segments = omega (arith, c.loop-s.auto.s, c.len-count.ensures, c.loop-s-test.true) in
    let own : c.loop-s.s ≡ suc s = omega (arith, c.loop-s-test.true) in
    omega (
      arith,
      read_length g c.args.timelines.now c.requires s c.index-timelines-s.result inside,
      c.largest-after.ensures,
      ap (λ l. largest l 0 c.as_slice-in-loop-s.result.now) c.as_slice.ensures.value,
      ap (largest xs 0) (c.as_slice-in-loop-s.ensures.value ∙ sym (read_exits g s c.index.result.now inside c.index.ensures)),
      remaining_from (graph_of g) (well_formed_place_by_place (graph_of g) g.formed) xs s (omega (arith, length-segments g)) (subst (λ n. drop n xs ≡ drop n all) own c.loop-s.invariant.1),
    )

pub overflow_add-timelines : goal.overflow_add-timelines
overflow_add-timelines c =
    let g = c.args.graph.now in
    let within = remaining_within (graph_of g) (well_formed_place_by_place (graph_of g) g.formed) (c.loop-s.s - 1) (omega (arith, length-segments g, c.loop-s.auto.s, c.len-count.ensures, c.loop-s-test.true)) in
    omega (arith, sum_is c, within)

pub loop-s-preserved : goal.loop-s-preserved
loop-s-preserved c =
    let g = c.args.graph.now in
    let s = c.loop-s.s - 1 in
    let xs = vec_items c.loop-s.remaining in
    let all = lengths g.cores 0 (graph_of g).segments in
    let back : s + 1 ≡ c.loop-s.s = omega (arith, c.loop-s-test.true) in
    let inside : s < vec_len g.segments = omega (arith, c.loop-s.auto.s, c.len-count.ensures, c.loop-s-test.true) in
    let own = drop-set xs s (remaining (graph_of g) s) (omega (arith, c.loop-s.invariant.0, c.loop-s.remaining.ok.0)) in
    let all_own = drop_more all s 0 (omega (arith, length-lengths g.cores (graph_of g).segments 0, length-segments g)) in
    let sum = sum_is (goal.at.loop-s-preserved c).After-index-timelines-s in
    let later = c.loop-s.invariant.1 in
    (c.loop-s.invariant.0, cc)
