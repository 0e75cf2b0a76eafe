use Rattle.std.proofs.Common.{◌≡◌, ℕ, ◌+◌, ◌^◌, ◌<◌, ◌≤◌, List, map, length, get_or, drop, vec_items, sym, ap, ◌∙◌, subst, zero-add, arith, length-append}
use Rattle.std.proofs.lemmas.Iterator.{YieldsList-from_slice, YieldsList-from_zip}
use Rattle.std.proofs.lemmas.Iterator.Consumers.{YieldsList-at, YieldsList-from_enumerate, YieldsList-turn, YieldsList-end}
use Rattle.std.proofs.lemmas.List.FromFn.{length-range_with_len, length-enumerate_from, get_or-enumerate_from}
use Rattle.std.proofs.lemmas.List.{at_drop_all, get_or-map, length-map, length_push}
use Rattle.std.proofs.lemmas.Slice.Zip.{get_or-zip, length-zip}
use Rattle.std.specs.List.{enumerate_from, zip, range_with_len, flat_map}
use Rattle.graph.specs.Meaning.{segment_of}
use Rattle.graph.specs.Whole.{graph_of}
use Rattle.model.proofs.Runs.{laid_more}
use Rattle.model.specs.Canonical as canon
use Rattle.model.specs.CanonicalLines.{lines_from, canonical_segment_lines}
use Rattle.model.specs.Lists.{In}
use Rattle.model.specs.Places.{no_segment, segment, count}
use Rattle.model.specs.Runs.{over, Laid}
use Rattle.schedule.specs.Meaning.{start_of}
use Rattle.lines.specs.Meaning.{line_of}
use Rattle.lines.proofs.Tables.{turn, timelines_counted, inside, lines_read, starts_counted, starts_known}
use Rattle.lines.proofs.canonical.fill_canonical.Goals as goal
use Rattle.lines.proofs.canonical.fill_canonical.Goals.{After-as_slice}

-- what stands in a turn stands at its number in the two lists
paired : {A B : Type 0} (xs : List A) (ys : List B) (i k : ℕ) (x : A) (y : B)
    → (i < length (enumerate_from 0 (zip xs ys))) × ((k, (x, y)) ≡ get_or (enumerate_from 0 (zip xs ys)) i (k, (x, y)))
    → (i < length xs) × (i < length ys) × (k ≡ i) × (x ≡ get_or xs i x) × (y ≡ get_or ys i y)
paired xs ys i k x y h =
    let many = length-enumerate_from 0 (zip xs ys) ∙ length-zip xs ys in
    let low : i < length xs = omega (arith, h.0, many) in
    let few : i < length ys = omega (arith, h.0, many) in
    let e = h.1 ∙ get_or-enumerate_from 0 (zip xs ys) i (k, (x, y)) (omega (arith, h.0, length-enumerate_from 0 (zip xs ys))) in
    let pair = ap (λ p. p.1) e ∙ get_or-zip xs ys i (x, y) low few in
    (low, few, ap (λ p. p.0) e ∙ zero-add i, ap (λ p. p.0) pair, ap (λ p. p.1) pair)

-- the segment and the timeline of the turn
turn_is : (c : goal.After-as_slice) →
    let i = length c.loop-number.yielded in
    let p = c.args.plan.now in
    (i < length (vec_items p.graph.segments)) × (i < length (vec_items p.timelines)) × (c.in-Some.number ≡ i)
    × (c.in-Some.segment.now ≡ get_or (vec_items p.graph.segments) i c.in-Some.segment.now) × (c.in-Some.timeline.now ≡ get_or (vec_items p.timelines) i c.in-Some.timeline.now)
turn_is c =
    let p = c.args.plan.now in
    let road = YieldsList-at c.into_iter-number-iterator.ensures.into_iter_gives (YieldsList-from_enumerate (YieldsList-at c.enumerate-number-items.ensures.source (YieldsList-from_zip (YieldsList-at c.zip-segments.ensures.first (YieldsList-from_slice (vec_items p.graph.segments) cc)) (YieldsList-at c.zip-segments.ensures.second (YieldsList-from_slice (vec_items p.timelines) cc)))) c.enumerate-number-items.ensures.count) in
    paired _ _ _ _ _ _ (YieldsList-turn road c.loop-number.yielded c.loop-number.number-iterator c.loop-number.yielded_by _ c.next.new.self _ c.in-Some.is c.next.ensures.steps)

low : (c : goal.After-as_slice) → length c.loop-number.yielded < length (vec_items c.args.plan.now.timelines)
low c = (turn_is c).1

is : (c : goal.After-as_slice) → c.in-Some.timeline.now ≡ get_or (vec_items c.args.plan.now.timelines) (length c.loop-number.yielded) c.in-Some.timeline.now
is c = (turn_is c).4

-- the segment that is read
read : (c : goal.After-as_slice) → segment (graph_of c.args.plan.now.graph) (length c.loop-number.yielded) ≡ segment_of c.in-Some.segment.now
read c =
    let h = turn_is c in
    get_or-map segment_of (vec_items c.args.plan.now.graph.segments) (length c.loop-number.yielded) c.in-Some.segment.now no_segment h.0 ∙ ap segment_of (sym h.3)

pub fill_segment-place-requires : goal.fill_segment-place-requires
fill_segment-place-requires c =
    let p = c.args.plan.now in
    let g = graph_of p.graph in
    let i = length c.loop-number.yielded in
    let t = c.in-Some.timeline.now in
    let a = (goal.at.fill_segment-place-requires c).After-as_slice in
    let value = c.as_slice.ensures.value in
    let f = canonical_segment_lines g in
    let long = ap length (turn g i (inside p i t (low a) (is a))) in
    let parts = length-append (f i) (flat_map f (drop (i + 1) (range_with_len 0 (count g)))) in record {
      room = omega (arith, long, parts, starts_counted p i t (low a) (is a), ap length value, c.loop-number.invariant.1, c.loop-number.auto.out, c.requires);
      known = λ x sits.
          subst (λ s. (x.task < length s.tasks) × (canon.end_of s x < 2 ^ 64)) (read a)
          (starts_known p i t (low a) (is a) x (subst (λ l. In x (map start_of l)) value sits));
    }

pub loop-number-preserved : goal.loop-number-preserved
loop-number-preserved c =
    let p = c.args.plan.now in
    let g = graph_of p.graph in
    let i = length c.loop-number.yielded in
    let t = c.in-Some.timeline.now in
    let a = (goal.at.loop-number-preserved c).After-as_slice in
    let f = canonical_segment_lines g in
    let run = map line_of c.loop-number.out in
    let after = map line_of c.fill_segment-place.new.out in
    let lines = ap (λ k. lines_from (segment_of c.in-Some.segment.now) k 0 (map start_of c.as_slice.result.now)) (turn_is a).2
    ∙ ap (λ s. lines_from s i 0 (map start_of c.as_slice.result.now)) (sym (read a))
    ∙ ap (λ l. lines_from (segment g i) i 0 (map start_of l)) c.as_slice.ensures.value ∙ lines_read p i t (low a) (is a) in
    let one = subst (λ l. Laid l c.loop-number.place run c.fill_segment-place.result after) lines c.fill_segment-place.ensures in
    rw (length_push c.loop-number.yielded (c.in-Some.number, (c.in-Some.segment, c.in-Some.timeline)))
    (laid_more (f i) (flat_map f (drop (i + 1) (range_with_len 0 (count g)))) (flat_map f (drop i (range_with_len 0 (count g)))) c.loop-number.place run _ _ (turn g i (inside p i t (low a) (is a))) c.loop-number.invariant.0 c.loop-number.invariant.1 _ _ one)

pub returns : goal.returns
returns c =
    let p = c.args.plan.now in
    let g = graph_of p.graph in
    let l = c.loop-number in
    let road = YieldsList-at c.into_iter-number-iterator.ensures.into_iter_gives (YieldsList-from_enumerate (YieldsList-at c.enumerate-number-items.ensures.source (YieldsList-from_zip (YieldsList-at c.zip-segments.ensures.first (YieldsList-from_slice (vec_items p.graph.segments) cc)) (YieldsList-at c.zip-segments.ensures.second (YieldsList-from_slice (vec_items p.timelines) cc)))) c.enumerate-number-items.ensures.count) in
    let all = (YieldsList-end road l.yielded l.number-iterator l.yielded_by _ c.next.new.self c.in-None.is c.next.ensures.steps).1 in
    let many = length-enumerate_from 0 (zip (vec_items p.graph.segments) (vec_items p.timelines)) ∙ length-zip (vec_items p.graph.segments) (vec_items p.timelines) in
    let past : length (range_with_len 0 (count g)) ≤ length l.yielded = omega (arith, all, many, timelines_counted p, length-map (vec_items p.graph.segments) segment_of, length-range_with_len 0 (count g)) in
    sym (at_drop_all (λ xs. over l.place (flat_map (canonical_segment_lines g) xs) (map line_of l.out)) (range_with_len 0 (count g)) (length l.yielded) past) ∙ l.invariant.0
