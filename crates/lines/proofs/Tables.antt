-- The lines of a plan, read off its timelines.
use Rattle.std.proofs.Common.{◌≡◌, ℕ, ◌+◌, ◌^◌, ◌<◌, ◌≤◌, ◌++◌, map, length, get_or, drop, sum, vec_items, vec_len, sym, ap, ◌∙◌, subst, zero-add, arith}
use mathlib.Core.List.{map-map}
use Rattle.std.proofs.lemmas.List.FromFn.{length-range_with_len, get_or-range_with_len, get_or-map-range_with_len, length-map-range_with_len}
use Rattle.std.proofs.lemmas.List.{get_or-map, length-map}
use Rattle.std.proofs.lemmas.List.Sums.{sum-map}
use Rattle.std.proofs.lemmas.List.Concat.{length-flat_map}
use Rattle.std.proofs.lemmas.Grind.{same_number_lists}
use Rattle.model.specs.LineRecords.{line, segment_lines, lines}
use Rattle.std.specs.List.{range_with_len, flat_map, sum_by}
use Rattle.graph.specs.Whole.{graph_of}
use Rattle.model.proofs.LineLaws.{length-lines, length-lines_from, few_lines, start_in_time}
use Rattle.model.proofs.PlaceLaws.{well_formed_place_by_place}
use Rattle.model.proofs.Runs.{joined-drop}
use Rattle.model.specs.Canonical as canon
use Rattle.model.specs.CanonicalLines.{lines_from, canonical_segment_lines, canonical_lines}
use Rattle.model.specs.Graph.{Graph}
use Rattle.model.specs.Lists.{In}
use Rattle.model.specs.Places.{no_segment, segment, count, Formed}
use Rattle.model.specs.Times.{order_of, schedule_of}
use Rattle.plan.specs.declared.place.Plan.{Plan}
use Rattle.schedule.specs.Meaning.{Plan as Laid, start_of, timeline_of, planned}
use Rattle.schedule.specs.declared.parts.Timeline.{Timeline}

-- the lines to come, from a segment on, are those of that segment and those after it
pub turn : (g : Graph) (i : ℕ) → i < count g
    → flat_map (canonical_segment_lines g) (drop i (range_with_len 0 (count g))) ≡ canonical_segment_lines g i ++ flat_map (canonical_segment_lines g) (drop (i + 1) (range_with_len 0 (count g)))
turn g i inside =
    let at : i ≡ get_or (range_with_len 0 (count g)) i i = sym (get_or-range_with_len 0 (count g) i i inside ∙ zero-add i) in
    joined-drop (canonical_segment_lines g) (range_with_len 0 (count g)) i i (omega (arith, length-range_with_len 0 (count g))) at

module _ (p : Plan) where
  pub plan_formed : Formed (graph_of p.graph)
  plan_formed = well_formed_place_by_place (graph_of p.graph) p.graph.formed

  pub timelines_counted : length (vec_items p.timelines) ≡ count (graph_of p.graph)
  timelines_counted = omega (arith, ap length p.laid, length-map (vec_items p.timelines) timeline_of, length-map (graph_of p.graph).segments (planned p.graph.cores))

  module _ (i : ℕ) (t : Timeline) (low : i < length (vec_items p.timelines)) (is : t ≡ get_or (vec_items p.timelines) i t) where
    pub inside : i < count (graph_of p.graph)
    inside = omega (arith, low, timelines_counted)

    -- the starts of the timeline are those of the canonical schedule
    starts_read : map start_of (vec_items t.starts) ≡ schedule_of (graph_of p.graph) i
    starts_read =
        let g = graph_of p.graph in
        ap (λ u. (timeline_of u).starts) is
        ∙ ap (λ x. x.starts) (sym (get_or-map timeline_of (vec_items p.timelines) i t (timeline_of t) low) ∙ ap (λ l. get_or l i (timeline_of t)) p.laid ∙ get_or-map (planned g.cores) g.segments i no_segment (timeline_of t) inside)

    pub lines_read : lines_from (segment (graph_of p.graph) i) i 0 (map start_of (vec_items t.starts)) ≡ canonical_segment_lines (graph_of p.graph) i
    lines_read = ap (lines_from (segment (graph_of p.graph) i) i 0) starts_read

    pub starts_counted : length (canonical_segment_lines (graph_of p.graph) i) ≡ length (vec_items t.starts)
    starts_counted = sym (ap length lines_read) ∙ length-lines_from (segment (graph_of p.graph) i) i 0 (map start_of (vec_items t.starts)) ∙ length-map (vec_items t.starts) start_of

    pub starts_known : (x : canon.Start) → In x (map start_of (vec_items t.starts))
        → (x.task < length (segment (graph_of p.graph) i).tasks) × (canon.end_of (segment (graph_of p.graph) i) x < 2 ^ 64)
    starts_known x sits =
        let g = graph_of p.graph in
        let time = start_in_time g plan_formed p.in_time i inside x (subst (In x) starts_read sits) in
        (time.0, omega (arith, time.1, plan_formed.deadline_within))

  -- and they can be counted
  pub lines_few : length (canonical_lines (graph_of p.graph)) ≤ 256
  lines_few = few_lines (graph_of p.graph) plan_formed

  -- the starts of all timelines are as many as the lines
  pub starts_are_lines : sum_by (λ (t : Timeline). vec_len t.starts) (vec_items p.timelines) ≡ length (lines (graph_of p.graph))
  starts_are_lines =
      let g = graph_of p.graph in
      let ts = vec_items p.timelines in
      let long : Laid → ℕ = λ q. length q.starts in
      let placed = λ (i : ℕ). length (segment_lines g i) in
      let ns = range_with_len 0 (count g) in
      let plans = map (planned g.cores) g.segments in
      let none = planned g.cores no_segment in
      let many = length-map plans long ∙ length-map g.segments (planned g.cores) in
      ap (λ f. sum_by f ts) (λ k t. (t.starts.ok.0 ∙ sym (length-map (vec_items t.starts) start_of)) k)
      ∙ sym (sum-map (λ t. long (timeline_of t)) ts)
      ∙ ap sum (sym (map-map long timeline_of ts))
      ∙ ap (λ l. sum (map long l)) p.laid
      ∙ ap sum
      (same_number_lists (map long plans) (map placed ns) (many ∙ sym (length-map-range_with_len placed 0 (count g)))
      (λ k low.
      let inside : k < count g = omega (arith, low, many) in
      get_or-map long plans k none 0 (omega (arith, inside, length-map g.segments (planned g.cores)))
      ∙ ap long (get_or-map (planned g.cores) g.segments k no_segment none inside)
      ∙ sym (length-map (schedule_of g k) (λ (x : canon.Start). x.task))
      ∙ sym (length-map-range_with_len (line g k) 0 (length (order_of g k)))
      ∙ sym (get_or-map-range_with_len placed 0 (count g) k k 0 inside (zero-add k))))
      ∙ sum-map placed ns
      ∙ sym (length-flat_map (segment_lines g) ns)

  pub few_starts : sum_by (λ (t : Timeline). vec_len t.starts) (vec_items p.timelines) < 2 ^ 64
  few_starts = omega (arith, starts_are_lines, length-lines (graph_of p.graph), lines_few)
