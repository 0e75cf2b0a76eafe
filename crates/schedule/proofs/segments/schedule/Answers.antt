use Rattle.std.proofs.Common.{◌≡◌, ℕ, ◌<◌, ◌≤◌, map, length, get_or, Ok, vec_items, sym, ap, ◌∙◌, subst, arith}
use Rattle.std.proofs.lemmas.List.{length-map, get_or-map}
use Rattle.std.proofs.lemmas.Bool.Decides.{nat_tests}
use Rattle.fault.specs.Room.{room}
use Rattle.graph.specs.Meaning.{segment_of}
use Rattle.graph.specs.Whole.{graph_of}
use Rattle.model.specs.Accepting.{tasks_of_largest}
use Rattle.model.proofs.PlanLaws.{largest_each}
use Rattle.model.proofs.PlaceLaws.{well_formed_place_by_place}
use Rattle.model.specs.Places.{no_segment, segment}
use Rattle.schedule_laws.proofs.Bounding.{bounded}
use Rattle.schedule_laws.specs.Bounds.{Bounded}
use Rattle.schedule.proofs.segments.schedule.Goals as goal

-- what was not refused has room
enough : (needed there : ℕ) → Ok tt ≡ room needed there → needed ≤ there
enough needed there e = grind (arith, nat_tests)

pub timeline-requires : goal.timeline-requires
timeline-requires c =
    let g = c.args.graph.now in
    let i = c.loop-segment.segment-index in
    let x = c.segment-item.result in
    let items = vec_items g.segments in
    let value = c.deref-segment-items.ensures.value in
    let low : i < length items = omega (arith, c.loop-segment-test.true, ap length value) in
    let inside : i < length (map segment_of items) = omega (arith, low, length-map items segment_of) in
    let read : segment (graph_of g) i ≡ segment_of x = get_or-map segment_of items i x no_segment low ∙ ap segment_of (sym (c.segment-item.is ∙ ap (λ l. get_or l i x) value)) in
    let most = ap (λ l. tasks_of_largest (map segment_of l)) c.deref.ensures.value in record {
      bounded = subst (λ s. Bounded g.cores s) read (bounded (graph_of g) (well_formed_place_by_place (graph_of g) g.formed) i inside);
      ready_room = omega (arith, largest_each (map segment_of items) i inside, ap (λ s. length s.tasks) read, most, c.tasks_of_largest-tasks.ensures, (enough _ _ c.in_ok-room_for.ensures), c.loop-segment.auto.ready);
      running_room = omega (arith, (enough _ _ c.in_ok-room_for-2.ensures), c.loop-segment.auto.running);
    }
