-- The canonical schedules of a graph make a timetable of each segment, and those fit from segment to segment.
use Rattle.std.proofs.Common.{◌≡◌, ℕ, ◌+◌, ◌<◌, ◌≤◌, List, [], ◌∷◌, length, get_or, take, filter, sym, refl, ap, inl, inr, arith}
use Rattle.std.proofs.lemmas.List.{get_or-map, length-map, take-map}
use Rattle.std.proofs.lemmas.Bool.{eq-eqb, ne_eqb, lt-ltb}
use Rattle.model.specs.Accepting.{Accepted}
use Rattle.model.specs.Canonical.{Start, no_start, begun, lasts, end_of, canonical, order, nth, length_of}
use Rattle.model.specs.Graph.{Graph, Segment}
use Rattle.model.specs.Lists.{In, Apart}
use Rattle.model.specs.Places.{task, segment, count, exits_of, Formed}
use Rattle.model.specs.PlanLaws.{AcceptedPlansHaveTimetables}
use Rattle.model.specs.ScheduleLaws.{ends_after}
use Rattle.model.specs.Times.{start_of, shift, needed, order_of, latest_end}
use Rattle.model.proofs.Kept.{in_kept, in_map, map-in}
use Rattle.model.proofs.LengthLaws.{length-remains, every_exit_fits, no_segment_needs_more}
use Rattle.model.proofs.Members.{at_place, place_before, apart_places, no_longer}
use Rattle.model.proofs.ScheduleLaws.{canonical_steady, nth_in, nth_placed, last_end_each}
use Rattle.model.specs.Timetables.{Timetable, Fits}

-- where no task starts twice, a start is when its task starts
pub own_start : (xs : List Start) → Apart (begun xs) → (y : Start) → In y xs → start_of xs y.task ≡ y.at
own_start [] a y i = absurd i
own_start (x ∷ xs) a y (inl e) = rw (eq-eqb x.task y.task (ap (λ (z : Start). z.task) (sym e)), e)
own_start (x ∷ xs) a y (inr i) =
    rw (ne_eqb x.task y.task (λ e. a.0 (rw e (in_map (λ (z : Start). z.task) y xs i)))) (own_start xs a.1 y i)

module _ (cores : ℕ) (s : Segment) (shift : ℕ) where
  abbrev starts : List Start
  starts = canonical cores s

  abbrev tasks_in_order : List ℕ
  tasks_in_order = order cores s

  abbrev begins : ℕ → ℕ
  begins t = start_of starts t + shift

  abbrev ends : ℕ → ℕ
  ends t = begins t + lasts s t

  -- a task that the schedule starts, with its times
  started : (t : ℕ) (y : Start) → In y starts → y.task ≡ t → (begins t ≡ y.at + shift) × (ends t ≡ end_of s y + shift)
  started t y i e =
      let own = own_start starts (canonical_steady cores s).once y i in
      rw (← e) (omega (arith, own), omega (arith, own))

  in_order : (t : ℕ) → In t tasks_in_order → (y : Start) × In y starts × (y.task ≡ t)
  in_order t i = map-in (λ (y : Start). y.task) t starts i

  table_closes : (t : ℕ) → In t tasks_in_order → ends t ≤ shift + length_of cores s
  table_closes t i =
      let r = in_order t i in
      omega (arith, started t r.0 r.1 r.2, last_end_each s starts r.0 r.1)

  module _ (k : ℕ) (h : k < length tasks_in_order) where
    inside : k < length starts
    inside = omega (arith, h, length-map starts (λ (y : Start). y.task))

    is_nth : (nth cores s k).task ≡ get_or tasks_in_order k 0
    is_nth = sym (get_or-map (λ (y : Start). y.task) starts k no_start 0 inside)

    begins_nth : begins (get_or tasks_in_order k 0) ≡ (nth cores s k).at + shift
    begins_nth = (started (get_or tasks_in_order k 0) (nth cores s k) (nth_in cores s k inside) is_nth).0

    -- an earlier task has an earlier start
    earlier : (t : ℕ) → In t (take k tasks_in_order) → (y : Start) × In y (take k starts) × (y.task ≡ t) × (begins t ≡ y.at + shift) × (ends t ≡ end_of s y + shift)
    earlier t i =
        let r = map-in (λ (y : Start). y.task) t (take k starts) (rw take-map at i) in
        let p = place_before r.0 no_start k starts r.1 in
        let e = started t r.0 (rw p.3 at (at_place no_start starts p.0 p.2)) r.2 in
        (r.0, r.1, r.2, e.0, e.1)

    table_fresh : In (get_or tasks_in_order k 0) (take k tasks_in_order) → ⊥
    table_fresh i =
        let p = place_before (get_or tasks_in_order k 0) 0 k tasks_in_order i in
        apart_places 0 p.0 k tasks_in_order (canonical_steady cores s).once p.1 h p.3

    table_rises : (t : ℕ) → In t (take k tasks_in_order) → begins t ≤ begins (get_or tasks_in_order k 0)
    table_rises t i =
        let e = earlier t i in
        omega (arith, begins_nth, e.3, (nth_placed cores s k inside).rises e.0 e.1)

    table_awaited : (t : ℕ) → In t (task s (get_or tasks_in_order k 0)).predecessors → In t (take k tasks_in_order) × (ends t ≤ begins (get_or tasks_in_order k 0))
    table_awaited t i =
        let a = (nth_placed cores s k inside).awaited t (rw is_nth i) in
        let sits : In t (take k tasks_in_order) = rw (take-map, ← a.2) (in_map (λ (y : Start). y.task) a.0 (take k starts) a.1) in
        let p = place_before a.0 no_start k starts a.1 in
        let e = started t a.0 (rw p.3 at (at_place no_start starts p.0 p.2)) a.2 in
        (sits, omega (arith, begins_nth, e.1, a.3))

    table_few : (ts : List ℕ) → Apart ts → ((t : ℕ) → In t ts → In t (take k tasks_in_order) × (begins (get_or tasks_in_order k 0) < ends t)) → length ts < cores
    table_few ts apart late =
        let ending = filter (ends_after s (nth cores s k).at) (take k starts) in
        let all : (t : ℕ) → In t ts → In t (begun ending) =
        λ t i.
        let l = late t i in
        let e = earlier t l.0 in
        let m = lt-ltb (nth cores s k).at (end_of s e.0) (omega (arith, begins_nth, e.4, l.1)) in
        rw e.2 at (in_map (λ (y : Start). y.task) e.0 ending (in_kept (ends_after s (nth cores s k).at) (take k starts) e.0 e.1 m)) in
        omega (arith, no_longer ts (begun ending) apart all, length-map ending (λ (y : Start). y.task), (nth_placed cores s k inside).few)

  segment_table : Timetable cores (λ t. (task s t).predecessors) (lasts s) tasks_in_order begins ends shift (shift + length_of cores s)
  segment_table =
      record {
        fresh = λ k h. table_fresh k h;
        rises = λ k t h. table_rises k h t;
        awaited = λ k t h. table_awaited k h t;
        few = λ k h. table_few k h;
        lasts = λ t. refl;
        opens = λ t. omega arith;
        closes = table_closes;
        spans = omega arith;
      }

-- the times of every segment fit, those never taken too
every_segment_fits : (g : Graph) → Accepted g → (s : ℕ) → s < count g → Fits g s
every_segment_fits g a s h = (h, omega (arith, a.in_time, no_segment_needs_more g a.formed s h))

pub accepted_plans_have_timetables : AcceptedPlansHaveTimetables
accepted_plans_have_timetables g a =
    let f = a.formed in record {
      entry = shift g;
      close = λ s. shift g s + length_of g.cores (segment g s);
      table = λ s. segment_table g.cores (segment g s) (shift g s);
      first = every_segment_fits g a 0 f.some_segment;
      onward = λ s i fits j.
          let e = get_or (exits_of g s) i 0 in
          let inside = f.inside s i fits.0 j in
          (every_segment_fits g a e inside, omega (arith, every_exit_fits g f s e fits.0 (at_place 0 (exits_of g s) i j), (every_segment_fits g a e inside).1, fits.1));
      in_deadline = λ s fits. omega (arith, length-remains g s fits.0, fits.1);
    }

-- so no task of the graph ends after the deadline
pub every_end_in_deadline : (g : Graph) → Formed g → needed g ≤ g.deadline → (s t : ℕ) → s < count g → In t (order_of g s) → latest_end g s t ≤ g.deadline
every_end_in_deadline g f within s t h i =
    let accepted : Accepted g = record { formed = f; in_time = within } in
    let laid = accepted_plans_have_timetables g accepted in
    omega (arith, (laid.table s).closes t i, laid.in_deadline s (every_segment_fits g accepted s h))
