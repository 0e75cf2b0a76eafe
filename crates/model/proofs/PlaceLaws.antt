-- A well-formed graph and its places.
use Rattle.std.proofs.Common.{◌≡◌, ℕ, zero, suc, pred, ◌+◌, ◌<◌, ◌≤◌, true, false, List, [], ◌∷◌, length, get_or, take, refl, ⊎_elim, arith}
use Rattle.std.proofs.lemmas.List.{length-take-le}
use Rattle.std.proofs.lemmas.Bool.{cases_eq, and_parts, and_from, both_ways, or_cases, or_left, or_right}
use Rattle.model.specs.Formed.{rises, task_formed, segment_formed, all_entered}
use Rattle.model.specs.Graph.{Graph, Segment, entered}
use Rattle.model.specs.Lists.{has, each}
use Rattle.model.specs.Places.{no_task, no_segment, segment, exits_of, tasks_of, task_of, Formed, WellFormedPlaceByPlace, PlaceByPlaceWellFormed}
use Rattle.model.proofs.Along.{each_along, along_each, along_place, along_from_places}
use Rattle.model.proofs.Fits.{SegmentFits, Numbered, segments_fit, segments_formed, formed_numbered, numbered_formed, within_parts, within_from, task_parts, task_from, segment_parts, segment_from}
use Rattle.model.proofs.Members.{place, at_place, has_in, in_has}
use Rattle.model.proofs.Rising.{Rising, each_rising, rising_each, rising_bounds, rising_rise, rising_from_places}

-- an exit has a segment and a place there
pub entered_place : (ss : List Segment) (e : ℕ) → entered ss e ≡ true
    → (s : ℕ) × (i : ℕ) × (s < length ss) × (i < length (get_or ss s no_segment).exits) × (get_or (get_or ss s no_segment).exits i 0 ≡ e)
entered_place [] e t = absurd (both_ways false refl t)
entered_place (x ∷ ss) e t =
    ⊎_elim (λ h. let r = place e 0 x.exits (has_in x.exits e h) in (0, r.0, omega arith, r.1, r.2))
    (λ h. let r = entered_place ss e h in (suc r.0, r.1, omega (arith, r.2), r.3, r.4))
    (or_cases (has x.exits e) (entered ss e) t)

pub entered_at : (ss : List Segment) (s i : ℕ) → s < length ss → i < length (get_or ss s no_segment).exits → entered ss (get_or (get_or ss s no_segment).exits i 0) ≡ true
entered_at [] s i h l = absurd (omega arith)
entered_at (x ∷ ss) zero i h l = or_left (has x.exits (get_or x.exits i 0)) (entered ss (get_or x.exits i 0)) (in_has x.exits (get_or x.exits i 0) (at_place 0 x.exits i l))
entered_at (x ∷ ss) (suc s) i h l =
    or_right (has x.exits (get_or (get_or ss s no_segment).exits i 0)) (entered ss (get_or (get_or ss s no_segment).exits i 0)) (entered_at ss s i (omega arith) l)

-- every segment of a range is an exit
all_entered_each : (ss : List Segment) (k n e : ℕ) → all_entered ss k n ≡ true → k ≤ e → e < k + n → entered ss e ≡ true
all_entered_each ss k zero e t l h = absurd (omega arith)
all_entered_each ss k (suc n) e t l h =
    let p = and_parts (entered ss k) (all_entered ss (k + 1) n) t in
    ⊎_elim (λ (q : k ≡ e). rw q at p.0) (λ q. all_entered_each ss (k + 1) n e p.1 (omega arith) (omega arith)) (cases_eq k e)

all_entered_from : (ss : List Segment) (k n : ℕ) → ((e : ℕ) → k ≤ e → e < k + n → entered ss e ≡ true) → all_entered ss k n ≡ true
all_entered_from ss k zero f = refl
all_entered_from ss k (suc n) f =
    and_from (entered ss k) (all_entered ss (k + 1) n) (f k (omega arith) (omega arith)) (all_entered_from ss (k + 1) n (λ e l h. f e (omega arith) (omega arith)))

-- what is asked of segment s, and of its task t
module _ (g : Graph) (n : Numbered g) where
  module _ (s : ℕ) (h : s < length g.segments) where
    before_s : length (take s g.segments) ≡ s
    before_s = length-take-le s g.segments (omega arith)

    segment_fits : SegmentFits (length g.segments) (take s g.segments) (segment g s)
    segment_fits = along_place (SegmentFits (length g.segments)) no_segment [] g.segments s n.3 h

    segment_is : (1 ≤ length (tasks_of g s)) × (each task_formed [] (tasks_of g s) ≡ true) × (length (exits_of g s) ≤ 31)
        × (each (rises (length (take s g.segments) + 1) (length g.segments)) [] (exits_of g s) ≡ true)
    segment_is = segment_parts (length g.segments) (take s g.segments) (segment g s) segment_fits.0

    exits_rising : Rising (length (take s g.segments) + 1) (length g.segments) (exits_of g s)
    exits_rising = each_rising (length (take s g.segments) + 1) (length g.segments) [] (exits_of g s) segment_is.3

    module _ (t : ℕ) (l : t < length (tasks_of g s)) where
      before_t : length (take t (tasks_of g s)) ≡ t
      before_t = length-take-le t (tasks_of g s) (omega arith)

      task_is : (length (task_of g s t).name ≤ 16) × ((task_of g s t).worst ≤ 1000000) × (each (rises 0 (length (take t (tasks_of g s)))) [] (task_of g s t).predecessors ≡ true)
      task_is =
          task_parts (take t (tasks_of g s)) (task_of g s t)
          (along_place (λ d x. task_formed d x ≡ true) no_task [] (tasks_of g s) t (each_along task_formed [] (tasks_of g s) segment_is.1) l)

      predecessors_rising : Rising 0 (length (take t (tasks_of g s))) (task_of g s t).predecessors
      predecessors_rising = each_rising 0 (length (take t (tasks_of g s))) [] (task_of g s t).predecessors task_is.2

pub well_formed_place_by_place : WellFormedPlaceByPlace
well_formed_place_by_place g e =
    let p = formed_numbered g e in
    let n = p.0 in
    let ss = g.segments in
    let cores = within_parts 1 8 g.cores n.0 in
    let deadline = within_parts 0 1000000000 g.deadline n.1 in
    let count = within_parts 1 32 (length ss) n.2 in
    let all = segments_formed (length ss) ss n.3 in
    record {
      some_core = cores.0;
      few_cores = cores.1;
      deadline_within = deadline.1;
      some_segment = count.0;
      few_segments = count.1;
      few_tasks = all.1;
      few_predecessors = all.2;
      some_task = λ s h. (segment_is g n s h).0;
      short_name = λ s t h l. (task_is g n s h t l).0;
      worst_within = λ s t h l. (task_is g n s h t l).1;
      predecessors_rise = λ s t i j h l. rising_rise (length (take t (tasks_of g s))) 0 (task_of g s t).predecessors i j (predecessors_rising g n s h t l);
      lower = λ s t i h l k. omega (arith, rising_bounds (length (take t (tasks_of g s))) 0 (task_of g s t).predecessors i (predecessors_rising g n s h t l) k, before_t g n s h t l);
      few_exits = λ s h. (segment_is g n s h).2;
      exits_rise = λ s i j h. rising_rise (length ss) (length (take s ss) + 1) (exits_of g s) i j (exits_rising g n s h);
      higher = λ s i h k. omega (arith, rising_bounds (length ss) (length (take s ss) + 1) (exits_of g s) i (exits_rising g n s h) k, before_s g n s h);
      inside = λ s i h k. (rising_bounds (length ss) (length (take s ss) + 1) (exits_of g s) i (exits_rising g n s h) k).1;
      exit_of = λ x l h. entered_place ss x (all_entered_each ss 1 (pred (length ss)) x p.1 l (omega arith));
    }

-- the tests of task t of segment s, and of segment s
module _ (g : Graph) (f : Formed g) where
  task_well : (s t : ℕ) → s < length g.segments → t < length (tasks_of g s) → task_formed (take t (tasks_of g s)) (task_of g s t) ≡ true
  task_well s t h l =
      let before = length-take-le t (tasks_of g s) (omega arith) in
      task_from (take t (tasks_of g s)) (task_of g s t) (f.short_name s t h l) (f.worst_within s t h l)
      (rising_each 0 (length (take t (tasks_of g s))) [] (task_of g s t).predecessors
      (rising_from_places (length (take t (tasks_of g s))) 0 (task_of g s t).predecessors (λ i k. (omega arith, omega (arith, f.lower s t i h l k))) (λ i j. f.predecessors_rise s t i j h l)))

  segment_well : (s : ℕ) → s < length g.segments → segment_formed (length g.segments) (take s g.segments) (segment g s) ≡ true
  segment_well s h =
      let before = length-take-le s g.segments (omega arith) in
      segment_from (length g.segments) (take s g.segments) (segment g s) (f.some_task s h)
      (along_each task_formed [] (tasks_of g s) (along_from_places (λ d x. task_formed d x ≡ true) no_task [] (tasks_of g s) (λ t l. task_well s t h l)))
      (f.few_exits s h)
      (rising_each (length (take s g.segments) + 1) (length g.segments) [] (exits_of g s)
      (rising_from_places (length g.segments) (length (take s g.segments) + 1) (exits_of g s) (λ i k. (omega (arith, f.higher s i h k), f.inside s i h k)) (λ i j. f.exits_rise s i j h)))

pub place_by_place_well_formed : PlaceByPlaceWellFormed
place_by_place_well_formed g f =
    let ss = g.segments in
    let formed = along_each (segment_formed (length ss)) [] ss (along_from_places (λ d x. segment_formed (length ss) d x ≡ true) no_segment [] ss (segment_well g f)) in
    numbered_formed g (
      within_from 1 8 g.cores f.some_core f.few_cores,
      within_from 0 1000000000 g.deadline (omega arith) f.deadline_within,
      within_from 1 32 (length ss) f.some_segment f.few_segments,
      segments_fit (length ss) ss formed f.few_tasks f.few_predecessors,
    )
    (all_entered_from ss 1 (pred (length ss)) (λ e l h. let r = f.exit_of e l (omega arith) in rw r.4 at (entered_at ss r.0 r.1 r.2 r.3)))
