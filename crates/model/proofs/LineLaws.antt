-- Line records are the canonical ones, shifted; they are few, and none ends after the deadline.
use Rattle.std.proofs.Common.{◌≡◌, ℕ, suc, ◌+◌, ◌<◌, ◌≤◌, List, [], ◌∷◌, ◌++◌, map, length, get_or, sym, refl, ap, ◌∙◌, subst, inl, inr, ⊎_elim, arith, length-append}
use Rattle.std.proofs.lemmas.List.FromFn.{length-range_with_len}
use Rattle.std.proofs.lemmas.List.{get_or-map, length-map, map-append}
use Rattle.std.specs.List.{range_with_len, flat_map}
use Rattle.model.specs.Canonical.{Start, no_start, lasts, end_of, nth}
use Rattle.model.specs.CanonicalLines.{canonical_line, lines_from, canonical_segment_lines, canonical_lines, shifted}
use Rattle.model.specs.Graph.{Graph, Segment, tasks_in}
use Rattle.model.specs.Limits.{most_tasks}
use Rattle.model.specs.LineRecords.{Line, line, segment_lines, lines}
use Rattle.model.specs.Lists.{In}
use Rattle.model.specs.Places.{no_segment, segment, count, Formed}
use Rattle.model.specs.PlanLaws.{LatestEndsAreInTime, EveryTaskHasALine}
use Rattle.model.specs.Times.{needed, shift, order_of, schedule_of}
use Rattle.model.proofs.Counted.{few_below, below_in, apart_counting}
use Rattle.model.proofs.Kept.{in_map, map-in}
use Rattle.model.proofs.Timetables.{own_start}
use Rattle.model.proofs.LengthLaws.{length-remains, no_shift_is_cut_off}
use Rattle.model.proofs.Members.{in_either, no_longer}
use Rattle.model.proofs.ScheduleLaws.{canonical_steady, nth_in, last_end_each, every_order_whole}

joined_same : {X A : Type 0} (f h : A → List X) (xs : List A) → ((x : A) → f x ≡ h x) → flat_map f xs ≡ flat_map h xs
joined_same f h [] e = refl
joined_same f h (x ∷ xs) e = ap (λ l. l ++ flat_map f xs) (e x) ∙ ap (λ l. h x ++ l) (joined_same f h xs e)

map-joined : {X Y A : Type 0} (m : X → Y) (f : A → List X) (xs : List A) → map m (flat_map f xs) ≡ flat_map (λ x. map m (f x)) xs
map-joined m f [] = refl
map-joined m f (x ∷ xs) = map-append m (f x) (flat_map f xs) ∙ ap (λ l. map m (f x) ++ l) (map-joined m f xs)

in_joined : {X A : Type 0} (f : A → List X) (xs : List A) (y : X) → In y (flat_map f xs) → (x : A) × In x xs × In y (f x)
in_joined f [] y i = absurd i
in_joined f (x ∷ xs) y i =
    ⊎_elim
    (λ j. (x, inl refl, j))
    (λ j. let r = in_joined f xs y j in (r.0, inr r.1, r.2))
    (in_either y (f x) (flat_map f xs) i)

module _ (s : Segment) (number : ℕ) where
  pub length-lines_from : (k : ℕ) (xs : List Start) → length (lines_from s number k xs) ≡ length xs
  length-lines_from k [] = refl
  length-lines_from k (x ∷ xs) = ap suc (length-lines_from (k + 1) xs)

  -- each is of one of the starts
  line_start : (k : ℕ) (xs : List Start) (l : Line) → In l (lines_from s number k xs) → (x : Start) × (j : ℕ) × In x xs × (l ≡ canonical_line s number j x)
  line_start k [] l i = absurd i
  line_start k (x ∷ xs) l (inl e) = (x, k, inl refl, e)
  line_start k (x ∷ xs) l (inr i) = let r = line_start (k + 1) xs l i in (r.0, r.1, inr r.2, r.3)

-- where each segment has a line for each task, so have all
length-joined : {X : Type 0} (f : ℕ → List X) (ss : List Segment) (k : ℕ) → ((i j : ℕ) → i < length ss → k + i ≡ j → length (f j) ≡ length (get_or ss i no_segment).tasks)
    → length (flat_map f (range_with_len k (length ss))) ≡ tasks_in ss
length-joined f [] k each = refl
length-joined f (s ∷ ss) k each =
    let rest = length-joined f ss (k + 1) (λ i j h e. each (suc i) j (omega arith) (omega arith)) in
    omega (arith, rest, each 0 k (omega arith) (omega arith), length-append (f k) (flat_map f (range_with_len (k + 1) (length ss))))

module _ (g : Graph) where
  line_is : (s k : ℕ) → k < length (schedule_of g s) → line g s k ≡ shifted g (canonical_line (segment g s) s k (nth g.cores (segment g s) k))
  line_is s k h =
      let all = schedule_of g s in
      let x = nth g.cores (segment g s) k in
      let t = get_or-map (λ (y : Start). y.task) all k no_start 0 h in
      let a = own_start all (canonical_steady g.cores (segment g s)).once x (nth_in g.cores (segment g s) k h) in
      let e : x.at + shift g s + lasts (segment g s) x.task ≡ end_of (segment g s) x + shift g s = omega arith in
      rw (t, a, e)

  lines_run : (s k : ℕ) (xs : List Start) → ((i j : ℕ) → i < length xs → k + i ≡ j → line g s j ≡ shifted g (canonical_line (segment g s) s j (get_or xs i no_start)))
      → map (line g s) (range_with_len k (length xs)) ≡ map (shifted g) (lines_from (segment g s) s k xs)
  lines_run s k [] each = refl
  lines_run s k (x ∷ xs) each =
      ap (λ l. l ∷ map (line g s) (range_with_len (k + 1) (length xs))) (each 0 k (omega arith) (omega arith))
      ∙ ap (λ l. shifted g (canonical_line (segment g s) s k x) ∷ l) (lines_run s (k + 1) xs (λ i j h e. each (suc i) j (omega arith) (omega arith)))

  segment_lines_are : (s : ℕ) → segment_lines g s ≡ map (shifted g) (canonical_segment_lines g s)
  segment_lines_are s =
      let all = schedule_of g s in
      ap (λ n. map (line g s) (range_with_len 0 n)) (length-map all (λ (x : Start). x.task))
      ∙ lines_run s 0 all (λ i j h e.
      let same : i ≡ j = omega arith in
      subst (λ k. line g s k ≡ shifted g (canonical_line (segment g s) s k (get_or all i no_start))) same (line_is s i h))

  pub lines_are_shifted : lines g ≡ map (shifted g) (canonical_lines g)
  lines_are_shifted =
      joined_same (segment_lines g) (λ s. map (shifted g) (canonical_segment_lines g s)) (range_with_len 0 (count g)) segment_lines_are
      ∙ sym (map-joined (shifted g) (canonical_segment_lines g) (range_with_len 0 (count g)))

  pub length-lines : length (lines g) ≡ length (canonical_lines g)
  length-lines = ap length lines_are_shifted ∙ length-map (canonical_lines g) (shifted g)

  module _ (f : Formed g) where
    lines_of_one : (s : ℕ) → s < count g → length (canonical_segment_lines g s) ≡ length (segment g s).tasks
    lines_of_one s h =
        let n = length (segment g s).tasks in
        let whole = every_order_whole g f s h in
        let few = few_below (order_of g s) n whole.once whole.only in
        let all = no_longer (range_with_len 0 n) (order_of g s) (apart_counting 0 n) (λ t i. whole.each t (below_in n t i)) in
        omega (arith, few, all, length-range_with_len 0 n, length-lines_from (segment g s) s 0 (schedule_of g s), length-map (schedule_of g s) (λ (x : Start). x.task))

    all_lines : length (canonical_lines g) ≡ tasks_in g.segments
    all_lines = length-joined (canonical_segment_lines g) g.segments 0 (λ i j h e. let same : i ≡ j = omega arith in subst (λ k. length (canonical_segment_lines g k) ≡ length (segment g i).tasks) same (lines_of_one i h))

    pub few_lines : length (canonical_lines g) ≤ most_tasks
    few_lines = omega (arith, all_lines, f.few_tasks)

    module _ (within : needed g ≤ g.deadline) where
      -- a start is of a task, which ends in time even where the segment is shifted
      pub start_in_time : (s : ℕ) → s < count g → (x : Start) → In x (schedule_of g s) → (x.task < length (segment g s).tasks) × (end_of (segment g s) x + shift g s ≤ g.deadline)
      start_in_time s h x i = (
        (every_order_whole g f s h).only x.task (in_map (λ (y : Start). y.task) x (schedule_of g s) i),
        omega (arith, last_end_each (segment g s) (schedule_of g s) x i, length-remains g s h, no_shift_is_cut_off g f within s h),
      )

      pub line_in_time : (l : Line) → In l (canonical_lines g) → (l.start ≤ l.end) × (l.end + shift g l.segment ≤ g.deadline)
      line_in_time l i =
          let r = in_joined (canonical_segment_lines g) (range_with_len 0 (count g)) l i in
          let s = r.0 in
          let q = line_start (segment g s) s 0 (schedule_of g s) l r.2 in
          let time = (start_in_time s (below_in (count g) s r.1) q.0 q.2).1 in
          rw q.3 (omega arith, time)

pub latest_ends_are_in_time : LatestEndsAreInTime
latest_ends_are_in_time g a l i =
    let r = map-in (shifted g) l (canonical_lines g) (subst (λ ls. In l ls) (lines_are_shifted g) i) in
    omega (arith, ap (λ (x : Line). x.end) r.2, (line_in_time g a.formed a.in_time r.0 r.1).1)

pub every_task_has_a_line : EveryTaskHasALine
every_task_has_a_line g f = length-lines g ∙ all_lines g f
