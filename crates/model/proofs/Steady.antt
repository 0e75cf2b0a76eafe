-- What holds of the canonical schedule after each event.
use Rattle.std.proofs.Common.{◌≡◌, ℕ, ◌<◌, ◌≤◌, true, not, ◌⊎◌, List, [], ◌∷◌, length, filter, subst, ⊎_elim, arith}
use Rattle.std.specs.List.{range_with_len}
use Rattle.std.proofs.lemmas.List.{length-map}
use Rattle.std.proofs.lemmas.Bool.{and_parts, and_from, not-true, not_from_false}
use Rattle.model.specs.Canonical.{Start, Progress, begun, running, taken, free_cores, end_of, ready, ready_tasks, before}
use Rattle.model.specs.Graph.{Segment}
use Rattle.model.specs.Lists.{has, all_in, In, Apart}
use Rattle.model.specs.Places.{task}
use Rattle.model.specs.ScheduleLaws.{ends_after, under_way}
use Rattle.model.proofs.Along.{Along}
use Rattle.model.proofs.Counted.{below_in, in_below, few_below, many_below}
use Rattle.model.proofs.Kept.{kept_in, in_kept, map-in}
use Rattle.model.proofs.Members.{has_not, not_has, in_or_not, all_in_each, each_all_in}

-- a test that a number stands nowhere in a list, and the fact
pub out_true : (xs : List ℕ) (x : ℕ) → (In x xs → ⊥) → not (has xs x) ≡ true
out_true xs x n = not_from_false (has xs x) (not_has xs x n)

pub true_out : (xs : List ℕ) (x : ℕ) → not (has xs x) ≡ true → In x xs → ⊥
true_out xs x e = has_not xs x (not-true (has xs x) e)

-- the running starts are those whose task has not ended
pub running_in : (q : Progress) (y : Start) → In y (running q) → In y q.starts × (In y.task q.ended → ⊥)
running_in q y i =
    let r = kept_in (λ (x : Start). not (has q.ended x.task)) q.starts y i in
    (r.0, true_out q.ended y.task r.1)

pub in_running : (q : Progress) (y : Start) → In y q.starts → (In y.task q.ended → ⊥) → In y (running q)
in_running q y i n = in_kept (λ (x : Start). not (has q.ended x.task)) q.starts y i (out_true q.ended y.task n)

-- the free cores are those that no running task takes
module _ (cores : ℕ) (q : Progress) (c : ℕ) where
  pub free_in : In c (free_cores cores q) → (c < cores) × (In c (taken (running q)) → ⊥)
  free_in i =
      let r = kept_in (λ (d : ℕ). not (has (taken (running q)) d)) (range_with_len 0 cores) c i in
      (below_in cores c r.0, true_out (taken (running q)) c r.1)

  pub in_free : c < cores → (In c (taken (running q)) → ⊥) → In c (free_cores cores q)
  in_free h n = in_kept (λ (d : ℕ). not (has (taken (running q)) d)) (range_with_len 0 cores) c (in_below cores c h) (out_true (taken (running q)) c n)

-- the ready tasks are those that have not begun and whose predecessors have ended
module _ (s : Segment) (q : Progress) (t : ℕ) where
  pub ready_in : In t (ready_tasks s q) → (t < length s.tasks) × (In t (begun q.starts) → ⊥) × ((u : ℕ) → In u (task s t).predecessors → In u q.ended)
  ready_in i =
      let r = kept_in (ready s q) (range_with_len 0 (length s.tasks)) t i in
      let p = and_parts (not (has (begun q.starts) t)) (all_in (task s t).predecessors q.ended) r.1 in
      (below_in (length s.tasks) t r.0, true_out (begun q.starts) t p.0, all_in_each (task s t).predecessors q.ended p.1)

  pub in_ready : t < length s.tasks → (In t (begun q.starts) → ⊥) → ((u : ℕ) → In u (task s t).predecessors → In u q.ended) → In t (ready_tasks s q)
  in_ready h n f =
      in_kept (ready s q) (range_with_len 0 (length s.tasks)) t (in_below (length s.tasks) t h)
      (and_from (not (has (begun q.starts) t)) (all_in (task s t).predecessors q.ended) (out_true (begun q.starts) t n) (each_all_in (task s t).predecessors q.ended f))

module _ (cores : ℕ) (s : Segment) where
  -- what holds of a start x that comes after the starts ys
  pub record Placed (ys : List Start) (x : Start) : Type 0 where
    pub rises : (y : Start) → In y ys → y.at ≤ x.at
    pub awaited : (t : ℕ) → In t (task s x.task).predecessors → (y : Start) × In y ys × (y.task ≡ t) × (end_of s y ≤ x.at)
    pub few : length (filter (ends_after s x.at) ys) < cores
    pub alone : (y : Start) → In y ys → y.core ≡ x.core → end_of s y ≤ x.at
    pub first : (u : ℕ) → u < length s.tasks → (In u (begun ys) → ⊥) → (u ≡ x.task → ⊥)
        → ((t : ℕ) → In t (task s u).predecessors → (y : Start) × In y ys × (y.task ≡ t) × (y.at < x.at) × (end_of s y ≤ x.at))
        → before s x.task u ≡ true

  -- at the moment m all cores are taken, if then the task u has not started and its predecessors have ended
  abbrev pub TakenWhileReady : List Start → ℕ → ℕ → Type 0
  TakenWhileReady ys u m =
      ((y : Start) → In y ys → y.task ≡ u → m < y.at)
      → ((t : ℕ) → In t (task s u).predecessors → (y : Start) × In y ys × (y.task ≡ t) × (end_of s y ≤ m))
      → cores ≤ length (filter (under_way s m) ys)

  pub record Steady (q : Progress) : Type 0 where
    -- each start is of a task of the segment, on a core, in the past; no task starts twice
    pub once : Apart (begun q.starts)
    pub only : (y : Start) → In y q.starts → y.task < length s.tasks
    pub own : (y : Start) → In y q.starts → y.core < cores
    pub past : (y : Start) → In y q.starts → y.at ≤ q.moment
    -- the tasks that have ended have begun, and their end has come; that of the others comes yet, or they have just begun
    pub known : (t : ℕ) → In t q.ended → In t (begun q.starts)
    pub over : (y : Start) → In y q.starts → In y.task q.ended → end_of s y ≤ q.moment
    pub going : (y : Start) → In y q.starts → (In y.task q.ended → ⊥) → (q.moment < end_of s y) ⊎ (y.at ≡ q.moment)
    -- no two running tasks are on one core
    pub parted : Apart (taken (running q))
    pub placed : Along Placed [] q.starts
    pub busy : (u m : ℕ) → u < length s.tasks → m < q.moment → TakenWhileReady q.starts u m

  module _ (q : Progress) (steady : Steady q) where
    pub begun_below : (t : ℕ) → In t (begun q.starts) → t < length s.tasks
    begun_below t i = let m = map-in (λ (y : Start). y.task) t q.starts i in rw m.2 at (steady.only m.0 m.1)

    -- no more tasks have begun than there are, and no more run than there are cores
    pub few_starts : length q.starts ≤ length s.tasks
    few_starts = omega (arith, length-map q.starts (λ (y : Start). y.task), few_below (begun q.starts) (length s.tasks) steady.once begun_below)

    taken_below : (c : ℕ) → In c (taken (running q)) → c < cores
    taken_below c i =
        let m = map-in (λ (y : Start). y.core) c (running q) i in
        rw m.2 at (steady.own m.0 (running_in q m.0 m.1).0)

    pub few_running : length (running q) ≤ cores
    few_running = omega (arith, length-map (running q) (λ (y : Start). y.core), few_below (taken (running q)) cores steady.parted taken_below)

    -- fewer run exactly where a core is free
    pub room : (c : ℕ) → In c (free_cores cores q) → length (running q) < cores
    room c i =
        let f = free_in cores q c i in
        omega (arith, length-map (running q) (λ (y : Start). y.core), few_below (c ∷ taken (running q)) cores (f.1, steady.parted) (λ d. ⊎_elim (λ e. rw e f.0) (taken_below d)))

    pub packed : free_cores cores q ≡ [] → cores ≤ length (running q)
    packed none =
        omega (
          arith,
          length-map (running q) (λ (y : Start). y.core),
          many_below (taken (running q)) cores (λ c h. ⊎_elim (λ j. j) (λ n. absurd (subst (λ (l : List ℕ). In c l) none (in_free cores q c h n))) (in_or_not (taken (running q)) c)),
        )

    -- a running task's end has not passed
    pub lasting : (y : Start) → In y (running q) → q.moment ≤ end_of s y
    lasting y i =
        let r = running_in q y i in
        ⊎_elim (λ l. omega (arith, l)) (λ e. omega (arith, e)) (steady.going y r.0 r.1)
