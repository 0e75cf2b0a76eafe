-- The laws over canonical schedules.
use Rattle.std.proofs.Common.{◌≡◌, ℕ, ◌*◌, ◌<◌, ◌≤◌, List, [], ◌∷◌, length, take, sym, refl, ◌∙◌, inl, inr, ⊎_elim, arith}
use Rattle.std.proofs.lemmas.List.{get_or-map, length-map}
use Rattle.std.proofs.lemmas.Bool.{cases_eq, cases_lt}
use Rattle.model.specs.Canonical.{Start, no_start, end_of, last_end, after, canonical, order, nth}
use Rattle.model.specs.Graph.{Graph, Segment}
use Rattle.model.specs.Lists.{In}
use Rattle.model.specs.Places.{task, segment, count, Formed}
use Rattle.model.specs.ScheduleLaws.{Lower, Whole, EveryTaskStartsOnce, StartsNeverFall, PredecessorsEndFirst, FewerThanCoresEndLater, NoCoreIdlesWhileATaskIsReady, TheFirstReadyTaskStarts, ACoreRunsOneTaskAtATime, TheLengthIsTheLastEnd, SchedulesEnd}
use Rattle.model.proofs.Along.{along_place}
use Rattle.model.proofs.Ends.{still_next, still_at_last, all_begun}
use Rattle.model.proofs.Events.{steady_after}
use Rattle.model.proofs.First.{before_is}
use Rattle.model.proofs.Kept.{map-in, apart_same}
use Rattle.model.proofs.Members.{place, at_place, place_before, before_place, apart_places}
use Rattle.model.proofs.Steady.{Placed, Steady, begun_below}

-- the segments of a well-formed graph
pub formed_lower : (g : Graph) → Formed g → (s : ℕ) → s < count g → Lower (segment g s)
formed_lower g f s h t u l i =
    let r = place u 0 (task (segment g s) t).predecessors i in
    rw r.2 at (f.lower s t r.0 h l r.1)

module _ (cores : ℕ) (s : Segment) where
  pub canonical_steady : Steady cores s (after cores s (2 * length s.tasks))
  canonical_steady = steady_after cores s (2 * length s.tasks)

  pub nth_in : (k : ℕ) → k < length (canonical cores s) → In (nth cores s k) (canonical cores s)
  nth_in k h = at_place no_start (canonical cores s) k h

  pub nth_placed : (k : ℕ) → k < length (canonical cores s) → Placed cores s (take k (canonical cores s)) (nth cores s k)
  nth_placed k h = along_place (Placed cores s) no_start [] (canonical cores s) k canonical_steady.placed h

  -- no task has two places
  pub nth_apart : (j k : ℕ) → j < k → k < length (canonical cores s) → (nth cores s j).task ≡ (nth cores s k).task → ⊥
  nth_apart j k h l e =
      let name = λ (x : Start). x.task in
      apart_places 0 j k (order cores s) canonical_steady.once h (omega (arith, length-map (canonical cores s) name))
      (get_or-map name (canonical cores s) j no_start 0 (omega arith) ∙ e ∙ sym (get_or-map name (canonical cores s) k no_start 0 l))

pub every_task_starts_once : EveryTaskStartsOnce
every_task_starts_once cores s some_core lower =
    let q = after cores s (2 * length s.tasks) in
    record {
      each = all_begun cores s lower q (still_at_last cores s some_core);
      only = begun_below cores s q (canonical_steady cores s);
      once = (canonical_steady cores s).once;
    }

pub every_order_whole : (g : Graph) → Formed g → (s : ℕ) → s < count g → Whole g.cores (segment g s)
every_order_whole g f s h = every_task_starts_once g.cores (segment g s) f.some_core (formed_lower g f s h)

pub starts_never_fall : StartsNeverFall
starts_never_fall cores s j k h l =
    ⊎_elim
    (λ (e : j ≡ k). rw e (omega arith))
    (λ other. (nth_placed cores s k l).rises (nth cores s j) (before_place no_start j k (canonical cores s) (omega arith) l))
    (cases_eq j k)

pub predecessors_end_first : PredecessorsEndFirst
predecessors_end_first cores s k t h i =
    let a = (nth_placed cores s k h).awaited t i in
    let p = place_before a.0 no_start k (canonical cores s) a.1 in
    (p.0, p.1, rw p.3 a.2, rw p.3 a.3)

pub fewer_than_cores_end_later : FewerThanCoresEndLater
fewer_than_cores_end_later cores s k h = (nth_placed cores s k h).few

pub no_core_idles_while_a_task_is_ready : NoCoreIdlesWhileATaskIsReady
no_core_idles_while_a_task_is_ready cores s k m h early ended =
    let all = canonical cores s in
    let steady = canonical_steady cores s in
    let x = nth cores s k in
    let i = nth_in cores s k h in
    steady.busy x.task m (steady.only x i) (omega (arith, early, steady.past x i))
    (λ y j e. rw (apart_same (λ (z : Start). z.task) all steady.once y x j i e) early)
    (λ t j.
    let p = predecessors_end_first cores s k t h j in
    let inside : p.0 < length all = omega (arith, p.1, h) in
    (nth cores s p.0, nth_in cores s p.0 inside, p.2, ended p.0 inside (rw p.2 j)))

pub the_first_ready_task_starts : TheFirstReadyTaskStarts
the_first_ready_task_starts cores s j k h l ended =
    let all = canonical cores s in
    let steady = canonical_steady cores s in
    let u = (nth cores s k).task in
    let earlier : j < length all = omega arith in
    before_is s (nth cores s j).task u
    ((nth_placed cores s j earlier).first u (steady.only (nth cores s k) (nth_in cores s k l))
    (λ i.
    let m = map-in (λ (y : Start). y.task) u (take j all) i in
    let p = place_before m.0 no_start j all m.1 in
    nth_apart cores s p.0 k (omega (arith, p.1, h)) l (rw p.3 m.2))
    (λ e. nth_apart cores s j k h l (sym e))
    (λ t i.
    let p = predecessors_end_first cores s k t l i in
    let e = ended p.0 (omega (arith, p.1, l)) (rw p.2 i) in
    ⊎_elim
    (λ (b : p.0 < j). (nth cores s p.0, before_place no_start p.0 j all b earlier, p.2, e.0, e.1))
    (λ (b : j ≤ p.0). absurd (omega (arith, e.0, starts_never_fall cores s j p.0 b (omega (arith, p.1, l)))))
    (cases_lt p.0 j)))

pub a_core_runs_one_task_at_a_time : ACoreRunsOneTaskAtATime
a_core_runs_one_task_at_a_time cores s k h = (
  (canonical_steady cores s).own (nth cores s k) (nth_in cores s k h),
  λ j l e. (nth_placed cores s k h).alone (nth cores s j) (before_place no_start j k (canonical cores s) l h) e,
)

module _ (s : Segment) where
  pub last_end_each : (xs : List Start) (y : Start) → In y xs → end_of s y ≤ last_end s xs
  last_end_each [] y i = absurd i
  last_end_each (x ∷ xs) y (inl e) = rw e (omega arith)
  last_end_each (x ∷ xs) y (inr i) = omega (arith, last_end_each xs y i)

  pub last_end_is : (x : Start) (xs : List Start) → (y : Start) × In y (x ∷ xs) × (end_of s y ≡ last_end s (x ∷ xs))
  last_end_is x [] = (x, inl refl, omega arith)
  last_end_is x (z ∷ zs) =
      let r = last_end_is z zs in
      ⊎_elim
      (λ l. (r.0, inr r.1, omega (arith, l, r.2)))
      (λ l. (x, inl refl, omega (arith, l, r.2)))
      (cases_lt (end_of s x) (end_of s r.0))

  last_end_some : (xs : List Start) (y : Start) → In y xs → (z : Start) × In z xs × (end_of s z ≡ last_end s xs)
  last_end_some [] y i = absurd i
  last_end_some (x ∷ xs) y i = last_end_is x xs

pub the_length_is_the_last_end : TheLengthIsTheLastEnd
the_length_is_the_last_end cores s some_core lower = (
  λ k h. last_end_each s (canonical cores s) (nth cores s k) (nth_in cores s k h),
  λ some_task.
      let m = map-in (λ (y : Start). y.task) 0 (canonical cores s) ((every_task_starts_once cores s some_core lower).each 0 (omega arith)) in
      let z = last_end_some s (canonical cores s) m.0 m.1 in
      let p = place z.0 no_start (canonical cores s) z.1 in
      (p.0, p.1, rw p.2 z.2),
)

pub schedules_end : SchedulesEnd
schedules_end cores s some_core = still_next cores s (after cores s (2 * length s.tasks)) (still_at_last cores s some_core)
