-- A run within one segment: what holds between calls, and that an entry, a start and an end report keep it.
use Rattle.std.proofs.Common.{◌≡◌, ℕ, ◌+◌, ◌<◌, ◌≤◌, not, eqb, ◌⊎◌, List, [], ◌∷◌, ◌++◌, length, get_or, take, sym, refl, ap, ◌∙◌, subst, inl, inr, ⊎_elim, arith}
use Rattle.std.proofs.lemmas.List.{length-map, length_push, take_more}
use Rattle.model.specs.Graph.{Graph}
use Rattle.model.specs.Histories.{Job, without, tasks_of, cores_of}
use Rattle.model.specs.Lists.{In, Apart}
use Rattle.model.specs.Places.{task_of}
use Rattle.model.specs.Times.{order_of, latest_start, latest_end}
use Rattle.model.specs.Timetables.{Timetabled}
use Rattle.model.proofs.Counted.{many_below}
use Rattle.model.proofs.Jobs.{some_by}
use Rattle.model.proofs.Kept.{kept_in, map-in, apart_kept}
use Rattle.model.proofs.Members.{in_front, in_back, at_place, place_before}

module _ (g : Graph) (tables : Timetabled g) (s : ℕ) where
  -- the task that comes after those that have begun
  abbrev next : List ℕ → ℕ
  next begun = get_or (order_of g s) (length begun) 0

  -- what the job of a busy core keeps to
  pub record KeepsTo (now : ℕ) (begun : List ℕ) (j : Job) : Type 0 where
    pub own_core : j.core < g.cores
    pub of_begun : In j.task begun
    pub by_end : j.promise ≤ latest_end g s j.task
    pub ahead : now ≤ j.promise

  -- what holds between calls
  pub record Within (now : ℕ) (jobs : List Job) (begun : List ℕ) : Type 0 where
    pub front : begun ≡ take (length begun) (order_of g s)
    pub keeps : (j : Job) → In j jobs → KeepsTo now begun j
    pub cores_apart : Apart (cores_of jobs)
    pub tasks_apart : Apart (tasks_of jobs)
    pub in_time : length begun < length (order_of g s) → now ≤ latest_start g s (next begun)
    pub in_close : now ≤ tables.close s

  -- the segment is entered
  pub within_entry : (now : ℕ) → now ≤ tables.entry s → Within now [] []
  within_entry now h =
      record {
        front = refl;
        keeps = λ j i. absurd i;
        cores_apart = tt;
        tasks_apart = tt;
        in_time = λ l. omega (arith, (tables.table s).opens (next []));
        in_close = omega (arith, (tables.table s).spans);
      }

  module _ (now : ℕ) (jobs : List Job) (begun : List ℕ) (within : Within now jobs begun) where
    -- the job of a task that runs
    abbrev job_with : (t : ℕ) → In t (tasks_of jobs) → (j : Job) × In j jobs × (j.task ≡ t)
    job_with t i = map-in (λ (j : Job). j.task) t jobs i

    in_begun : (t : ℕ) → In t (take (length begun) (order_of g s)) → In t begun
    in_begun t i = subst (λ (ts : List ℕ). In t ts) (sym within.front) i

    begun_in : (t : ℕ) → In t begun → In t (take (length begun) (order_of g s))
    begun_in t i = subst (λ (ts : List ℕ). In t ts) within.front i

    -- the next task starts on an idle core c with promise q
    module _ (l : length begun < length (order_of g s)) (c q : ℕ)
        (own_core : c < g.cores) (idle_core : In c (cores_of jobs) → ⊥) (by_end : q ≤ latest_end g s (next begun)) (ahead : now ≤ q) where
      abbrev begun_more : List ℕ
      begun_more = begun ++ (next begun ∷ [])

      one_more : length begun_more ≡ length begun + 1
      one_more = length_push begun (next begun)

      front_more : take (length begun + 1) (order_of g s) ≡ begun_more
      front_more = take_more (order_of g s) (length begun) 0 l ∙ ap {B = List ℕ} (λ ts. ts ++ (next begun ∷ [])) (sym within.front)

      last_begun : In (next begun) begun_more
      last_begun = in_back (next begun) begun (next begun ∷ []) (inl refl)

      pub within_start : Within now (record { core = c; task = next begun; promise = q } ∷ jobs) begun_more
      within_start =
          record {
            front = rw one_more (sym front_more);
            keeps = λ j. ⊎_elim
                (λ e. rw e (record { own_core = own_core; of_begun = last_begun; by_end = by_end; ahead = ahead }))
                (λ i.
                let k = within.keeps j i in
                record { own_core = k.own_core; of_begun = in_front j.task begun (next begun ∷ []) k.of_begun; by_end = k.by_end; ahead = k.ahead });
            cores_apart = (idle_core, within.cores_apart);
            tasks_apart = (
              λ i.
                  let r = job_with (next begun) i in
                  (tables.table s).fresh (length begun) l (begun_in (next begun) (rw r.2 at (within.keeps r.0 r.1).of_begun)),
              within.tasks_apart,
            );
            in_time = rw one_more (λ m. omega (arith, within.in_time l, (tables.table s).rises (length begun + 1) (next begun) m (rw front_more last_begun)));
            in_close = within.in_close;
          }

    -- why no start is due where a task is left: a predecessor of the next task is not over, or no core is idle
    abbrev pub Waits : Type 0
    Waits = ((t : ℕ) × In t (task_of g s (next begun)).predecessors × (In t begun → In t (tasks_of jobs))) ⊎ ((c : ℕ) → c < g.cores → In c (cores_of jobs))

    -- then some job is promised by the next task's latest start
    pub some_in_time : length begun < length (order_of g s) → Waits → (j : Job) × In j jobs × (j.promise ≤ latest_start g s (next begun))
    some_in_time l (inl w) =
        let a = (tables.table s).awaited (length begun) w.0 l w.1 in
        let r = job_with w.0 (w.2 (in_begun w.0 a.0)) in
        let b : latest_end g s r.0.task ≤ latest_start g s (next begun) = rw r.2 a.1 in
        (r.0, r.1, omega (arith, (within.keeps r.0 r.1).by_end, b))
    some_in_time l (inr full) =
        let b = latest_start g s (next begun) in
        ⊎_elim (λ r. r)
        (λ late.
        let fewer = (tables.table s).few (length begun) l (tasks_of jobs) within.tasks_apart
        (λ t i.
        let r = job_with t i in
        let k = within.keeps r.0 r.1 in
        let d : b < latest_end g s r.0.task = omega (arith, late r.0 r.1, k.by_end) in
        (begun_in t (rw r.2 at k.of_begun), rw r.2 at d)) in
        absurd (omega (arith, fewer, many_below (cores_of jobs) g.cores full, length-map jobs (λ (j : Job). j.core), length-map jobs (λ (j : Job). j.task))))
        (some_by b jobs)

    -- the tasks that have begun stand in the order
    begun_in_order : (t : ℕ) → In t begun → In t (order_of g s)
    begun_in_order t i =
        let p = place_before t 0 (length begun) (order_of g s) (begun_in t i) in
        rw p.3 at (at_place 0 (order_of g s) p.0 p.2)

    -- an end is reported at a time n that no promise precedes, where no start is due
    pub within_end : (c n : ℕ) (j : Job) → In j jobs → ((k : Job) → In k jobs → n ≤ k.promise) → (length begun < length (order_of g s) → Waits) → Within n (without c jobs) begun
    within_end c n j i first waits =
        let others = λ (k : Job). not (eqb k.core c) in
        record {
          front = within.front;
          keeps = λ k v.
              let u = (kept_in others jobs k v).0 in
              let o = within.keeps k u in
              record { own_core = o.own_core; of_begun = o.of_begun; by_end = o.by_end; ahead = first k u };
          cores_apart = apart_kept (λ (k : Job). k.core) others jobs within.cores_apart;
          tasks_apart = apart_kept (λ (k : Job). k.task) others jobs within.tasks_apart;
          in_time = λ l. let r = some_in_time l (waits l) in omega (arith, r.2, first r.0 r.1);
          in_close = let o = within.keeps j i in omega (arith, first j i, o.by_end, (tables.table s).closes j.task (begun_in_order j.task o.of_begun));
        }
