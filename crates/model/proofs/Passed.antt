-- The schedule stays steady where time passes to the earliest end.
use Rattle.std.proofs.Common.{◌≡◌, ℕ, ◌<◌, ◌≤◌, true, not, eqb, ltb, leb, ◌⊎◌, List, [], ◌∷◌, ◌++◌, length, filter, sym, refl, subst, inl, ⊎_elim, arith}
use Rattle.std.proofs.lemmas.Bool.{cases_eq, cases_lt, eqb-true, eq-eqb, and_from, not_from_true, lt-ltb, le-leb}
use Rattle.model.specs.Canonical.{Start, Progress, begun, running, free_cores, end_of, ready_tasks, soonest}
use Rattle.model.specs.Graph.{Segment}
use Rattle.model.specs.Lists.{has, In}
use Rattle.model.specs.Places.{task}
use Rattle.model.specs.ScheduleLaws.{under_way}
use Rattle.model.proofs.First.{soonest_in, soonest_each}
use Rattle.model.proofs.Kept.{kept_in, in_kept, kept_fewer, kept_less, in_map, map-in, apart_same, apart_fewer}
use Rattle.model.proofs.Members.{in_front, in_back, in_either, in_has, in_or_not}
use Rattle.model.proofs.Steady.{TakenWhileReady, Steady, out_true, true_out, running_in, in_running, in_ready, packed, lasting}

module _ (cores : ℕ) (s : Segment) (q : Progress) (steady : Steady cores s q)
    (x : Start) (xs : List Start) (are : x ∷ xs ≡ running q) (wait : (free_cores cores q ≡ []) ⊎ (ready_tasks s q ≡ [])) where
  abbrev soon : ℕ
  soon = end_of s (soonest s x xs)

  abbrev ending : List ℕ
  ending = begun (filter (λ y. eqb (end_of s y) soon) (x ∷ xs))

  abbrev passed : Progress
  passed = record { moment = soon; starts = q.starts; ended = q.ended ++ ending }

  soon_each : (y : Start) → In y (running q) → soon ≤ end_of s y
  soon_each y i = soonest_each s x xs y (subst (λ (l : List Start). In y l) (sym are) i)

  soonest_runs : In (soonest s x xs) (running q)
  soonest_runs = subst (λ (l : List Start). In (soonest s x xs) l) are (soonest_in s x xs)

  later : q.moment ≤ soon
  later = lasting cores s q steady (soonest s x xs) soonest_runs

  -- the tasks that end now
  ending_in : (t : ℕ) → In t ending → (y : Start) × In y q.starts × (y.task ≡ t) × (end_of s y ≡ soon)
  ending_in t i =
      let m = map-in (λ (y : Start). y.task) t (filter (λ y. eqb (end_of s y) soon) (x ∷ xs)) i in
      let k = kept_in (λ (y : Start). eqb (end_of s y) soon) (x ∷ xs) m.0 m.1 in
      (m.0, (running_in q m.0 (subst (λ (l : List Start). In m.0 l) are k.0)).0, m.2, eqb-true (end_of s m.0) soon k.1)

  in_ending : (y : Start) → In y (running q) → end_of s y ≡ soon → In y.task ending
  in_ending y i e =
      in_map (λ (z : Start). z.task) y (filter (λ z. eqb (end_of s z) soon) (x ∷ xs))
      (in_kept (λ (z : Start). eqb (end_of s z) soon) (x ∷ xs) y (subst (λ (l : List Start). In y l) (sym are) i) (eq-eqb (end_of s y) soon e))

  -- what still runs has run, and one task less
  going_on : (y : Start) → In y q.starts → not (has (q.ended ++ ending) y.task) ≡ true → not (has q.ended y.task) ≡ true
  going_on y i e = out_true q.ended y.task (λ j. true_out (q.ended ++ ending) y.task e (in_front y.task q.ended ending j))

  pub passed_runs : length (running passed) < length (running q)
  passed_runs =
      let y = soonest s x xs in
      let r = running_in q y soonest_runs in
      let over = in_back y.task q.ended ending (in_ending y soonest_runs refl) in
      kept_less (λ (z : Start). not (has q.ended z.task)) (λ (z : Start). not (has (q.ended ++ ending) z.task)) q.starts going_on
      y r.0 (out_true q.ended y.task r.1) (not_from_true (has (q.ended ++ ending) y.task) (in_has (q.ended ++ ending) y.task over))

  -- until now all cores have been taken while a task was ready
  busy_now : (u m : ℕ) → u < length s.tasks → q.moment ≤ m → m < soon → TakenWhileReady cores s q.starts u m
  busy_now u m below since early unstarted gone =
      let fresh : In u (begun q.starts) → ⊥ =
      λ i. let n = map-in (λ (y : Start). y.task) u q.starts i in omega (arith, unstarted n.0 n.1 n.2, steady.past n.0 n.1, since) in
      let over : (t : ℕ) → In t (task s u).predecessors → In t q.ended =
      λ t i.
      let g = gone t i in
      ⊎_elim (λ j. rw g.2 at j) (λ n. absurd (omega (arith, g.3, soon_each g.0 (in_running q g.0 g.1 n), early))) (in_or_not q.ended g.0.task) in
      let full : cores ≤ length (running q) = ⊎_elim (λ none. packed cores s q steady none) (λ none. absurd (subst (λ (l : List ℕ). In u l) none (in_ready s q u below fresh over))) wait in
      let more =
      kept_fewer (under_way s m) (λ (y : Start). not (has q.ended y.task)) q.starts
      (λ y i e.
      and_from (leb y.at m) (ltb m (end_of s y))
      (le-leb y.at m (omega (arith, steady.past y i, since)))
      (lt-ltb m (end_of s y) (omega (arith, soon_each y (in_running q y i (true_out q.ended y.task e)), early)))) in
      omega (arith, full, more)

  pub steady_pass : Steady cores s passed
  steady_pass =
      record {
        once = steady.once;
        only = steady.only;
        own = steady.own;
        past = λ y i. omega (arith, steady.past y i, later);
        known = λ t i. ⊎_elim
            (λ j. steady.known t j)
            (λ j. let r = ending_in t j in rw r.2 at (in_map (λ (y : Start). y.task) r.0 q.starts r.1))
            (in_either t q.ended ending i);
        over = λ y i j. ⊎_elim
            (λ k. omega (arith, steady.over y i k, later))
            (λ k.
            let r = ending_in y.task k in
            let e = apart_same (λ (z : Start). z.task) q.starts steady.once y r.0 i r.1 (sym r.2) in
            rw e (omega (arith, r.3)))
            (in_either y.task q.ended ending j);
        going = λ y i n.
            let runs = in_running q y i (λ j. n (in_front y.task q.ended ending j)) in
            ⊎_elim
            (λ e. absurd (n (in_back y.task q.ended ending (in_ending y runs e))))
            (λ other. inl (omega (arith, soon_each y runs, other)))
            (cases_eq (end_of s y) soon);
        parted =
            apart_fewer (λ (y : Start). y.core) (λ (y : Start). not (has q.ended y.task)) (λ (y : Start). not (has (q.ended ++ ending) y.task))
            q.starts going_on steady.parted;
        placed = steady.placed;
        busy = λ u m below early. ⊎_elim
            (λ l. steady.busy u m below l)
            (λ l. busy_now u m below l early)
            (cases_lt m q.moment);
      }
