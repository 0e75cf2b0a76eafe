-- The schedule stays steady where the first of the ready tasks starts.
use Rattle.std.proofs.Common.{◌≡◌, ℕ, ◌<◌, ◌≤◌, not, List, [], ◌∷◌, ◌++◌, length, filter, sym, refl, ap, subst, inl, inr, ⊎_elim, arith, length-append}
use Rattle.std.proofs.lemmas.List.Elements.{filter-append}
use Rattle.std.proofs.lemmas.List.{map-append}
use Rattle.std.proofs.lemmas.Bool.{ltb-true}
use Rattle.model.specs.Canonical.{Start, Progress, begun, running, taken, free_cores, end_of, ready_tasks, foremost}
use Rattle.model.specs.Graph.{Segment}
use Rattle.model.specs.Lists.{has, In}
use Rattle.model.specs.Places.{task}
use Rattle.model.specs.ScheduleLaws.{ends_after, under_way}
use Rattle.model.proofs.Along.{along_push}
use Rattle.model.proofs.First.{first_in, first_before}
use Rattle.model.proofs.Kept.{kept_fewer, in_map, map-in}
use Rattle.model.proofs.Members.{in_front, in_push, apart_push, not_has, in_or_not}
use Rattle.model.proofs.Steady.{Placed, Steady, out_true, in_running, free_in, ready_in, in_ready, room}

module _ (cores : ℕ) (s : Segment) (q : Progress) (steady : Steady cores s q)
    (c : ℕ) (cs : List ℕ) (are_free : c ∷ cs ≡ free_cores cores q) (t : ℕ) (ts : List ℕ) (are_ready : t ∷ ts ≡ ready_tasks s q) where
  abbrev new : Start
  new = record { task = foremost s t ts; at = q.moment; core = c }

  abbrev started : Progress
  started = record { moment = q.moment; starts = q.starts ++ (new ∷ []); ended = q.ended }

  free : In c (free_cores cores q)
  free = subst (λ (l : List ℕ). In c l) are_free (inl refl)

  may : (new.task < length s.tasks) × (In new.task (begun q.starts) → ⊥) × ((u : ℕ) → In u (task s new.task).predecessors → In u q.ended)
  may = ready_in s q new.task (subst (λ (l : List ℕ). In new.task l) are_ready (first_in s t ts))

  not_ended : In new.task q.ended → ⊥
  not_ended i = may.1 (steady.known new.task i)

  -- an ended task has a start, which is over
  ended_start : (u : ℕ) → In u q.ended → (y : Start) × In y q.starts × (y.task ≡ u) × (end_of s y ≤ q.moment)
  ended_start u i =
      let m = map-in (λ (x : Start). x.task) u q.starts (steady.known u i) in
      (m.0, m.1, m.2, steady.over m.0 m.1 (rw m.2 i))

  new_placed : Placed cores s q.starts new
  new_placed =
      record {
        rises = steady.past;
        awaited = λ u i. ended_start u (may.2 u i);
        few =
            omega (
              arith,
              room cores s q steady c free,
              kept_fewer (λ (x : Start). not (has q.ended x.task)) (ends_after s q.moment) q.starts
                  (λ y i e. out_true q.ended y.task (λ j. omega (arith, ltb-true q.moment (end_of s y) e, steady.over y i j))),
            );
        alone = λ y i e. ⊎_elim
            (λ j. steady.over y i j)
            (λ n. absurd ((free_in cores q c free).1 (rw e at (in_map (λ (x : Start). x.core) y (running q) (in_running q y i n)))))
            (in_or_not q.ended y.task);
        first = λ u below fresh other gone.
            let over : (v : ℕ) → In v (task s u).predecessors → In v q.ended =
            λ v i.
            let g = gone v i in
            ⊎_elim
            (λ j. rw g.2 at j)
            (λ n. absurd (⊎_elim (λ l. omega (arith, l, g.4)) (λ e. omega (arith, e, g.3)) (steady.going g.0 g.1 n)))
            (in_or_not q.ended g.0.task) in
            first_before s t ts u (subst (λ (l : List ℕ). In u l) (sym are_ready) (in_ready s q u below fresh over)) other;
      }

  pub started_runs : running started ≡ running q ++ (new ∷ [])
  started_runs = rw (filter-append (λ (x : Start). not (has q.ended x.task)) q.starts (new ∷ []), not_has q.ended new.task not_ended)

  pub steady_start : Steady cores s started
  steady_start =
      record {
        once = rw (map-append (λ (x : Start). x.task) q.starts (new ∷ [])) (apart_push (begun q.starts) new.task steady.once may.1);
        only = λ y i. ⊎_elim (λ j. steady.only y j) (λ e. rw e may.0) (in_push y q.starts new i);
        own = λ y i. ⊎_elim (λ j. steady.own y j) (λ e. rw e (free_in cores q c free).0) (in_push y q.starts new i);
        past = λ y i. ⊎_elim (λ j. steady.past y j) (λ e. rw e (omega arith)) (in_push y q.starts new i);
        known = λ u i. rw (map-append (λ (x : Start). x.task) q.starts (new ∷ [])) (in_front u (begun q.starts) (new.task ∷ []) (steady.known u i));
        over = λ y i j. ⊎_elim (λ k. steady.over y k j) (λ e. absurd (not_ended (rw e at j))) (in_push y q.starts new i);
        going = λ y i n. ⊎_elim (λ k. steady.going y k n) (λ e. inr (ap (λ (x : Start). x.at) e)) (in_push y q.starts new i);
        parted =
            rw (started_runs, map-append (λ (x : Start). x.core) (running q) (new ∷ []))
            (apart_push (taken (running q)) c steady.parted (free_in cores q c free).1);
        placed = along_push (Placed cores s) [] q.starts new steady.placed new_placed;
        busy = λ u m below early unstarted gone.
            let old : (v : ℕ) → In v (task s u).predecessors → (y : Start) × In y q.starts × (y.task ≡ v) × (end_of s y ≤ m) =
            λ v i.
            let g = gone v i in
            ⊎_elim
            (λ j. (g.0, j, g.2, g.3))
            (λ e. let late : end_of s new ≤ m = rw e at g.3 in absurd (omega (arith, late, early)))
            (in_push g.0 q.starts new g.1) in
            rw (filter-append (under_way s m) q.starts (new ∷ []))
            (omega (
              arith,
              steady.busy u m below early (λ y i. unstarted y (in_front y q.starts (new ∷ []) i)) old,
              length-append (filter (under_way s m) q.starts) (filter (under_way s m) (new ∷ [])),
            ));
      }
