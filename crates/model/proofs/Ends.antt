-- The canonical schedule ends, and by then every task has begun.
use Rattle.std.proofs.Common.{◌≡◌, ℕ, zero, suc, ◌+◌, ◌-◌, ◌*◌, ◌<◌, ◌≤◌, not, ◌⊎◌, List, [], ◌∷◌, length, sym, refl, ap, ◌∙◌, subst, inl, inr, ⊎_elim, arith, length-append}
use Rattle.std.specs.List.{range_with_len}
use Rattle.std.proofs.lemmas.List.{length-map, nil_from_length}
use Rattle.std.proofs.lemmas.Bool.{and_left, not_from_true, cases_lt}
use Rattle.model.specs.Canonical.{Start, Progress, begun, running, free_cores, ready, ready_tasks, foremost, pass, event, next, after}
use Rattle.model.specs.Graph.{Segment}
use Rattle.model.specs.Lists.{has, all_in, In}
use Rattle.model.specs.Places.{task}
use Rattle.model.specs.ScheduleLaws.{Lower}
use Rattle.model.proofs.Counted.{below_in, all_below}
use Rattle.model.proofs.Events.{next_passes, steady_after}
use Rattle.model.proofs.Kept.{kept_none, map-in}
use Rattle.model.proofs.Members.{in_has, in_or_not}
use Rattle.model.proofs.Passed.{passed_runs}
use Rattle.model.proofs.Started.{started_runs}
use Rattle.model.proofs.Steady.{Steady, in_running, in_ready, begun_below, few_starts, packed}

module _ (cores : ℕ) (s : Segment) where
  -- nothing runs and nothing is ready
  abbrev pub Still : Progress → Type 0
  Still q = (running q ≡ []) × (ready_tasks s q ≡ [])

  -- then nothing happens
  pub still_next : (q : Progress) → Still q → next cores s q ≡ q
  still_next q still = next_passes cores s q (inr still.1) ∙ ap (λ (r : List Start). pass s q r) still.0

  pub still_after : (n k : ℕ) → Still (after cores s n) → after cores s (k + n) ≡ after cores s n
  still_after n zero still = ap (λ m. after cores s m) (let e : 0 + n ≡ n = omega arith in e)
  still_after n (suc k) still =
      let e : suc k + n ≡ suc (k + n) = omega arith in
      ap (λ m. after cores s m) e ∙ ap (λ (q : Progress). next cores s q) (still_after n k still) ∙ still_next (after cores s n) still

  -- two events for each task are all of them
  all_come : (q : Progress) → Steady cores s q → 2 * length s.tasks + length (running q) ≤ 2 * length q.starts → Still q
  all_come q steady h =
      let long : length s.tasks ≤ length (begun q.starts) = omega (arith, h, length-map q.starts (λ (y : Start). y.task)) in (
        nil_from_length (running q) (omega (arith, h, few_starts cores s q steady)),
        kept_none (ready s q) (range_with_len 0 (length s.tasks))
            (λ t i.
            let b = all_below (begun q.starts) (length s.tasks) steady.once (begun_below cores s q steady) long t (below_in (length s.tasks) t i) in
            and_left (not (has (begun q.starts) t)) (all_in (task s t).predecessors q.ended) (not_from_true (has (begun q.starts) t) (in_has (begun q.starts) t b))),
      )

  -- where nothing runs and nothing is ready, every task has begun
  module _ (lower : Lower s) (q : Progress) (still : Still q) where
    begun_ended : (t : ℕ) → In t (begun q.starts) → In t q.ended
    begun_ended t i =
        ⊎_elim (λ j. j)
        (λ n.
        let m = map-in (λ (y : Start). y.task) t q.starts i in
        absurd (subst (λ (l : List Start). In m.0 l) still.0 (in_running q m.0 m.1 (rw m.2 n))))
        (in_or_not q.ended t)

    begun_under : (m t : ℕ) → t < m → t < length s.tasks → In t (begun q.starts)
    begun_under zero t h l = absurd (omega arith)
    begun_under (suc m) t h l =
        ⊎_elim (λ i. i)
        (λ n.
        absurd (subst (λ (ts : List ℕ). In t ts) still.1
        (in_ready s q t l n (λ u i. let b = lower t u l i in begun_ended u (begun_under m u (omega (arith, b)) (omega (arith, b)))))))
        (in_or_not (begun q.starts) t)

    pub all_begun : (t : ℕ) → t < length s.tasks → In t (begun q.starts)
    all_begun t l = begun_under (suc t) t (omega arith) l

  module _ (some_core : 1 ≤ cores) where
    -- n events are n starts and ends, unless nothing was left to happen
    abbrev ComeTo : ℕ → Progress → Type 0
    ComeTo n q = (n + length (running q) ≤ 2 * length q.starts) ⊎ Still q

    module _ (q : Progress) (steady : Steady cores s q) (n : ℕ) (come : ComeTo n q) where
      pass_come : (r : List Start) → r ≡ running q → (free_cores cores q ≡ []) ⊎ (ready_tasks s q ≡ []) → ComeTo (suc n) (pass s q r)
      pass_come [] are wait =
          inr (sym are, ⊎_elim (λ none. absurd (omega (arith, packed cores s q steady none, ap length are))) (λ none. none) wait)
      pass_come (x ∷ xs) are wait =
          ⊎_elim
          (λ c. inl (omega (arith, c, passed_runs cores s q steady x xs are wait)))
          (λ still. absurd (omega (arith, ap length are, ap length still.0)))
          come

      event_come : (cs ts : List ℕ) → cs ≡ free_cores cores q → ts ≡ ready_tasks s q → ComeTo (suc n) (event s q cs ts)
      event_come [] ts are_free are_ready = pass_come (running q) refl (inl (sym are_free))
      event_come (c ∷ cs) [] are_free are_ready = pass_come (running q) refl (inr (sym are_ready))
      event_come (c ∷ cs) (t ∷ ts) are_free are_ready =
          let x : Start = record { task = foremost s t ts; at = q.moment; core = c } in
          ⊎_elim
          (λ h. inl (omega (arith, h, ap length (started_runs cores s q steady c cs are_free t ts are_ready), length-append (running q) (x ∷ []), length-append q.starts (x ∷ []))))
          (λ still. absurd (omega (arith, ap length are_ready, ap length still.1)))
          come

    come_after : (n : ℕ) → ComeTo n (after cores s n)
    come_after zero = inl (omega arith)
    come_after (suc n) =
        let q = after cores s n in
        event_come q (steady_after cores s n) n (come_after n) (free_cores cores q) (ready_tasks s q) refl refl

    pub still_at_last : Still (after cores s (2 * length s.tasks))
    still_at_last =
        let n = 2 * length s.tasks in
        ⊎_elim (λ c. all_come (after cores s n) (steady_after cores s n) c) (λ still. still) (come_after n)

    -- so a schedule at which nothing is left to happen is where the canonical schedule ends
    pub still_is_last : (n : ℕ) → Still (after cores s n) → after cores s n ≡ after cores s (2 * length s.tasks)
    still_is_last n still =
        let last = 2 * length s.tasks in
        ⊎_elim
        (λ (l : n < last). let e : (last - n) + n ≡ last = omega arith in sym (ap (λ m. after cores s m) (sym e) ∙ still_after n (last - n) still))
        (λ (l : last ≤ n). let e : (n - last) + last ≡ n = omega arith in ap (λ m. after cores s m) (sym e) ∙ still_after last (n - last) still_at_last)
        (cases_lt n last)
