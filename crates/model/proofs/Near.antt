-- No time of a canonical schedule is later than its tasks would end in a row.
use Rattle.std.proofs.Common.{◌≡◌, ℕ, zero, suc, ◌*◌, ◌<◌, ◌≤◌, List, [], ◌∷◌, length, refl, subst, inl, inr, ⊎_elim, arith, length-append}
use Rattle.model.specs.Canonical.{Start, Progress, running, free_cores, lasts, end_of, ready_tasks, foremost, soonest, pass, event, last_end, after, canonical, length_of}
use Rattle.model.specs.Graph.{Segment}
use Rattle.model.specs.Limits.{most_worst}
use Rattle.model.specs.Lists.{In}
use Rattle.model.proofs.Events.{steady_after}
use Rattle.model.proofs.First.{soonest_in}
use Rattle.model.proofs.Members.{in_push, in_back}
use Rattle.model.proofs.Steady.{running_in, few_starts}

module _ (s : Segment) where
  -- the moment and every end are within as many tasks of the largest worst as have started
  pub record Near (q : Progress) : Type 0 where
    pub moment : q.moment ≤ length q.starts * most_worst
    pub ends : (y : Start) → In y q.starts → end_of s y ≤ length q.starts * most_worst

  module _ (q : Progress) (near : Near q) where
    pass_near : (r : List Start) → r ≡ running q → Near (pass s q r)
    pass_near [] are = near
    pass_near (x ∷ xs) are =
        let e = soonest s x xs in
        record { moment = near.ends e (running_in q e (subst (λ (l : List Start). In e l) are (soonest_in s x xs))).0; ends = near.ends }

    -- every task that an event starts has a worst within the limit
    event_near : (cs ts : List ℕ) → ((y : Start) → In y (event s q cs ts).starts → lasts s y.task ≤ most_worst) → Near (event s q cs ts)
    event_near [] ts short = pass_near (running q) refl
    event_near (c ∷ cs) [] short = pass_near (running q) refl
    event_near (c ∷ cs) (t ∷ ts) short =
        let x : Start = record { task = foremost s t ts; at = q.moment; core = c } in
        let more = length-append q.starts (x ∷ []) in
        let worst = short x (in_back x q.starts (x ∷ []) (inl refl)) in
        record {
          moment = omega (arith, more, near.moment);
          ends = λ y i. ⊎_elim (λ j. omega (arith, more, near.ends y j)) (λ e. rw e (omega (arith, more, near.moment, worst))) (in_push y q.starts x i);
        }

  last_end_within : (most : ℕ) (xs : List Start) → ((y : Start) → In y xs → end_of s y ≤ most) → last_end s xs ≤ most
  last_end_within most [] each = omega arith
  last_end_within most (x ∷ xs) each = omega (arith, each x (inl refl), last_end_within most xs (λ y i. each y (inr i)))

module _ (cores : ℕ) (s : Segment) (short : (t : ℕ) → t < length s.tasks → lasts s t ≤ most_worst) where
  pub near_after : (n : ℕ) → Near s (after cores s n)
  near_after zero = record { moment = omega arith; ends = λ y i. absurd i }
  near_after (suc n) =
      let q = after cores s n in
      event_near s q (near_after n) (free_cores cores q) (ready_tasks s q) (λ y i. short y.task ((steady_after cores s (suc n)).only y i))

  pub length-near : length_of cores s ≤ length s.tasks * most_worst
  length-near =
      let n = 2 * length s.tasks in
      omega (arith, last_end_within s (length (canonical cores s) * most_worst) (canonical cores s) (near_after n).ends, few_starts cores s (after cores s n) (steady_after cores s n))
