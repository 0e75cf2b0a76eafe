-- The next event of the model, by what stands.
use Rattle.std.proofs.Common.{◌≡◌, ℕ, ◌<◌, Bool, true, false, not, ◌&&◌, ◌||◌, eqb, ltb, List, [], ◌∷◌, length, get_or, sym, refl, ap, ◌∙◌, inl, inr, arith}
use Rattle.std.proofs.lemmas.Bool.{and_parts, and_from, ltb-true, lt-ltb, not_from_true}
use Rattle.std.specs.List.{range_with_len, AllByRecursion}
use Rattle.model.specs.Canonical.{Progress, running, taken, lasts, ready, before, pass, ready_tasks, next}
use Rattle.model.specs.Graph.{Segment}
use Rattle.model.specs.Lists.{In, has}
use Rattle.model.proofs.Counted.{below_in, in_below}
use Rattle.model.proofs.Events.{lowest_free, next_starts, next_passes}
use Rattle.model.proofs.Kept.{kept_in, in_kept, kept_none}
use Rattle.model.proofs.Members.{has_in, has_not}
use Rattle.queue.specs.Orders.{ready_before}
use Rattle.queue.specs.declared.kinds.Ready.{Ready}
use Rattle.queue.specs.declared.kinds.Running.{Running}
use Rattle.schedule_laws.specs.Counting.{one}
use Rattle.schedule_laws.specs.Standing.{Standing, begin}
use Rattle.schedule_laws.proofs.Entries.{taken_is, entry_for}
use Rattle.schedule_laws.proofs.Members.{times_in, in_times, all_in_list, nothing_in}
use Rattle.schedule_laws.proofs.Ones.{one_true}

module _ (cores : ℕ) (s : Segment) (p : Progress) where
  -- no core is free
  pub next_full : (R : List Ready) (U : List Running) (W : List ℕ) (T : List Bool) → Standing cores s p R U W T → ((c : ℕ) → c < cores → get_or T c false ≡ true) → next cores s p ≡ pass s p (running p)
  next_full R U W T h full =
      next_passes cores s p (inl (kept_none (λ c. not (has (taken (running p)) c)) (range_with_len 0 cores) (λ c i. not_from_true (has (taken (running p)) c) (taken_is cores s p R U W T h c ∙ full c (below_in cores c i)))))

  -- no task is ready
  pub next_none : (U : List Running) (W : List ℕ) (T : List Bool) → Standing cores s p [] U W T → next cores s p ≡ pass s p (running p)
  next_none U W T h =
      next_passes cores s p (inr (nothing_in (ready_tasks s p) (λ t i.
      let n = length s.tasks in
      let r = kept_in (ready s p) (range_with_len 0 n) t i in
      omega (arith, h.ready_once t, ap one (and_from (ltb t n) (ready s p t) (lt-ltb t n (below_in n t r.0)) r.1)))))

  -- nothing runs
  pub pass_none : (R : List Ready) (W : List ℕ) (T : List Bool) → Standing cores s p R [] W T → pass s p (running p) ≡ p
  pass_none R W T h = ap (λ l. pass s p l) (nothing_in (running p) (λ x i. (entry_for cores s p R [] W T h x i).1))

  -- a task starts
  module _ (R : List Ready) (U : List Running) (W : List ℕ) (T : List Bool) (e : Ready) (h : Standing cores s p (e ∷ R) U W T) (first : AllByRecursion (λ x. ready_before x e ≡ false) (e ∷ R)) where
    own : In e.task (ready_tasks s p)
    own =
        let n = length s.tasks in
        let l = ltb e.task n in
        let r = and_parts l (ready s p e.task) (one_true (l && ready s p e.task) (omega (arith, h.ready_once e.task, in_times (λ (v : Ready). v.task) e.task (e ∷ R) e (inl refl) refl))) in
        in_kept (ready s p) (range_with_len 0 n) e.task (in_below n e.task (ltb-true e.task n r.0)) r.1

    none_before : (t : ℕ) → In t (ready_tasks s p) → before s t e.task ≡ false
    none_before t i =
        let n = length s.tasks in
        let r = kept_in (ready s p) (range_with_len 0 n) t i in
        let k = times_in (λ (v : Ready). v.task) t (e ∷ R) (omega (arith, h.ready_once t, ap one (and_from (ltb t n) (ready s p t) (lt-ltb t n (below_in n t r.0)) r.1))) in
        let x = k.0 in
        let f : ready_before x e ≡ false = all_in_list (λ y. ready_before y e ≡ false) (e ∷ R) x first k.1 in
        let wx : x.worst ≡ lasts s t = all_in_list (λ (y : Ready). y.worst ≡ lasts s y.task) (e ∷ R) x h.worsts k.1 ∙ ap (lasts s) k.2 in
        let order : ℕ → ℕ → ℕ → Bool = λ a b u. ltb b a || (eqb a b && ltb u e.task) in
        sym (ap (λ a. order a e.worst x.task) wx ∙ ap (λ b. order (lasts s t) b x.task) h.worsts.0 ∙ ap (λ u. order (lasts s t) (lasts s e.task) u) k.2) ∙ f

    pub next_start : (c : ℕ) → c < cores → get_or T c false ≡ false → ((k : ℕ) → k < c → get_or T k false ≡ true) → next cores s p ≡ begin p e.task c
    next_start c low free lower =
        let busy = taken (running p) in
        let is = taken_is cores s p (e ∷ R) U W T h in
        let f = lowest_free cores p c low (has_not busy c (is c ∙ free)) (λ k l. has_in busy k (is k ∙ lower k l)) in
        next_starts cores s p c f.0 e.task f.1 own none_before
