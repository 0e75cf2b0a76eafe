-- A running task ends.
use Rattle.std.proofs.Common.{◌≡◌, ℕ, ◌+◌, ◌<◌, ◌≤◌, Bool, true, false, not, ◌&&◌, ◌||◌, eqb, ltb, List, ◌∷◌, length, get_or, set, sym, refl, ap, ◌∙◌, inl, ⊎_elim, arith}
use Rattle.std.proofs.lemmas.List.{length-set, get_or-set_same, get_or-set_other, get_or_past}
use Rattle.std.proofs.lemmas.Bool.{cases_Bool, cases_eq, cases_lt, eq-eqb, ne_eqb, eqb-true, and_parts, or_cases, not-true, lt-ltb, le-ltb, both_ways}
use Rattle.model.specs.Canonical.{Progress, begun, ready}
use Rattle.model.specs.Graph.{Segment}
use Rattle.model.specs.Lists.{has}
use Rattle.model.specs.Places.{task}
use Rattle.queue.specs.declared.kinds.Ready.{Ready}
use Rattle.queue.specs.declared.kinds.Running.{Running}
use Rattle.schedule_laws.specs.Bounds.{Bounded}
use Rattle.schedule_laws.specs.Counting.{one, times, missing}
use Rattle.schedule_laws.specs.Released.{Released}
use Rattle.schedule_laws.specs.Standing.{Standing, over, followers}
use Rattle.schedule_laws.proofs.Members.{in_times, few_both}
use Rattle.schedule_laws.proofs.Ones.{one_true, one_most, one_and_false}
use Rattle.schedule_laws.proofs.Waiting.{all_in_missing, missing_over, missing_less, times_followers}

-- a task that has not begun is ready once it waits for none
released_one : (begun' : Bool) (m m' : ℕ) → m' ≤ m → (begun' ≡ true → m ≡ 0) → one (not begun' && eqb m 0) + one (ltb 0 m && eqb m' 0) ≡ one (not begun' && eqb m' 0)
released_one true m m' le none = let z : m ≡ 0 = none refl in rw z (omega arith)
released_one false m m' le none =
    ⊎_elim
    (λ (z : m ≡ 0). let z' : m' ≡ 0 = omega arith in rw (z, z') (omega arith))
    (λ (d : m ≡ 0 → ⊥). rw (ne_eqb m 0 d, lt-ltb 0 m (omega arith)) (omega arith))
    (cases_eq m 0)

module _ (cores : ℕ) (s : Segment) (b : Bounded cores s) (p : Progress) (R : List Ready) (U : List Running) (W : List ℕ) (T : List Bool) (e : Running) (h : Standing cores s p R (e ∷ U) W T) where
  pub own : (has (begun p.starts) e.task ≡ true) × (has p.ended e.task ≡ false)
  own =
      let x = has (begun p.starts) e.task in
      let y = has p.ended e.task in
      let some = in_times (λ (u : Running). u.task) e.task (e ∷ U) e (inl refl) refl in
      let r = and_parts x (not y) (one_true (x && not y) (omega (arith, some, h.running_once e.task))) in
      (r.0, not-true y r.1)

  pub own_core : get_or T e.core false ≡ true
  own_core = one_true (get_or T e.core false) (omega (arith, in_times (λ (u : Running). u.core) e.core (e ∷ U) e (inl refl) refl, h.core_once e.core))

  pub core_known : e.core < 8
  core_known =
      ⊎_elim (λ l. omega (arith, h.cores_known))
      (λ (l : length T ≤ e.core). absurd (both_ways (get_or T e.core false) (get_or_past T e.core false l) own_core))
      (cases_lt e.core (length T))

  waits : (t : ℕ) → t < length s.tasks → get_or W t 0 ≡ missing (e.task ∷ p.ended) (task s t).predecessors + one (has (task s t).predecessors e.task)
  waits t l = h.counts t l ∙ missing_over (task s t).predecessors p.ended e.task (b.apart t l) own.1

  follows : (t : ℕ) → t < length s.tasks → times (λ u. u) t (followers s e.task) ≡ one (has (task s t).predecessors e.task)
  follows t l = times_followers s e.task t ∙ ap (λ v. one (v && has (task s t).predecessors e.task)) (lt-ltb t (length s.tasks) l)

  follows_none : (t : ℕ) → length s.tasks ≤ t → times (λ u. u) t (followers s e.task) ≡ 0
  follows_none t l = times_followers s e.task t ∙ ap (λ v. one (v && has (task s t).predecessors e.task)) (le-ltb t (length s.tasks) l)

  pub waits_fit : (t : ℕ) → times (λ u. u) t (followers s e.task) ≤ get_or W t 0
  waits_fit t = ⊎_elim (λ l. omega (arith, waits t l, follows t l)) (λ l. omega (arith, follows_none t l)) (cases_lt t (length s.tasks))

  -- a follower is not ready yet, so there is room for it
  pub followers_room : length R + length (followers s e.task) ≤ length s.tasks
  followers_room =
      few_both (λ (u : Ready). u.task) (length s.tasks) R (followers s e.task) (λ t.
      let begun' = has (begun p.starts) t in
      let ps = (task s t).predecessors in
      ⊎_elim
      (λ l.
      let is = h.ready_once t ∙ ap (λ v. one (v && ready s p t)) (lt-ltb t (length s.tasks) l) ∙ ap (λ v. one (not begun' && v)) (all_in_missing ps p.ended) in
      let top = ap one (lt-ltb t (length s.tasks) l) in
      ⊎_elim
      (λ (y : has ps e.task ≡ true).
      let some = ap one y in
      let none = ap (λ v. one (not begun' && v)) (ne_eqb (missing p.ended ps) 0 (λ z. omega (arith, waits t l, h.counts t l, some))) in
      omega (arith, is, none, one_and_false (not begun'), follows t l, some, top))
      (λ n. omega (arith, is, one_most (not begun' && eqb (missing p.ended ps) 0), follows t l, ap one n, top))
      (cases_Bool (has ps e.task)))
      (λ l. omega (arith, h.ready_once t, ap (λ v. one (v && ready s p t)) (le-ltb t (length s.tasks) l), follows_none t l))
      (cases_lt t (length s.tasks)))

  module _ (W' : List ℕ) (R' : List Ready) (rel : Released s (followers s e.task) W W' R R') where
    counts' : (t : ℕ) → t < length s.tasks → get_or W' t 0 ≡ missing (e.task ∷ p.ended) (task s t).predecessors
    counts' t l = omega (arith, rel.counts t, waits t l, follows t l)

    ready' : (t : ℕ) → times (λ (u : Ready). u.task) t R' ≡ one (ltb t (length s.tasks) && ready s (over p e.task) t)
    ready' t =
        let begun' = has (begun p.starts) t in
        let ps = (task s t).predecessors in
        let m = missing p.ended ps in
        let m' = missing (e.task ∷ p.ended) ps in
        ⊎_elim
        (λ l.
        let top = lt-ltb t (length s.tasks) l in
        let before = h.ready_once t ∙ ap (λ v. one (v && ready s p t)) top ∙ ap (λ v. one (not begun' && v)) (all_in_missing ps p.ended) in
        let after = ap (λ v. one (v && ready s (over p e.task) t)) top ∙ ap (λ v. one (not begun' && v)) (all_in_missing ps (e.task ∷ p.ended)) in
        let now = ap (λ v. one (ltb 0 v && eqb (get_or W' t 0) 0)) (h.counts t l) ∙ ap (λ v. one (ltb 0 m && eqb v 0)) (counts' t l) in
        omega (arith, rel.ready_once t, before, after, now, released_one begun' m m' (missing_less ps p.ended e.task) (h.awaited t)))
        (λ l.
        let top = le-ltb t (length s.tasks) l in
        let past = get_or_past W t 0 (omega (arith, h.counted)) in
        omega (arith, rel.ready_once t, h.ready_once t, ap (λ v. one (v && ready s p t)) top, ap (λ v. one (v && ready s (over p e.task) t)) top, ap (λ v. one (ltb 0 v && eqb (get_or W' t 0) 0)) past))
        (cases_lt t (length s.tasks))

    running' : (t : ℕ) → times (λ (u : Running). u.task) t U ≡ one (has (begun p.starts) t && not (has (e.task ∷ p.ended) t))
    running' t =
        ⊎_elim
        (λ (q : e.task ≡ t).
        let gone = ap (λ v. one (v && not (has (e.task ∷ p.ended) t))) (ap (has (begun p.starts)) (sym q) ∙ own.0) ∙ ap (λ v. one (not (v || has p.ended t))) (eq-eqb t e.task (sym q)) in
        omega (arith, h.running_once t, ap one (eq-eqb e.task t q), one_most (has (begun p.starts) t && not (has p.ended t)), gone))
        (λ (d : e.task ≡ t → ⊥).
        let same = ap (λ v. one (has (begun p.starts) t && not (v || has p.ended t))) (ne_eqb t e.task (λ q. d (sym q))) in
        omega (arith, h.running_once t, ap one (ne_eqb e.task t d), same))
        (cases_eq e.task t)

    core' : (c : ℕ) → times (λ (u : Running). u.core) c U ≡ one (get_or (set T e.core false) c false)
    core' c =
        ⊎_elim
        (λ (q : e.core ≡ c).
        let gone = ap (λ v. one (get_or (set T e.core false) v false)) (sym q) ∙ ap one (get_or-set_same T e.core false false (omega (arith, core_known, h.cores_known))) in
        omega (arith, h.core_once c, ap one (eq-eqb e.core c q), one_most (get_or T c false), gone))
        (λ (d : e.core ≡ c → ⊥). omega (arith, h.core_once c, ap one (ne_eqb e.core c d), ap one (get_or-set_other T e.core c false false (λ q. d (sym q)))))
        (cases_eq e.core c)

    core_low' : (c : ℕ) → get_or (set T e.core false) c false ≡ true → c < cores
    core_low' c t =
        ⊎_elim
        (λ (q : e.core ≡ c). absurd (both_ways (get_or (set T e.core false) c false) (ap (λ v. get_or (set T e.core false) v false) (sym q) ∙ get_or-set_same T e.core false false (omega (arith, core_known, h.cores_known))) t))
        (λ (d : e.core ≡ c → ⊥). h.core_low c (sym (get_or-set_other T e.core c false false (λ q. d (sym q))) ∙ t))
        (cases_eq e.core c)

    pub ends : Standing cores s (over p e.task) R' U W' (set T e.core false)
    ends = record {
      counted = rel.counted ∙ h.counted;
      counts = counts';
      ready_once = ready';
      worsts = rel.worsts h.worsts;
      running_once = running';
      started = h.started.1;
      cores_known = length-set T e.core false ∙ h.cores_known;
      core_once = core';
      core_low = core_low';
      begun_once = h.begun_once;
      begun_low = h.begun_low;
      awaited = λ t i. omega (arith, missing_less (task s t).predecessors p.ended e.task, h.awaited t i);
      ended_begun = λ t i. ⊎_elim (λ q. ap (has (begun p.starts)) (eqb-true t e.task q) ∙ own.0) (λ q. h.ended_begun t q) (or_cases (eqb t e.task) (has p.ended t) i);
      near = h.near;
      ends_near = h.ends_near;
    }
