-- A ready task starts on a free core.
use Rattle.std.proofs.Common.{◌≡◌, ℕ, ◌+◌, ◌*◌, ◌<◌, ◌≤◌, Bool, true, false, not, ◌&&◌, ltb, List, [], ◌∷◌, ◌++◌, length, get_or, set, sym, refl, ap, ◌∙◌, subst, inl, ⊎_elim, arith}
use Rattle.std.proofs.ByRecursion.{All-weaker}
use Rattle.std.proofs.lemmas.List.{length-set, length_push, get_or-set_same, get_or-set_other, map_push}
use Rattle.std.proofs.lemmas.Bool.{cases_Bool, cases_eq, eq-eqb, ne_eqb, eqb-true, and_parts, not-true, ltb-true, both_ways}
use Rattle.model.specs.Canonical.{Start, Progress, begun, end_of, ready}
use Rattle.model.specs.Graph.{Segment}
use Rattle.model.specs.Lists.{In, Apart, has, all_in}
use Rattle.model.specs.Places.{task}
use Rattle.model.proofs.Members.{in_front, in_back, in_push, in_has, has_in, has_not, apart_push}
use Rattle.queue.specs.declared.kinds.Ready.{Ready}
use Rattle.queue.specs.declared.kinds.Running.{Running}
use Rattle.schedule_laws.specs.Bounds.{Bounded}
use Rattle.schedule_laws.specs.Counting.{one, times, missing}
use Rattle.schedule_laws.specs.Standing.{Standing, EntryOf, begin}
use Rattle.schedule_laws.proofs.Members.{in_times, same_test}
use Rattle.schedule_laws.proofs.Ones.{one_true, one_most, one_and_false}
use Rattle.schedule_laws.proofs.Rooms.{running_few, starts_few}
use Rattle.schedule_laws.proofs.Waiting.{all_in_missing}

has_push_other : (xs : List ℕ) (x y : ℕ) → (x ≡ y → ⊥) → has (xs ++ (x ∷ [])) y ≡ has xs y
has_push_other xs x y d =
    same_test (has (xs ++ (x ∷ [])) y) (has xs y)
    (λ t. ⊎_elim (λ i. in_has xs y i) (λ q. absurd (d (sym q))) (in_push y xs x (has_in (xs ++ (x ∷ [])) y t)))
    (λ t. in_has (xs ++ (x ∷ [])) y (in_front y xs (x ∷ []) (has_in xs y t)))

has_push_same : (xs : List ℕ) (x : ℕ) → has (xs ++ (x ∷ [])) x ≡ true
has_push_same xs x = in_has (xs ++ (x ∷ [])) x (in_back x xs (x ∷ []) (inl refl))

module _ (cores : ℕ) (s : Segment) (b : Bounded cores s) (p : Progress) (R : List Ready) (U : List Running) (W : List ℕ) (T : List Bool) (e : Ready) (c : ℕ) (low : c < cores) (free : get_or T c false ≡ false) (h : Standing cores s p (e ∷ R) U W T) where
  abbrev x : Start
  x = record { task = e.task; at = p.moment; core = c }

  abbrev u : Running
  u = record { end = p.moment + e.worst; core = c; task = e.task }

  own : (e.task < length s.tasks) × (has (begun p.starts) e.task ≡ false) × (missing p.ended (task s e.task).predecessors ≡ 0)
  own =
      let l = ltb e.task (length s.tasks) in
      let begun' = has (begun p.starts) e.task in
      let ps = (task s e.task).predecessors in
      let some = in_times (λ (v : Ready). v.task) e.task (e ∷ R) e (inl refl) refl in
      let r = and_parts l (ready s p e.task) (one_true (l && ready s p e.task) (omega (arith, some, h.ready_once e.task))) in
      let q = and_parts (not begun') (all_in ps p.ended) r.1 in
      (ltb-true e.task (length s.tasks) r.0, not-true begun' q.0, eqb-true (missing p.ended ps) 0 (sym (all_in_missing ps p.ended) ∙ q.1))

  not_ended : has p.ended e.task ≡ false
  not_ended = ⊎_elim (λ t. absurd (both_ways (has (begun p.starts) e.task) own.1 (h.ended_begun e.task t))) (λ f. f) (cases_Bool (has p.ended e.task))

  begun_is : begun (p.starts ++ (x ∷ [])) ≡ begun p.starts ++ (e.task ∷ [])
  begun_is = map_push (λ (y : Start). y.task) p.starts x

  begun_other : (t : ℕ) → (e.task ≡ t → ⊥) → has (begun (p.starts ++ (x ∷ []))) t ≡ has (begun p.starts) t
  begun_other t d = ap (λ l. has l t) begun_is ∙ has_push_other (begun p.starts) e.task t d

  begun_same : (t : ℕ) → e.task ≡ t → has (begun (p.starts ++ (x ∷ []))) t ≡ true
  begun_same t q = ap (λ l. has l t) begun_is ∙ ap (has (begun p.starts ++ (e.task ∷ []))) (sym q) ∙ has_push_same (begun p.starts) e.task

  begun_cases : {P : ℕ → Type 0} → P e.task → ((t : ℕ) → has (begun p.starts) t ≡ true → P t) → (t : ℕ) → has (begun (p.starts ++ (x ∷ []))) t ≡ true → P t
  begun_cases {P} new old t i = ⊎_elim (λ (q : e.task ≡ t). subst P q new) (λ (d : e.task ≡ t → ⊥). old t (sym (begun_other t d) ∙ i)) (cases_eq e.task t)

  ready' : (t : ℕ) → times (λ (v : Ready). v.task) t R ≡ one (ltb t (length s.tasks) && ready s (begin p e.task c) t)
  ready' t =
      let l = ltb t (length s.tasks) in
      let all = all_in (task s t).predecessors p.ended in
      ⊎_elim
      (λ (q : e.task ≡ t).
      let gone = ap (λ v. one (l && (not v && all))) (begun_same t q) ∙ one_and_false l in
      omega (arith, h.ready_once t, ap one (eq-eqb e.task t q), one_most (l && ready s p t), gone))
      (λ (d : e.task ≡ t → ⊥). omega (arith, h.ready_once t, ap one (ne_eqb e.task t d), ap (λ v. one (l && (not v && all))) (begun_other t d)))
      (cases_eq e.task t)

  running' : (t : ℕ) → times (λ (v : Running). v.task) t (u ∷ U) ≡ one (has (begun (p.starts ++ (x ∷ []))) t && not (has p.ended t))
  running' t =
      ⊎_elim
      (λ (q : e.task ≡ t).
      let new = ap (λ v. one (v && not (has p.ended t))) (begun_same t q) ∙ ap (λ v. one (not v)) (ap (has p.ended) (sym q) ∙ not_ended) in
      let none = ap (λ v. one (v && not (has p.ended t))) (ap (has (begun p.starts)) (sym q) ∙ own.1) in
      omega (arith, h.running_once t, ap one (eq-eqb e.task t q), new, none))
      (λ (d : e.task ≡ t → ⊥). omega (arith, h.running_once t, ap one (ne_eqb e.task t d), ap (λ v. one (v && not (has p.ended t))) (begun_other t d)))
      (cases_eq e.task t)

  inside : c < length T
  inside = omega (arith, h.cores_known, b.few_cores, low)

  core' : (k : ℕ) → times (λ (v : Running). v.core) k (u ∷ U) ≡ one (get_or (set T c true) k false)
  core' k =
      ⊎_elim
      (λ (q : c ≡ k).
      let new = ap (λ v. one (get_or (set T c true) v false)) (sym q) ∙ ap one (get_or-set_same T c true false inside) in
      let none = ap (λ v. one (get_or T v false)) (sym q) ∙ ap one free in
      omega (arith, h.core_once k, ap one (eq-eqb c k q), new, none))
      (λ (d : c ≡ k → ⊥). omega (arith, h.core_once k, ap one (ne_eqb c k d), ap one (get_or-set_other T c k true false (λ q. d (sym q)))))
      (cases_eq c k)

  core_low' : (k : ℕ) → get_or (set T c true) k false ≡ true → k < cores
  core_low' k t = ⊎_elim (λ (q : c ≡ k). omega arith) (λ (d : c ≡ k → ⊥). h.core_low k (sym (get_or-set_other T c k true false (λ q. d (sym q))) ∙ t)) (cases_eq c k)

  long : length (p.starts ++ (x ∷ [])) ≡ length p.starts + 1
  long = length_push p.starts x

  new_end : end_of s x ≡ p.moment + e.worst
  new_end = ap (λ v. p.moment + v) (sym h.worsts.0)

  ends_near' : (y : Start) → In y (p.starts ++ (x ∷ [])) → end_of s y ≤ 1000000 * length (p.starts ++ (x ∷ []))
  ends_near' y i =
      ⊎_elim
      (λ j. omega (arith, long, h.ends_near y j))
      (λ (q : y ≡ x). subst (λ z. end_of s z ≤ 1000000 * length (p.starts ++ (x ∷ []))) (sym q) (omega (arith, long, h.near, b.short e.task own.0)))
      (in_push y p.starts x i)

  pub starts : Standing cores s (begin p e.task c) R (u ∷ U) W (set T c true)
  starts = record {
    counted = h.counted;
    counts = h.counts;
    ready_once = ready';
    worsts = h.worsts.1;
    running_once = running';
    started = (
      (x, in_back x p.starts (x ∷ []) (inl refl), refl, refl, new_end),
      All-weaker (EntryOf s p.starts) (EntryOf s (p.starts ++ (x ∷ []))) (λ v r. (r.0, in_front r.0 p.starts (x ∷ []) r.1, r.2, r.3, r.4)) U h.started,
    );
    cores_known = length-set T c true ∙ h.cores_known;
    core_once = core';
    core_low = core_low';
    begun_once = subst (λ l. Apart l) (sym begun_is) (apart_push (begun p.starts) e.task h.begun_once (has_not (begun p.starts) e.task own.1));
    begun_low = begun_cases {P = λ t. t < length s.tasks} own.0 h.begun_low;
    awaited = begun_cases {P = λ t. missing p.ended (task s t).predecessors ≡ 0} own.2 h.awaited;
    ended_begun = λ t i. ap (λ l. has l t) begun_is ∙ in_has (begun p.starts ++ (e.task ∷ [])) t (in_front t (begun p.starts) (e.task ∷ []) (has_in (begun p.starts) t (h.ended_begun t i)));
    near = omega (arith, long, h.near);
    ends_near = ends_near';
  }

  -- there is a cell for it
  pub running_room : length U < cores
  running_room = omega (arith, running_few cores s (begin p e.task c) R (u ∷ U) W (set T c true) starts)

  -- its end fits a number
  pub end_fits : p.moment + e.worst ≤ 257000000
  end_fits = omega (arith, h.near, starts_few cores s p (e ∷ R) U W T h, b.few_tasks, b.short e.task own.0, h.worsts.0)
