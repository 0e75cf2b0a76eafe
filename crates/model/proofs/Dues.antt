-- What the tests of a due call tell: the tasks that are left, those that are over, and the idle cores.
use Rattle.std.proofs.Common.{◌≡◌, ℕ, ◌<◌, ◌≤◌, true, false, not, ◌&&◌, ◌⊎◌, List, [], ◌∷◌, length, get_or, refl, ap, ◌∙◌, inl, inr, ⊎_elim, add-zero, arith}
use Rattle.std.specs.List.{range_with_len}
use Rattle.std.proofs.lemmas.List.{length-drop, get_or-drop}
use Rattle.std.proofs.lemmas.Bool.{and_parts, and_cases, both_ways, not-false}
use Rattle.model.specs.Due.{any, left, head, over, all_over, idle, start_due}
use Rattle.model.specs.Calls.{History}
use Rattle.model.specs.Graph.{Graph}
use Rattle.model.specs.Histories.{busy, tasks_of, cores_of, here, begun_here}
use Rattle.model.specs.Lists.{has, In}
use Rattle.model.specs.Places.{task_of}
use Rattle.model.specs.Times.{order_of}
use Rattle.model.proofs.Counted.{below_in, in_below}
use Rattle.model.proofs.Kept.{kept_in, in_kept}
use Rattle.model.proofs.Members.{has_in, has_not, in_or_not}
use Rattle.model.proofs.Steady.{out_true, true_out}

-- a list with something in it, and one without
module _ {A : Type 0} where
  pub any_some : (xs : List A) → any xs ≡ true → 0 < length xs
  any_some [] e = absurd (both_ways false refl e)
  any_some (x ∷ xs) e = omega arith

  pub any_member : (xs : List A) → any xs ≡ true → (x : A) × In x xs
  any_member [] e = absurd (both_ways false refl e)
  any_member (x ∷ xs) e = (x, inl refl)

  pub any_none : (xs : List A) → any xs ≡ false → xs ≡ []
  any_none [] e = refl
  any_none (x ∷ xs) e = absurd (both_ways true e refl)

  any_in : (xs : List A) (x : A) → In x xs → any xs ≡ true
  any_in [] x i = absurd i
  any_in (y ∷ ys) x i = refl

module _ (g : Graph) (h : History) where
  abbrev order_here : List ℕ
  order_here = order_of g (here h)

  -- a task is left where fewer have begun than the order has
  pub left_some : any (left g h) ≡ true → length (begun_here h) < length order_here
  left_some e = omega (arith, any_some (left g h) e, length-drop (length (begun_here h)) order_here)

  pub left_none : any (left g h) ≡ false → length order_here ≤ length (begun_here h)
  left_none e =
      let none : length (left g h) ≡ 0 = ap length (any_none (left g h) e) in
      omega (arith, none, length-drop (length (begun_here h)) order_here)

  pub head_is : head g h ≡ get_or order_here (length (begun_here h)) 0
  head_is = get_or-drop (length (begun_here h)) order_here 0 0 ∙ ap (λ n. get_or order_here n 0) (add-zero (length (begun_here h)))

  -- an idle core is one of the plan's and not busy, and where there is none all are busy
  pub idle_in : (c : ℕ) → In c (idle g h) → (c < g.cores) × (In c (cores_of (busy h)) → ⊥)
  idle_in c i =
      let r = kept_in (λ d. not (has (cores_of (busy h)) d)) (range_with_len 0 g.cores) c i in
      (below_in g.cores c r.0, true_out (cores_of (busy h)) c r.1)

  idle_none : any (idle g h) ≡ false → (c : ℕ) → c < g.cores → In c (cores_of (busy h))
  idle_none e c l =
      ⊎_elim (λ i. i)
      (λ out. absurd (both_ways (any (idle g h)) e (any_in (idle g h) c
      (in_kept (λ d. not (has (cores_of (busy h)) d)) (range_with_len 0 g.cores) c (in_below g.cores c l) (out_true (cores_of (busy h)) c out)))))
      (in_or_not (cores_of (busy h)) c)

  -- tasks that are over have begun and run no more, and of those that are not all over one is not
  pub all_over_each : (ts : List ℕ) → all_over g h ts ≡ true → (u : ℕ) → In u ts → In u (begun_here h) × (In u (tasks_of (busy h)) → ⊥)
  all_over_each [] e u i = absurd i
  all_over_each (t ∷ ts) e u i =
      let r = and_parts (over g h t) (all_over g h ts) e in
      let o = and_parts (has (begun_here h) t) (not (has (tasks_of (busy h)) t)) r.0 in
      ⊎_elim
      (λ (q : u ≡ t). rw q (has_in (begun_here h) t o.0, true_out (tasks_of (busy h)) t o.1))
      (λ j. all_over_each ts r.1 u j)
      i

  all_over_not : (ts : List ℕ) → all_over g h ts ≡ false → (t : ℕ) × In t ts × (In t (begun_here h) → In t (tasks_of (busy h)))
  all_over_not [] e = absurd (both_ways true e refl)
  all_over_not (t ∷ ts) e =
      ⊎_elim
      (λ o. (
        t,
        inl refl,
        λ i. ⊎_elim
            (λ b. absurd (has_not (begun_here h) t b i))
            (λ n. has_in (tasks_of (busy h)) t (not-false (has (tasks_of (busy h)) t) n))
            (and_cases (has (begun_here h) t) (not (has (tasks_of (busy h)) t)) o),
      ))
      (λ r. let s = all_over_not ts r in (s.0, inr s.1, s.2))
      (and_cases (over g h t) (all_over g h ts) e)

  -- what a due start has
  pub start_parts : start_due g h ≡ true → (any (left g h) ≡ true) × (all_over g h (task_of g (here h) (head g h)).predecessors ≡ true) × (any (idle g h) ≡ true)
  start_parts due =
      let ready = all_over g h (task_of g (here h) (head g h)).predecessors in
      let r = and_parts (any (left g h)) (ready && any (idle g h)) due in
      let q = and_parts ready (any (idle g h)) r.1 in
      (r.0, q.0, q.1)

  -- why none is due where a task is left: a predecessor of the head is not over, or no core is idle
  pub none_due_parts : start_due g h ≡ false → length (begun_here h) < length order_here
      → ((t : ℕ) × In t (task_of g (here h) (head g h)).predecessors × (In t (begun_here h) → In t (tasks_of (busy h)))) ⊎ ((c : ℕ) → c < g.cores → In c (cores_of (busy h)))
  none_due_parts none_due l =
      let before = (task_of g (here h) (head g h)).predecessors in
      ⊎_elim
      (λ e. absurd (omega (arith, l, left_none e)))
      (λ r. ⊎_elim (λ o. inl (all_over_not before o)) (λ i. inr (idle_none i)) (and_cases (all_over g h before) (any (idle g h)) r))
      (and_cases (any (left g h)) (all_over g h before && any (idle g h)) none_due)
