-- How many predecessors a task waits for.
use Rattle.std.proofs.Common.{◌≡◌, ℕ, ◌+◌, ◌≤◌, Bool, true, false, not, ◌&&◌, ◌||◌, eqb, ltb, List, [], ◌∷◌, length, sym, refl, ap, ◌∙◌, subst, ⊎_elim, arith}
use Rattle.std.proofs.lemmas.Bool.{cases_Bool, cases_eq, eq-eqb, ne_eqb, and_parts, and_from, ltb-true, lt-ltb}
use Rattle.std.specs.List.{range_with_len}
use Rattle.model.specs.Graph.{Segment}
use Rattle.model.specs.Lists.{In, Apart, has, all_in}
use Rattle.model.specs.Places.{task}
use Rattle.model.proofs.Counted.{apart_counting, below_in, in_below}
use Rattle.model.proofs.Kept.{kept_in, in_kept}
use Rattle.model.proofs.Members.{has_in, in_has, not_has}
use Rattle.schedule_laws.specs.Counting.{one, times, missing}
use Rattle.schedule_laws.specs.Standing.{followers}
use Rattle.schedule_laws.proofs.Members.{same_test, apart_times, apart_kept}

pub missing_none : (ps : List ℕ) → missing [] ps ≡ length ps
missing_none [] = refl
missing_none (p ∷ ps) = omega (arith, missing_none ps)

-- none is missing where all have ended
pub all_in_missing : (ps ended : List ℕ) → all_in ps ended ≡ eqb (missing ended ps) 0
all_in_missing [] ended = refl
all_in_missing (p ∷ ps) ended =
    ⊎_elim
    (λ t. rw t (all_in_missing ps ended ∙ ap (λ n. eqb n 0) (omega arith)))
    (λ f. rw f (sym (ne_eqb (1 + missing ended ps) 0 (λ e. omega arith))))
    (cases_Bool (has ended p))

-- one more task has ended
pub missing_over : (ps ended : List ℕ) (t : ℕ) → Apart ps → has ended t ≡ false → missing ended ps ≡ missing (t ∷ ended) ps + one (has ps t)
missing_over [] ended t a n = refl
missing_over (p ∷ ps) ended t a n =
    let rest = missing_over ps ended t a.1 n in
    ⊎_elim
    (λ (e : p ≡ t).
    let x : eqb p t ≡ true = eq-eqb p t e in
    let y : eqb t p ≡ true = eq-eqb t p (sym e) in
    let none : one (has ps t) ≡ 0 = ap one (not_has ps t (λ i. a.0 (subst (λ w. In w ps) (sym e) i))) in
    let open' : has ended p ≡ false = ap (has ended) e ∙ n in
    rw (x, y, open') (omega (arith, rest)))
    (λ (d : p ≡ t → ⊥). rw (ne_eqb p t d, ne_eqb t p (λ e. d (sym e))) (omega (arith, rest)))
    (cases_eq p t)

pub missing_less : (ps ended : List ℕ) (t : ℕ) → missing (t ∷ ended) ps ≤ missing ended ps
missing_less [] ended t = omega arith
missing_less (p ∷ ps) ended t =
    let le : (a b : Bool) → one (not (a || b)) ≤ one (not b) = λ a b. elim a as (λ v. one (not (v || b)) ≤ one (not b)) [ true ↦ omega arith | false ↦ omega arith ] in
    omega (arith, missing_less ps ended t, le (eqb p t) (has ended p))

-- only what has ended counts, not in which order
module _ (xs ys : List ℕ) (same : (t : ℕ) → has xs t ≡ has ys t) where
  pub missing_same : (ps : List ℕ) → missing xs ps ≡ missing ys ps
  missing_same [] = refl
  missing_same (p ∷ ps) = rw (same p) (ap (λ n. one (not (has ys p)) + n) (missing_same ps))

  pub all_in_same : (ps : List ℕ) → all_in ps xs ≡ all_in ps ys
  all_in_same ps = all_in_missing ps xs ∙ ap (λ n. eqb n 0) (missing_same ps) ∙ sym (all_in_missing ps ys)

-- a task follows each of its predecessors once
pub times_followers : (s : Segment) (q t : ℕ) → times (λ x. x) t (followers s q) ≡ one (ltb t (length s.tasks) && has (task s t).predecessors q)
times_followers s q t =
    let n = length s.tasks in
    let test : ℕ → Bool = λ u. has (task s u).predecessors q in
    apart_times (followers s q) (apart_kept test (range_with_len 0 n) (apart_counting 0 n)) t
    ∙ ap one (same_test (has (followers s q) t) (ltb t n && test t)
    (λ e. let r = kept_in test (range_with_len 0 n) t (has_in (followers s q) t e) in and_from (ltb t n) (test t) (lt-ltb t n (below_in n t r.0)) r.1)
    (λ e. let r = and_parts (ltb t n) (test t) e in in_has (followers s q) t (in_kept test (range_with_len 0 n) t (in_below n t (ltb-true t n r.0)) r.1)))
