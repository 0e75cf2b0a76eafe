-- Which of the ready tasks comes first, and which of the running ones ends first.
use Rattle.std.proofs.Common.{◌≡◌, ℕ, ◌<◌, ◌≤◌, true, false, ◌&&◌, eqb, ltb, ◌⊎◌, List, ◌∷◌, inl, inr, ⊎_elim, arith}
use Rattle.std.specs.Cmp.{IsStrictWeakOrder}
use Rattle.std.proofs.lemmas.List.MinMax.{IsStrictWeakOrder-by_number}
use Rattle.std.proofs.lemmas.Bool.{both_ways, cases_eq, eqb-true, ltb-true, ltb-false, and_parts, or_cases}
use Rattle.std.proofs.lemmas.Bool.Decides.{nat_tests}
use Rattle.model.specs.Canonical.{Start, end_of, before, foremost, soonest}
use Rattle.model.specs.Graph.{Segment}
use Rattle.model.specs.Lists.{In}
use Rattle.model.specs.Places.{task}
use Rattle.model.proofs.Bests.{best_in, best_beaten}

module _ (s : Segment) where
  -- a task that comes before another has the larger worst, or the same and the lower number
  pub before_is : (t u : ℕ) → before s t u ≡ true → ((task s u).worst < (task s t).worst) ⊎ (((task s t).worst ≡ (task s u).worst) × (t < u))
  before_is t u e =
      ⊎_elim
      (λ l. inl (ltb-true (task s u).worst (task s t).worst l))
      (λ l.
      let p = and_parts (eqb (task s t).worst (task s u).worst) (ltb t u) l in
      inr (eqb-true (task s t).worst (task s u).worst p.0, ltb-true t u p.1))
      (or_cases (ltb (task s u).worst (task s t).worst) (eqb (task s t).worst (task s u).worst && ltb t u) e)

  -- of two tasks one comes first
  pub before_either : (t u : ℕ) → (u ≡ t → ⊥) → before s u t ≡ false → before s t u ≡ true
  before_either t u n e = grind (arith, nat_tests)

  pub ranks_before : IsStrictWeakOrder (before s)
  ranks_before =
      record {
        one_way = λ t u e. grind (arith, nat_tests);
        chain = λ t u v e f. grind (arith, nat_tests);
      }

  pub first_in : (t : ℕ) (ts : List ℕ) → In (foremost s t ts) (t ∷ ts)
  first_in = best_in (before s) ranks_before

  pub first_before : (t : ℕ) (ts : List ℕ) (u : ℕ) → In u (t ∷ ts) → (u ≡ foremost s t ts → ⊥) → before s (foremost s t ts) u ≡ true
  first_before t ts u i n = before_either (foremost s t ts) u n (best_beaten (before s) ranks_before t ts u i)

  -- a task that none comes before is the first
  pub first_is : (t : ℕ) (ts : List ℕ) (u : ℕ) → In u (t ∷ ts) → ((v : ℕ) → In v (t ∷ ts) → before s v u ≡ false) → foremost s t ts ≡ u
  first_is t ts u i none =
      ⊎_elim (λ e. e)
      (λ n. absurd (both_ways (before s u (foremost s t ts)) (best_beaten (before s) ranks_before t ts u i) (before_either u (foremost s t ts) n (none (foremost s t ts) (first_in t ts)))))
      (cases_eq (foremost s t ts) u)

  -- the start that ends first
  pub soonest_in : (x : Start) (xs : List Start) → In (soonest s x xs) (x ∷ xs)
  soonest_in = best_in (λ y z. ltb (end_of s y) (end_of s z)) (IsStrictWeakOrder-by_number (end_of s))

  pub soonest_each : (x : Start) (xs : List Start) (y : Start) → In y (x ∷ xs) → end_of s (soonest s x xs) ≤ end_of s y
  soonest_each x xs y i =
      ltb-false (end_of s y) (end_of s (soonest s x xs)) (best_beaten (λ y z. ltb (end_of s y) (end_of s z)) (IsStrictWeakOrder-by_number (end_of s)) x xs y i)
