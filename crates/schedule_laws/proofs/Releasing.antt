-- Followers are released one by one.
use Rattle.std.proofs.Common.{◌≡◌, ℕ, zero, suc, ◌+◌, ◌-◌, ◌<◌, ◌≤◌, false, ◌&&◌, eqb, ltb, List, [], ◌∷◌, length, get_or, take, set, sym, refl, ap, ◌∙◌, subst, ⊎_elim, arith}
use Rattle.std.proofs.lemmas.List.{length-set, get_or-set_same, get_or-set_other, get_or_past, get_or_read}
use Rattle.std.proofs.ByRecursion.{all_shuffled}
use Rattle.std.proofs.lemmas.Bool.{cases_eq, cases_lt, eq-eqb, ne_eqb, lt-ltb}
use Rattle.std.proofs.lemmas.Bool.Decides.{nat_tests}
use Rattle.std.specs.List.Sorted.{IsPermutation}
use Rattle.std.specs.List.{AllByRecursion}
use Rattle.model.specs.Canonical.{lasts}
use Rattle.model.specs.Graph.{Segment}
use Rattle.queue.specs.declared.kinds.Ready.{Ready}
use Rattle.schedule_laws.specs.Counting.{one, times}
use Rattle.schedule_laws.specs.Released.{Released}
use Rattle.schedule_laws.proofs.Members.{times_more, times_shuffled}
use Rattle.schedule_laws.proofs.Ones.{one_and_true, one_and_false}

times-take : (k n : ℕ) (xs : List ℕ) → times (λ u. u) k (take n xs) ≤ times (λ u. u) k xs
times-take k zero xs = omega arith
times-take k (suc n) [] = omega arith
times-take k (suc n) (x ∷ xs) = omega (arith, times-take k n xs)

-- none waits for less than none
nothing_new : (w : ℕ) → one (ltb 0 w && eqb w 0) ≡ 0
nothing_new w = grind (arith, nat_tests)

pub released_none : (s : Segment) (W : List ℕ) (R : List Ready) → Released s [] W W R R
released_none s W R = record {
  counted = refl;
  counts = λ t. omega arith;
  ready_once = λ t. omega (arith, nothing_new (get_or W t 0));
  worsts = λ a. a;
}

module _ (s : Segment) (fs W V : List ℕ) (R Q : List Ready) (t i : ℕ) (turn : i < length fs) (is : t ≡ get_or fs i t)
    (fit : (k : ℕ) → times (λ u. u) k fs ≤ get_or W k 0) (h : Released s (take i fs) W V R Q) where
  more : (k : ℕ) → times (λ u. u) k (take (i + 1) fs) ≡ times (λ u. u) k (take i fs) + one (eqb t k)
  more k = times_more (λ u. u) k fs i t turn is

  -- the follower waits for this task at least
  pub waits : 1 ≤ get_or V t 0
  waits = omega (arith, h.counts t, more t, times-take t (i + 1) fs, fit t, ap one (eq-eqb t t refl))

  pub inside : t < length V
  inside = ⊎_elim (λ l. l) (λ l. absurd (omega (arith, waits, get_or_past V t 0 l))) (cases_lt t (length V))

  pub released_more : (Q' : List Ready) → ((k : ℕ) → times (λ (e : Ready). e.task) k Q' ≡ times (λ (e : Ready). e.task) k Q + one (eqb t k && eqb (get_or V t 0 - 1) 0))
      → (AllByRecursion (λ (e : Ready). e.worst ≡ lasts s e.task) Q → AllByRecursion (λ (e : Ready). e.worst ≡ lasts s e.task) Q')
      → Released s (take (i + 1) fs) W (set V t (get_or V t 0 - 1)) R Q'
  released_more Q' new worsts' =
      let w = get_or V t 0 - 1 in
      record {
        counted = length-set V t w ∙ h.counted;
        counts = λ k. ⊎_elim
            (λ (q : t ≡ k). omega (arith, ap (λ v. get_or (set V t w) v 0) (sym q), get_or-set_same V t w 0 inside, h.counts t, more t, ap one (eq-eqb t t refl), ap (λ v. get_or W v 0) q, ap (λ v. times (λ u. u) v (take (i + 1) fs)) q))
            (λ (d : t ≡ k → ⊥). omega (arith, get_or-set_other V t k w 0 (λ q. d (sym q)), h.counts k, more k, ap one (ne_eqb t k d)))
            (cases_eq t k);
        ready_once = λ k. ⊎_elim
            (λ (q : t ≡ k).
            let some = lt-ltb 0 (get_or W k 0) (omega (arith, waits, h.counts t, ap (λ v. get_or W v 0) q)) in
            let before = ap (λ v. one (ltb 0 (get_or W k 0) && v)) (ne_eqb (get_or V k 0) 0 (λ z. omega (arith, waits, ap (λ v. get_or V v 0) q))) ∙ ap (λ v. one (v && false)) some in
            let after = ap (λ v. one (ltb 0 (get_or W k 0) && eqb v 0)) (ap (λ v. get_or (set V t w) v 0) (sym q) ∙ get_or-set_same V t w 0 inside) ∙ ap (λ v. one (v && eqb w 0)) some in
            omega (arith, new k, h.ready_once k, before, after, ap (λ v. one (v && eqb w 0)) (eq-eqb t k q)))
            (λ (d : t ≡ k → ⊥).
            omega (arith, new k, h.ready_once k, ap (λ v. one (ltb 0 (get_or W k 0) && eqb v 0)) (get_or-set_other V t k w 0 (λ q. d (sym q))), ap (λ v. one (v && eqb w 0)) (ne_eqb t k d)))
            (cases_eq t k);
        worsts = λ a. worsts' (h.worsts a);
      }

  module _ (w : ℕ) (read : w ≡ get_or V t w) where
    left : w ≡ get_or V t 0
    left = get_or_read V t w inside read 0

    -- it waits for another task
    pub released_later : (w - 1 ≡ 0 → ⊥) → Released s (take (i + 1) fs) W (set V t (w - 1)) R Q
    released_later some =
        subst (λ v. Released s (take (i + 1) fs) W (set V t (v - 1)) R Q) (sym left)
        (released_more Q
        (λ k. omega (arith, one_and_false (eqb t k), ap (λ v. one (eqb t k && v)) (ne_eqb (get_or V t 0 - 1) 0 (λ z. some (omega (arith, left))))))
        (λ a. a))

    -- it waits for no other, and its entry is put in
    pub released_now : (Q' : List Ready) (worst : ℕ) → w - 1 ≡ 0 → worst ≡ lasts s t → IsPermutation (record { worst = worst; task = t } ∷ Q) Q' → Released s (take (i + 1) fs) W (set V t (w - 1)) R Q'
    released_now Q' worst none known moved =
        subst (λ v. Released s (take (i + 1) fs) W (set V t (v - 1)) R Q') (sym left)
        (released_more Q'
        (λ k. omega (arith, times_shuffled (λ (e : Ready). e.task) k (record { worst = worst; task = t } ∷ Q) Q' moved, one_and_true (eqb t k), ap (λ v. one (eqb t k && v)) (eq-eqb (get_or V t 0 - 1) 0 (omega (arith, left)))))
        (λ a. all_shuffled (λ (e : Ready). e.worst ≡ lasts s e.task) (record { worst = worst; task = t } ∷ Q) Q' moved (known, a)))
