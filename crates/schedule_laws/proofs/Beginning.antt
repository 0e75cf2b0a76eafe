-- A schedule begins: the tasks without predecessors are ready.
use Rattle.std.proofs.Common.{◌≡◌, ℕ, ◌+◌, ◌≤◌, Bool, false, ◌&&◌, eqb, ltb, List, [], ◌∷◌, ◌++◌, length, get_or, sym, refl, ap, ◌∙◌, subst, ⊎_elim, arith}
use Rattle.std.proofs.lemmas.List.{length_push, get_or_push, get_or_append_left}
use Rattle.std.proofs.ByRecursion.{all_shuffled}
use Rattle.std.proofs.lemmas.Bool.{cases_eq, cases_lt, eq-eqb, ne_eqb, lt-ltb, le-ltb, both_ways}
use Rattle.std.specs.List.Sorted.{IsPermutation}
use Rattle.std.specs.List.{AllByRecursion}
use Rattle.model.specs.Canonical.{lasts, after}
use Rattle.model.specs.Graph.{Segment}
use Rattle.model.specs.Places.{task}
use Rattle.queue.specs.declared.kinds.Ready.{Ready}
use Rattle.schedule_laws.specs.Beginning.{Beginning}
use Rattle.schedule_laws.specs.Counting.{one, times}
use Rattle.schedule_laws.specs.Standing.{Standing}
use Rattle.schedule_laws.proofs.Members.{few_times, times_shuffled}
use Rattle.schedule_laws.proofs.Ones.{one_and, one_and_true, one_and_false}
use Rattle.schedule_laws.proofs.Waiting.{missing_none, all_in_missing}

abbrev awaits : Segment → ℕ → ℕ
awaits s t = length (task s t).predecessors

pub begins : (s : Segment) → Beginning s 0 [] []
begins s = record {
  counted = refl;
  counts = λ t l. absurd (omega arith);
  ready_once = λ t. ap (λ v. one (v && eqb (awaits s t) 0)) (sym (le-ltb t 0 (omega arith)));
  worsts = tt;
}

module _ (s : Segment) (i : ℕ) (R : List Ready) (W : List ℕ) (h : Beginning s i R W) where
  pub begun_few : length R ≤ i
  begun_few = few_times (λ (e : Ready). e.task) i R (λ t. omega (arith, h.ready_once t, one_and (ltb t i) (eqb (awaits s t) 0)))

  pub begins_more : (R' : List Ready) → ((k : ℕ) → times (λ (e : Ready). e.task) k R' ≡ times (λ (e : Ready). e.task) k R + one (eqb i k && eqb (awaits s i) 0))
      → AllByRecursion (λ (e : Ready). e.worst ≡ lasts s e.task) R' → Beginning s (i + 1) R' (W ++ (awaits s i ∷ []))
  begins_more R' new worsts' = record {
    counted = length_push W (awaits s i) ∙ ap (λ v. v + 1) h.counted;
    counts = λ t l. ⊎_elim
        (λ (q : t ≡ i). ap (λ v. get_or (W ++ (awaits s i ∷ [])) v 0) q ∙ get_or_push W (awaits s i) 0 i h.counted ∙ ap (awaits s) (sym q))
        (λ (d : t ≡ i → ⊥). get_or_append_left W (awaits s i ∷ []) 0 t (omega (arith, h.counted)) ∙ h.counts t (omega arith))
        (cases_eq t i);
    ready_once = λ t. ⊎_elim
        (λ (q : i ≡ t).
        let old = ap (λ v. one (v && eqb (awaits s t) 0)) (le-ltb t i (omega arith)) in
        let here = ap (λ v. one (v && eqb (awaits s t) 0)) (lt-ltb t (i + 1) (omega arith)) in
        let this = ap (λ v. one (v && eqb (awaits s i) 0)) (eq-eqb i t q) ∙ ap (λ v. one (eqb (awaits s v) 0)) q in
        omega (arith, new t, h.ready_once t, old, here, this))
        (λ (d : i ≡ t → ⊥).
        let other = ap (λ v. one (v && eqb (awaits s i) 0)) (ne_eqb i t d) in
        ⊎_elim
        (λ l. omega (arith, new t, h.ready_once t, other, ap (λ v. one (v && eqb (awaits s t) 0)) (lt-ltb t i l), ap (λ v. one (v && eqb (awaits s t) 0)) (lt-ltb t (i + 1) (omega (arith, l)))))
        (λ l.
        let far : i + 1 ≤ t = omega (arith, l) in
        omega (arith, new t, h.ready_once t, other, ap (λ v. one (v && eqb (awaits s t) 0)) (le-ltb t i l), ap (λ v. one (v && eqb (awaits s t) 0)) (le-ltb t (i + 1) far)))
        (cases_lt t i))
        (cases_eq i t);
    worsts = worsts';
  }

  -- the task waits for others
  pub begins_later : (n : ℕ) → n ≡ awaits s i → (n ≡ 0 → ⊥) → Beginning s (i + 1) R (W ++ (n ∷ []))
  begins_later n is some =
      subst (λ v. Beginning s (i + 1) R (W ++ (v ∷ []))) (sym is)
      (begins_more R
      (λ k. omega (arith, one_and_false (eqb i k), ap (λ v. one (eqb i k && v)) (ne_eqb (awaits s i) 0 (λ z. some (is ∙ z)))))
      h.worsts)

  -- the task waits for none, and its entry is put in
  pub begins_now : (n : ℕ) (R' : List Ready) (worst : ℕ) → n ≡ awaits s i → n ≡ 0 → worst ≡ lasts s i → IsPermutation (record { worst = worst; task = i } ∷ R) R' → Beginning s (i + 1) R' (W ++ (n ∷ []))
  begins_now n R' worst is none known moved =
      subst (λ v. Beginning s (i + 1) R' (W ++ (v ∷ []))) (sym is)
      (begins_more R'
      (λ k. omega (arith, times_shuffled (λ (e : Ready). e.task) k (record { worst = worst; task = i } ∷ R) R' moved, one_and_true (eqb i k), ap (λ v. one (eqb i k && v)) (eq-eqb (awaits s i) 0 (sym is ∙ none))))
      (all_shuffled (λ (e : Ready). e.worst ≡ lasts s e.task) (record { worst = worst; task = i } ∷ R) R' moved (known, h.worsts)))

pub begun_all : (cores : ℕ) (s : Segment) (R : List Ready) (W : List ℕ) (T : List Bool) → Beginning s (length s.tasks) R W → length T ≡ 8 → ((c : ℕ) → get_or T c false ≡ false) → Standing cores s (after cores s 0) R [] W T
begun_all cores s R W T h eight free = record {
  counted = h.counted;
  counts = λ t l. h.counts t l ∙ sym (missing_none (task s t).predecessors);
  ready_once = λ t. h.ready_once t ∙ ap (λ v. one (ltb t (length s.tasks) && v)) (sym (all_in_missing (task s t).predecessors [] ∙ ap (λ v. eqb v 0) (missing_none (task s t).predecessors)));
  worsts = h.worsts;
  running_once = λ t. refl;
  started = tt;
  cores_known = eight;
  core_once = λ c. sym (ap one (free c));
  core_low = λ c t. absurd (both_ways (get_or T c false) (free c) t);
  begun_once = tt;
  begun_low = λ t i. absurd (both_ways false refl i);
  awaited = λ t i. absurd (both_ways false refl i);
  ended_begun = λ t i. i;
  near = omega arith;
  ends_near = λ x i. absurd i;
}
