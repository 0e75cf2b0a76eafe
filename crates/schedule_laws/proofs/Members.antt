-- What stands in a list, and how often.
use Rattle.std.proofs.Common.{◌≡◌, ℕ, ◌+◌, ◌<◌, ◌≤◌, Bool, true, false, eqb, ltb, List, [], ◌∷◌, ◌++◌, map, length, get_or, take, sum_by, filter, sym, refl, ap, ◌∙◌, subst, inl, inr, ⊎_elim, arith}
use Rattle.std.proofs.lemmas.List.{length-append, length-map, take_more}
use Rattle.std.proofs.lemmas.List.Sorted.{sum_by-IsPermutation}
use Rattle.std.proofs.lemmas.List.Sums.{sum_by-cons}
use Rattle.std.proofs.lemmas.Bool.{cases_Bool, cases_eq, cases_lt, eqb-true, eq-eqb, ne_eqb, both_ways, cond_both, le-ltb}
use Rattle.std.specs.List.Sorted.{IsPermutation}
use Rattle.std.specs.List.{AllByRecursion}
use Rattle.model.specs.Lists.{In, Apart, has}
use Rattle.model.proofs.Counted.{few_below}
use Rattle.model.proofs.Kept.{kept_in, map-in}
use Rattle.model.proofs.Members.{not_has}
use Rattle.schedule_laws.specs.Counting.{one, times}
use Rattle.schedule_laws.proofs.Ones.{one_most}

module _ {A : Type 0} where
  pub all_in_list : (P : A → Type 0) (xs : List A) (x : A) → AllByRecursion P xs → In x xs → P x
  all_in_list P [] x a i = absurd i
  all_in_list P (y ∷ ys) x a (inl e) = subst (λ z. P z) (sym e) a.0
  all_in_list P (y ∷ ys) x a (inr i) = all_in_list P ys x a.1 i

  -- a list with nothing in it
  pub nothing_in : (xs : List A) → ((x : A) → In x xs → ⊥) → xs ≡ []
  nothing_in [] f = refl
  nothing_in (x ∷ xs) f = absurd (f x (inl refl))

-- two tests that say the same of what stands in a list
pub same_test : (a b : Bool) → (a ≡ true → b ≡ true) → (b ≡ true → a ≡ true) → a ≡ b
same_test true b f g = sym (f refl)
same_test false true f g = absurd (both_ways true (sym (g refl)) refl)
same_test false false f g = refl

-- how often
module _ {X : Type 0} (f : X → ℕ) where
  times_sum : (k : ℕ) (xs : List X) → times f k xs ≡ sum_by (λ x. one (eqb (f x) k)) xs
  times_sum k [] = refl
  times_sum k (x ∷ xs) = ap (λ n. one (eqb (f x) k) + n) (times_sum k xs) ∙ sym (sum_by-cons (λ y. one (eqb (f y) k)) x xs)

  pub times_shuffled : (k : ℕ) (xs ys : List X) → IsPermutation xs ys → times f k ys ≡ times f k xs
  times_shuffled k xs ys h = times_sum k ys ∙ sum_by-IsPermutation (λ x. one (eqb (f x) k)) xs ys h ∙ sym (times_sum k xs)

  pub times_in : (k : ℕ) (xs : List X) → 1 ≤ times f k xs → (x : X) × In x xs × (f x ≡ k)
  times_in k [] h = absurd (omega arith)
  times_in k (x ∷ xs) h =
      ⊎_elim (λ t. (x, inl refl, eqb-true (f x) k t))
      (λ n. let r = times_in k xs (let z : one (eqb (f x) k) ≡ 0 = ap one n in omega arith) in (r.0, inr r.1, r.2))
      (cases_Bool (eqb (f x) k))

  pub in_times : (k : ℕ) (xs : List X) (x : X) → In x xs → f x ≡ k → 1 ≤ times f k xs
  in_times k [] x i e = absurd i
  in_times k (y ∷ ys) x (inl q) e = let z : one (eqb (f y) k) ≡ 1 = ap one (eq-eqb (f y) k (ap f (sym q) ∙ e)) in omega arith
  in_times k (y ∷ ys) x (inr i) e = omega (arith, in_times k ys x i e)

  once_apart : (xs : List X) → ((k : ℕ) → times f k xs ≤ 1) → Apart (map f xs)
  once_apart [] h = tt
  once_apart (x ∷ xs) h = (
    (λ i.
        let r = map-in f (f x) xs i in
        let z : one (eqb (f x) (f x)) ≡ 1 = ap one (eq-eqb (f x) (f x) refl) in
        omega (arith, h (f x), in_times (f x) xs r.0 r.1 r.2)),
    once_apart xs (λ k. omega (arith, h k)),
  )

  -- each number below n at most once, and no other: there are at most n
  pub few_times : (n : ℕ) (xs : List X) → ((k : ℕ) → times f k xs ≤ one (ltb k n)) → length xs ≤ n
  few_times n xs h =
      let apart = once_apart xs (λ k. omega (arith, h k, one_most (ltb k n))) in
      let low : (k : ℕ) → In k (map f xs) → k < n =
      λ k i.
      let r = map-in f k xs i in
      let some = in_times k xs r.0 r.1 r.2 in
      ⊎_elim (λ l. l) (λ l. absurd (let z : one (ltb k n) ≡ 0 = ap one (le-ltb k n l) in omega (arith, h k, some))) (cases_lt k n) in
      omega (arith, few_below (map f xs) n apart low, length-map xs f)

pub apart_times : (xs : List ℕ) → Apart xs → (k : ℕ) → times (λ x. x) k xs ≡ one (has xs k)
apart_times [] a k = refl
apart_times (x ∷ xs) a k =
    let rest = apart_times xs a.1 k in
    ⊎_elim
    (λ (e : x ≡ k).
    let t : eqb x k ≡ true = eq-eqb x k e in
    let u : eqb k x ≡ true = eq-eqb k x (sym e) in
    let z : one (has xs k) ≡ 0 = ap one (not_has xs k (λ i. a.0 (subst (λ w. In w xs) (sym e) i))) in
    rw (t, u) (omega (arith, rest)))
    (λ (n : x ≡ k → ⊥). rw (ne_eqb x k n, ne_eqb k x (λ e. n (sym e))) (omega (arith, rest)))
    (cases_eq x k)

module _ {X : Type 0} (f : X → ℕ) where
  times_both : (k : ℕ) (xs : List X) (ys : List ℕ) → times (λ y. y) k (map f xs ++ ys) ≡ times f k xs + times (λ y. y) k ys
  times_both k [] ys = omega arith
  times_both k (x ∷ xs) ys = omega (arith, times_both k xs ys)

  pub few_both : (n : ℕ) (xs : List X) (ys : List ℕ) → ((k : ℕ) → times f k xs + times (λ y. y) k ys ≤ one (ltb k n)) → length xs + length ys ≤ n
  few_both n xs ys h =
      omega (arith, few_times (λ y. y) n (map f xs ++ ys) (λ k. omega (arith, h k, times_both k xs ys)), length-append (map f xs) ys, length-map xs f)

  times_push : (k : ℕ) (xs : List X) (x : X) → times f k (xs ++ (x ∷ [])) ≡ times f k xs + one (eqb (f x) k)
  times_push k [] x = omega arith
  times_push k (y ∷ ys) x = omega (arith, times_push k ys x)

  pub times_more : (k : ℕ) (xs : List X) (i : ℕ) (x : X) → i < length xs → x ≡ get_or xs i x → times f k (take (i + 1) xs) ≡ times f k (take i xs) + one (eqb (f x) k)
  times_more k xs i x turn is = ap (times f k) (take_more xs i x turn) ∙ times_push k (take i xs) (get_or xs i x) ∙ ap (λ v. times f k (take i xs) + one (eqb (f v) k)) (sym is)

pub apart_kept : {X : Type 0} (f : X → Bool) (xs : List X) → Apart xs → Apart (filter f xs)
apart_kept f [] a = tt
apart_kept f (x ∷ xs) a =
    cond_both (f x) (x ∷ filter f xs) (filter f xs) (λ l. Apart l)
    (λ t. (λ i. a.0 (kept_in f xs x i).0, apart_kept f xs a.1))
    (λ t. apart_kept f xs a.1)
