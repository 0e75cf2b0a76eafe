-- What stands in a list, and how long a list of distinct things can be.
use Rattle.std.proofs.Common.{◌≡◌, ℕ, zero, suc, ◌<◌, ◌≤◌, true, false, eqb, ◌⊎◌, List, [], ◌∷◌, ◌++◌, length, get_or, take, sym, refl, ap, ◌∙◌, subst, inl, inr, ⊎_elim, arith}
use Rattle.std.proofs.lemmas.Bool.{cases_Bool, eqb-true, eq-eqb, or_cases, or_left, or_right, and_parts, and_from, both_ways}
use Rattle.model.specs.Lists.{has, all_in, In, Apart}

module _ {A : Type 0} where
  pub in_front : (x : A) (xs ys : List A) → In x xs → In x (xs ++ ys)
  in_front x [] ys i = absurd i
  in_front x (z ∷ zs) ys (inl e) = inl e
  in_front x (z ∷ zs) ys (inr i) = inr (in_front x zs ys i)

  pub in_back : (x : A) (xs ys : List A) → In x ys → In x (xs ++ ys)
  in_back x [] ys i = i
  in_back x (z ∷ zs) ys i = inr (in_back x zs ys i)

  pub in_either : (x : A) (xs ys : List A) → In x (xs ++ ys) → In x xs ⊎ In x ys
  in_either x [] ys i = inr i
  in_either x (z ∷ zs) ys (inl e) = inl (inl e)
  in_either x (z ∷ zs) ys (inr i) = ⊎_elim (λ j. inl (inr j)) (λ j. inr j) (in_either x zs ys i)

  -- one more at the end
  pub in_push : (x : A) (xs : List A) (y : A) → In x (xs ++ (y ∷ [])) → In x xs ⊎ (x ≡ y)
  in_push x xs y i = ⊎_elim (λ j. inl j) (⊎_elim (λ e. inr e) (λ v. absurd v)) (in_either x xs (y ∷ []) i)

  -- what stands in a list has a place
  pub place : (x d : A) (xs : List A) → In x xs → (k : ℕ) × (k < length xs) × (get_or xs k d ≡ x)
  place x d [] i = absurd i
  place x d (z ∷ zs) (inl e) = (0, omega arith, sym e)
  place x d (z ∷ zs) (inr i) = let r = place x d zs i in (suc r.0, omega (arith, r.1), r.2)

  pub at_place : (d : A) (xs : List A) (k : ℕ) → k < length xs → In (get_or xs k d) xs
  at_place d [] k h = absurd (omega arith)
  at_place d (z ∷ zs) zero h = inl refl
  at_place d (z ∷ zs) (suc k) h = inr (at_place d zs k (omega arith))

  -- what stands in the front of a list has a lower place, and what has one stands there
  pub place_before : (x d : A) (k : ℕ) (xs : List A) → In x (take k xs) → (j : ℕ) × (j < k) × (j < length xs) × (get_or xs j d ≡ x)
  place_before x d zero xs i = absurd i
  place_before x d (suc k) [] i = absurd i
  place_before x d (suc k) (z ∷ zs) (inl e) = (0, omega arith, omega arith, sym e)
  place_before x d (suc k) (z ∷ zs) (inr i) =
      let r = place_before x d k zs i in
      (suc r.0, omega (arith, r.1), omega (arith, r.2), r.3)

  pub before_place : (d : A) (j k : ℕ) (xs : List A) → j < k → k < length xs → In (get_or xs j d) (take k xs)
  before_place d j zero xs h l = absurd (omega arith)
  before_place d j (suc k) [] h l = absurd (omega arith)
  before_place d zero (suc k) (z ∷ zs) h l = inl refl
  before_place d (suc j) (suc k) (z ∷ zs) h l = inr (before_place d j k zs (omega arith) (omega arith))

  -- distinct things stand at one place each
  pub apart_places : (d : A) (j k : ℕ) (xs : List A) → Apart xs → j < k → k < length xs → get_or xs j d ≡ get_or xs k d → ⊥
  apart_places d j zero xs a h l e = omega arith
  apart_places d j (suc k) [] a h l e = omega arith
  apart_places d zero (suc k) (z ∷ zs) a h l e = a.0 (subst (λ (w : A). In w zs) (sym e) (at_place d zs k (omega arith)))
  apart_places d (suc j) (suc k) (z ∷ zs) a h l e = apart_places d j k zs a.1 (omega arith) (omega arith) e

  pub apart_push : (xs : List A) (x : A) → Apart xs → (In x xs → ⊥) → Apart (xs ++ (x ∷ []))
  apart_push [] x a n = (λ i. i, tt)
  apart_push (z ∷ zs) x a n = (λ i. ⊎_elim (λ j. a.0 j) (λ e. n (inl (sym e))) (in_push z zs x i), apart_push zs x a.1 (λ i. n (inr i)))

  -- a list without one of its things
  one_less : (x : A) (ys : List A) → In x ys → List A
  one_less x [] i = []
  one_less x (y ∷ ys) (inl e) = ys
  one_less x (y ∷ ys) (inr i) = y ∷ one_less x ys i

  one_less-length : (x : A) (ys : List A) (i : In x ys) → suc (length (one_less x ys i)) ≡ length ys
  unfolding one_less
  one_less-length x [] i = absurd i
  one_less-length x (y ∷ ys) (inl e) = refl
  one_less-length x (y ∷ ys) (inr i) = ap suc (one_less-length x ys i)

  one_less_keeps : (x : A) (ys : List A) (i : In x ys) (z : A) → In z ys → (z ≡ x → ⊥) → In z (one_less x ys i)
  unfolding one_less
  one_less_keeps x [] i z j n = absurd i
  one_less_keeps x (y ∷ ys) (inl e) z (inl f) n = absurd (n (f ∙ sym e))
  one_less_keeps x (y ∷ ys) (inl e) z (inr j) n = j
  one_less_keeps x (y ∷ ys) (inr i) z (inl f) n = inl f
  one_less_keeps x (y ∷ ys) (inr i) z (inr j) n = inr (one_less_keeps x ys i z j n)

  -- distinct things that all stand in another list are no more than that list has
  pub no_longer : (xs ys : List A) → Apart xs → ((x : A) → In x xs → In x ys) → length xs ≤ length ys
  no_longer [] ys a f = omega arith
  no_longer (x ∷ xs) ys a f =
      let i = f x (inl refl) in
      let r = no_longer xs (one_less x ys i) a.1 (λ z j. one_less_keeps x ys i z (f z (inr j)) (λ e. a.0 (subst (λ (w : A). In w xs) e j))) in
      omega (arith, r, one_less-length x ys i)

-- `has` and `In` say the same
pub has_in : (xs : List ℕ) (x : ℕ) → has xs x ≡ true → In x xs
has_in [] x e = absurd (both_ways true (sym e) refl)
has_in (y ∷ ys) x e = ⊎_elim (λ t. inl (eqb-true x y t)) (λ t. inr (has_in ys x t)) (or_cases (eqb x y) (has ys x) e)

pub in_has : (xs : List ℕ) (x : ℕ) → In x xs → has xs x ≡ true
in_has [] x i = absurd i
in_has (y ∷ ys) x (inl e) = or_left (eqb x y) (has ys x) (eq-eqb x y e)
in_has (y ∷ ys) x (inr i) = or_right (eqb x y) (has ys x) (in_has ys x i)

pub has_not : (xs : List ℕ) (x : ℕ) → has xs x ≡ false → In x xs → ⊥
has_not xs x e i = both_ways (has xs x) e (in_has xs x i)

pub not_has : (xs : List ℕ) (x : ℕ) → (In x xs → ⊥) → has xs x ≡ false
not_has xs x n = ⊎_elim (λ t. absurd (n (has_in xs x t))) (λ f. f) (cases_Bool (has xs x))

pub in_or_not : (xs : List ℕ) (x : ℕ) → In x xs ⊎ (In x xs → ⊥)
in_or_not xs x = ⊎_elim (λ t. inl (has_in xs x t)) (λ f. inr (has_not xs x f)) (cases_Bool (has xs x))

pub all_in_each : (xs ys : List ℕ) → all_in xs ys ≡ true → (x : ℕ) → In x xs → In x ys
all_in_each [] ys e x i = absurd i
all_in_each (z ∷ zs) ys e x (inl q) = rw q (has_in ys z (and_parts (has ys z) (all_in zs ys) e).0)
all_in_each (z ∷ zs) ys e x (inr i) = all_in_each zs ys (and_parts (has ys z) (all_in zs ys) e).1 x i

pub each_all_in : (xs ys : List ℕ) → ((x : ℕ) → In x xs → In x ys) → all_in xs ys ≡ true
each_all_in [] ys f = refl
each_all_in (x ∷ xs) ys f = and_from (has ys x) (all_in xs ys) (in_has ys x (f x (inl refl))) (each_all_in xs ys (λ y i. f y (inr i)))
