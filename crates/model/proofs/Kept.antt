-- What a test keeps of a list, and what a function makes of it.
use Rattle.std.proofs.Common.{◌≡◌, ◌<◌, ◌≤◌, Bool, true, false, List, [], ◌∷◌, map, length, filter, sym, refl, ap, ◌∙◌, subst, inl, inr, ⊎_elim, arith}
use Rattle.std.proofs.lemmas.Bool.{cases_Bool, both_ways, cond_both}
use Rattle.model.specs.Lists.{In, Apart}

-- what a test keeps of a list
module _ {A : Type 0} (p : A → Bool) where
  pub kept_in : (xs : List A) (x : A) → In x (filter p xs) → In x xs × (p x ≡ true)
  kept_in [] x i = absurd i
  kept_in (y ∷ ys) x i =
      cond_both (p y) (y ∷ filter p ys) (filter p ys) (λ l. In x l → In x (y ∷ ys) × (p x ≡ true))
      (λ e. ⊎_elim (λ q. (inl q, rw q e)) (λ j. let r = kept_in ys x j in (inr r.0, r.1)))
      (λ e j. let r = kept_in ys x j in (inr r.0, r.1))
      i

  pub in_kept : (xs : List A) (x : A) → In x xs → p x ≡ true → In x (filter p xs)
  in_kept [] x i e = absurd i
  in_kept (y ∷ ys) x i e =
      cond_both (p y) (y ∷ filter p ys) (filter p ys) (λ l. In x l)
      (λ t. ⊎_elim (λ q. inl q) (λ j. inr (in_kept ys x j e)) i)
      (λ t. ⊎_elim (λ q. absurd (both_ways (p y) t (rw q at e))) (λ j. in_kept ys x j e) i)

  pub kept_none : (xs : List A) → ((x : A) → In x xs → p x ≡ false) → filter p xs ≡ []
  kept_none [] f = refl
  kept_none (x ∷ xs) f = rw (f x (inl refl)) (kept_none xs (λ y i. f y (inr i)))

  -- a test that passes less keeps no more
  pub kept_fewer : (q : A → Bool) (xs : List A) → ((x : A) → In x xs → q x ≡ true → p x ≡ true) → length (filter q xs) ≤ length (filter p xs)
  kept_fewer q [] f = omega arith
  kept_fewer q (x ∷ xs) f =
      let r = kept_fewer q xs (λ y i. f y (inr i)) in
      cond_both (q x) (x ∷ filter q xs) (filter q xs) (λ l. length l ≤ length (filter p (x ∷ xs)))
      (λ e. rw (f x (inl refl) e) (omega (arith, r)))
      (λ e. cond_both (p x) (x ∷ filter p xs) (filter p xs) (λ l. length (filter q xs) ≤ length l) (λ t. omega (arith, r)) (λ t. r))

  -- and fewer where it refuses one that passes the other
  pub kept_less : (q : A → Bool) (xs : List A) → ((x : A) → In x xs → q x ≡ true → p x ≡ true)
      → (x : A) → In x xs → p x ≡ true → q x ≡ false → length (filter q xs) < length (filter p xs)
  kept_less q [] f x i t n = absurd i
  kept_less q (y ∷ ys) f x (inl e) t n =
      let more : p y ≡ true = rw e at t in
      let less : q y ≡ false = rw e at n in
      rw (more, less) (omega (arith, kept_fewer q ys (λ z j. f z (inr j))))
  kept_less q (y ∷ ys) f x (inr i) t n =
      let r = kept_less q ys (λ z j. f z (inr j)) x i t n in
      cond_both (q y) (y ∷ filter q ys) (filter q ys) (λ l. length l < length (filter p (y ∷ ys)))
      (λ e. rw (f y (inl refl) e) (omega (arith, r)))
      (λ e. cond_both (p y) (y ∷ filter p ys) (filter p ys) (λ l. length (filter q ys) < length l) (λ t. omega (arith, r)) (λ t. r))

-- what a function makes of a list
module _ {A B : Type 0} (f : A → B) where
  pub in_map : (x : A) (xs : List A) → In x xs → In (f x) (map f xs)
  in_map x [] i = absurd i
  in_map x (z ∷ zs) (inl e) = inl (ap f e)
  in_map x (z ∷ zs) (inr i) = inr (in_map x zs i)

  pub map-in : (y : B) (xs : List A) → In y (map f xs) → (x : A) × In x xs × (f x ≡ y)
  map-in y [] i = absurd i
  map-in y (z ∷ zs) (inl e) = (z, inl refl, sym e)
  map-in y (z ∷ zs) (inr i) = let r = map-in y zs i in (r.0, inr r.1, r.2)

  -- where the values are apart, equal ones are of one thing
  pub apart_same : (xs : List A) → Apart (map f xs) → (x y : A) → In x xs → In y xs → f x ≡ f y → x ≡ y
  apart_same [] a x y i j e = absurd i
  apart_same (z ∷ zs) a x y (inl p) (inl q) e = p ∙ sym q
  apart_same (z ∷ zs) a x y (inl p) (inr j) e = absurd (a.0 (subst (λ (w : B). In w (map f zs)) (sym e ∙ ap f p) (in_map y zs j)))
  apart_same (z ∷ zs) a x y (inr i) (inl q) e = absurd (a.0 (subst (λ (w : B). In w (map f zs)) (e ∙ ap f q) (in_map x zs i)))
  apart_same (z ∷ zs) a x y (inr i) (inr j) e = apart_same zs a.1 x y i j e

  -- and of fewer things they are apart too
  pub apart_fewer : (p q : A → Bool) (xs : List A) → ((x : A) → In x xs → q x ≡ true → p x ≡ true) → Apart (map f (filter p xs)) → Apart (map f (filter q xs))
  apart_fewer p q [] h a = tt
  apart_fewer p q (x ∷ xs) h a =
      let rest : Apart (map f (filter p xs)) = cond_both (p x) (x ∷ filter p xs) (filter p xs) (λ l. Apart (map f l) → Apart (map f (filter p xs))) (λ e b. b.1) (λ e b. b) a in
      let r = apart_fewer p q xs (λ y i. h y (inr i)) rest in
      ⊎_elim
      (λ e.
      let b : Apart (map f (x ∷ filter p xs)) = rw (h x (inl refl) e) at a in
      rw e (
        λ i.
            let m = map-in (f x) (filter q xs) i in
            let k = kept_in q xs m.0 m.1 in
            b.0 (rw m.2 at (in_map m.0 (filter p xs) (in_kept p xs m.0 k.0 (h m.0 (inr k.0) k.1)))),
        r,
      ))
      (λ e. rw e r)
      (cases_Bool (q x))

  -- of some of the things too
  pub apart_kept : (p : A → Bool) (xs : List A) → Apart (map f xs) → Apart (map f (filter p xs))
  apart_kept p [] a = tt
  apart_kept p (x ∷ xs) a =
      cond_both (p x) (x ∷ filter p xs) (filter p xs) (λ l. Apart (map f l))
      (λ e. (
        λ i. let m = map-in (f x) (filter p xs) i in a.0 (rw m.2 at (in_map m.0 xs (kept_in p xs m.0 m.1).0)),
        apart_kept p xs a.1,
      ))
      (λ e. apart_kept p xs a.1)
