-- Things of which each fits those before it.
use Rattle.std.proofs.Common.{◌≡◌, ℕ, zero, suc, ◌+◌, ◌-◌, ◌<◌, ◌≤◌, Bool, true, List, [], ◌∷◌, ◌++◌, length, get_or, take, refl, append_assoc, append-nil, arith}
use Rattle.std.proofs.lemmas.Bool.{and_parts, and_from}
use Rattle.model.specs.Lists.{each}

module _ {X : Type 0} where
  -- each thing of a list fits those before it; `done` stand before the list
  abbrev pub Along : (List X → X → Type 0) → List X → List X → Type 0
  Along P done [] = Unit {0}
  Along P done (x ∷ xs) = P done x × Along P (done ++ (x ∷ [])) xs

  pub along_weaker : (P Q : List X → X → Type 0) → ((done : List X) (x : X) → P done x → Q done x) → (done xs : List X) → Along P done xs → Along Q done xs
  along_weaker P Q f done [] a = tt
  along_weaker P Q f done (x ∷ xs) a = (f done x a.0, along_weaker P Q f (done ++ (x ∷ [])) xs a.1)

  pub along_both : (P Q : List X → X → Type 0) (done xs : List X) → Along P done xs → Along Q done xs → Along (λ d x. P d x × Q d x) done xs
  along_both P Q done [] a b = tt
  along_both P Q done (x ∷ xs) a b = ((a.0, b.0), along_both P Q (done ++ (x ∷ [])) xs a.1 b.1)

  -- a test that each passes, as a fact
  pub each_along : (ok : List X → X → Bool) (done xs : List X) → each ok done xs ≡ true → Along (λ d x. ok d x ≡ true) done xs
  each_along ok done [] e = tt
  each_along ok done (x ∷ xs) e =
      let p = and_parts (ok done x) (each ok (done ++ (x ∷ [])) xs) e in
      (p.0, each_along ok (done ++ (x ∷ [])) xs p.1)

  pub along_each : (ok : List X → X → Bool) (done xs : List X) → Along (λ d x. ok d x ≡ true) done xs → each ok done xs ≡ true
  along_each ok done [] a = refl
  along_each ok done (x ∷ xs) a = and_from (ok done x) (each ok (done ++ (x ∷ [])) xs) a.0 (along_each ok (done ++ (x ∷ [])) xs a.1)

-- one more at the end
module _ {X : Type 0} (P : List X → X → Type 0) where
  pub along_push : (done xs : List X) (x : X) → Along P done xs → P (done ++ xs) x → Along P done (xs ++ (x ∷ []))
  along_push done [] x a p = (rw append-nil at p, tt)
  along_push done (y ∷ ys) x a p = (a.0, along_push (done ++ (y ∷ [])) ys x a.1 (rw append_assoc p))

-- each by its place
module _ {X : Type 0} (P : List X → X → Type 0) (d : X) where
  pub along_place : (done xs : List X) (i : ℕ) → Along P done xs → i < length xs → P (done ++ take i xs) (get_or xs i d)
  along_place done [] i a h = absurd (omega arith)
  along_place done (x ∷ xs) zero a h = rw append-nil a.0
  along_place done (x ∷ xs) (suc i) a h = rw append_assoc at (along_place (done ++ (x ∷ [])) xs i a.1 (omega arith))

  pub along_from_places : (done xs : List X) → ((i : ℕ) → i < length xs → P (done ++ take i xs) (get_or xs i d)) → Along P done xs
  along_from_places done [] f = tt
  along_from_places done (x ∷ xs) f = (
    rw append-nil at (f 0 (omega arith)),
    along_from_places (done ++ (x ∷ [])) xs (λ i h. rw append_assoc (f (suc i) (omega arith))),
  )

-- a cost of each thing and a limit on their sum: each keeps to what those before it leave
module _ {X : Type 0} (cost : X → ℕ) (total : List X → ℕ) (none : total [] ≡ 0) (more : (x : X) (xs : List X) → total (x ∷ xs) ≡ cost x + total xs) where
  pub total_push : (xs : List X) (x : X) → total (xs ++ (x ∷ [])) ≡ total xs + cost x
  total_push [] x = omega (arith, more x [], none)
  total_push (y ∷ ys) x = omega (arith, more y (ys ++ (x ∷ [])), more y ys, total_push ys x)

  module _ (limit : ℕ) where
    abbrev Affords : List X → X → Type 0
    Affords done x = cost x ≤ limit - total done

    pub affords_each : (done xs : List X) → total xs ≤ limit - total done → Along Affords done xs
    affords_each done [] h = tt
    affords_each done (x ∷ xs) h =
        (omega (arith, more x xs), affords_each (done ++ (x ∷ [])) xs (omega (arith, more x xs, total_push done x)))

    pub affords_all : (done xs : List X) → Along Affords done xs → total xs ≤ limit - total done
    affords_all done [] a = omega (arith, none)
    affords_all done (x ∷ xs) a = omega (arith, a.0, affords_all (done ++ (x ∷ [])) xs a.1, more x xs, total_push done x)
