-- Numbers that rise.
use Rattle.std.proofs.Common.{◌≡◌, ℕ, zero, suc, ◌+◌, ◌<◌, ◌≤◌, true, ltb, leb, List, [], ◌∷◌, ◌++◌, length, get_or, sym, refl, subst, arith}
use Rattle.std.proofs.lemmas.Bool.{and_parts, and_from, leb-true, le-leb, ltb-true, lt-ltb}
use Rattle.model.specs.Formed.{rises}
use Rattle.model.specs.Lists.{past, each}

-- from `low` on and below `top`
abbrev pub Rising : ℕ → ℕ → List ℕ → Type 0
Rising low top [] = Unit {0}
Rising low top (x ∷ xs) = (low ≤ x) × (x < top) × Rising (x + 1) top xs

pub past_push : (least : ℕ) (xs : List ℕ) (x : ℕ) → past least (xs ++ (x ∷ [])) ≡ x + 1
past_push least [] x = refl
past_push least (y ∷ ys) x = past_push (y + 1) ys x

-- the test of each, as a fact
module _ (least top : ℕ) where
  pub each_rising : (done ns : List ℕ) → each (rises least top) done ns ≡ true → Rising (past least done) top ns
  each_rising done [] e = tt
  each_rising done (x ∷ xs) e =
      let p = and_parts (rises least top done x) (each (rises least top) (done ++ (x ∷ [])) xs) e in
      let q = and_parts (ltb x top) (leb (past least done) x) p.0 in (
        leb-true (past least done) x q.1,
        ltb-true x top q.0,
        subst (λ (b : ℕ). Rising b top xs) (past_push least done x) (each_rising (done ++ (x ∷ [])) xs p.1),
      )

  pub rising_each : (done ns : List ℕ) → Rising (past least done) top ns → each (rises least top) done ns ≡ true
  rising_each done [] r = refl
  rising_each done (x ∷ xs) r =
      and_from (rises least top done x) (each (rises least top) (done ++ (x ∷ [])) xs)
      (and_from (ltb x top) (leb (past least done) x) (lt-ltb x top r.1) (le-leb (past least done) x r.0))
      (rising_each (done ++ (x ∷ [])) xs (subst (λ (b : ℕ). Rising b top xs) (sym (past_push least done x)) r.2))

-- by their places
module _ (top : ℕ) where
  pub rising_bounds : (low : ℕ) (ns : List ℕ) (i : ℕ) → Rising low top ns → i < length ns → (low ≤ get_or ns i 0) × (get_or ns i 0 < top)
  rising_bounds low [] i r h = absurd (omega arith)
  rising_bounds low (x ∷ xs) zero r h = (r.0, r.1)
  rising_bounds low (x ∷ xs) (suc i) r h = let b = rising_bounds (x + 1) xs i r.2 (omega arith) in (omega (arith, b, r.0), b.1)

  pub rising_rise : (low : ℕ) (ns : List ℕ) (i j : ℕ) → Rising low top ns → i < j → j < length ns → get_or ns i 0 < get_or ns j 0
  rising_rise low [] i j r l h = absurd (omega arith)
  rising_rise low (x ∷ xs) i zero r l h = absurd (omega arith)
  rising_rise low (x ∷ xs) zero (suc j) r l h = omega (arith, rising_bounds (x + 1) xs j r.2 (omega arith))
  rising_rise low (x ∷ xs) (suc i) (suc j) r l h = rising_rise (x + 1) xs i j r.2 (omega arith) (omega arith)

  pub rising_from_places : (low : ℕ) (ns : List ℕ) → ((i : ℕ) → i < length ns → (low ≤ get_or ns i 0) × (get_or ns i 0 < top))
      → ((i j : ℕ) → i < j → j < length ns → get_or ns i 0 < get_or ns j 0) → Rising low top ns
  rising_from_places low [] b r = tt
  rising_from_places low (x ∷ xs) b r = (
    (b 0 (omega arith)).0,
    (b 0 (omega arith)).1,
    rising_from_places (x + 1) xs
        (λ i h. (omega (arith, r 0 (suc i) (omega arith) (omega arith)), (b (suc i) (omega arith)).1))
        (λ i j l h. r (suc i) (suc j) (omega arith) (omega arith)),
  )
