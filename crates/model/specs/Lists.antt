-- Words on lists that the other definitions share.
use Rattle.std.specs.Prelude.{◌≡◌, ℕ, ◌+◌, Bool, true, false, ◌&&◌, ◌||◌, ◌⊎◌, List, [], ◌∷◌, ◌++◌, ◌==◌}

abbrev pub has : List ℕ → ℕ → Bool
has [] x = false
has (y ∷ ys) x = x == y || has ys x

-- every number of one list stands in another
abbrev pub all_in : List ℕ → List ℕ → Bool
all_in [] ys = true
all_in (x ∷ xs) ys = has ys x && all_in xs ys

-- it stands in the list
abbrev pub In : {X : Type 0} → X → List X → Type 0
In x [] = ⊥
In x (y ∷ ys) = (x ≡ y) ⊎ In x ys

-- no two of them are equal
abbrev pub Apart : {X : Type 0} → List X → Type 0
Apart [] = Unit {0}
Apart (x ∷ xs) = (In x xs → ⊥) × Apart xs

-- one past the last number of a rising list, or `least` where it is empty: the lowest number that may follow
abbrev pub past : ℕ → List ℕ → ℕ
past least [] = least
past least (x ∷ xs) = past (x + 1) xs

-- every element of a list passes a test that is told the elements before it; `done` stand before the list
abbrev pub each : {X : Type 0} → (List X → X → Bool) → List X → List X → Bool
each ok done [] = true
each ok done (x ∷ xs) = ok done x && each ok (done ++ (x ∷ [])) xs
