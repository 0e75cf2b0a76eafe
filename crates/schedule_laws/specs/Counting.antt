-- Counting in lists.
use Rattle.std.specs.Prelude.{ℕ, ◌+◌, Bool, cond, not, List, [], ◌∷◌, ◌==◌}
use Rattle.model.specs.Lists.{has}

abbrev pub one : Bool → ℕ
one b = cond b 1 0

-- how many of a list have the number k
abbrev pub times : {X : Type 0} → (X → ℕ) → ℕ → List X → ℕ
times f k [] = 0
times f k (x ∷ xs) = one (f x == k) + times f k xs

-- how many of some tasks have not ended
abbrev pub missing : List ℕ → List ℕ → ℕ
missing ended [] = 0
missing ended (t ∷ ts) = one (not (has ended t)) + missing ended ts
