-- Items laid over a run.
use Rattle.std.specs.Prelude.{◌≡◌, ℕ, ◌+◌, List, [], ◌∷◌, length, slice_set}

-- the run with the items over it from a place on, as far as it reaches
abbrev pub over : {X : Type 0} → ℕ → List X → List X → List X
over at [] run = run
over at (x ∷ xs) run = over (at + 1) xs (slice_set run at x)

-- a writer laid the items over a run from a place on, and ended after them
pub record Laid {X : Type 0} (xs : List X) (at : ℕ) (run : List X) (end : ℕ) (after : List X) : Type 0 where
  pub laid : after ≡ over at xs run
  pub ended : end ≡ at + length xs
