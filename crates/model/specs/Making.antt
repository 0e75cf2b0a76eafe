-- Making a ladder from the speeds that are asked for.
use Rattle.std.specs.Prelude.{ℕ, suc, ◌+◌, ◌*◌, cond, ◌&&◌, List, [], ◌∷◌, map, length, Ok, Err, Result, nat_le, nat_lt}
use Rattle.std.specs.List.{range_with_len}
use Rattle.fault.specs.Card.{fault}
use Rattle.fault.specs.declared.kind.Fault.{Fault}
use Rattle.fault.specs.declared.kind.Kind.TheVariants.{LadderForm}
use Rattle.model.specs.Formed.{within}
use Rattle.model.specs.Limits.{most_speed}

-- goes on with x where each level from i on rises, the first above the speed `before`, and is in range
abbrev pub rising : {X : Type 0} → ℕ → ℕ → List ℕ → X → Result X Fault
rising i before [] x = Ok x
rising i before (s ∷ ss) x = cond (nat_lt before s && nat_le s most_speed) (rising (suc i) s ss x) (Err (fault LadderForm (suc i)))

-- the speeds of a ladder of a kind that has at most so many levels, or why they are refused: 0 for the count,
-- else the first level whose speed is out of range or not above the one before, and one
abbrev pub making : ℕ → List ℕ → Result (List ℕ) Fault
making most speeds = cond (within 1 most (length speeds)) (rising 0 0 speeds speeds) (Err (fault LadderForm 0))

-- speeds in even steps
abbrev pub even_speeds : ℕ → ℕ → ℕ → List ℕ
even_speeds lowest step count = map (λ i. lowest + i * step) (range_with_len 0 count)
