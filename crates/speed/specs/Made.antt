-- The answer of a maker, in the words of the model.
use Rattle.std.specs.Prelude.{ℕ, List, Result}
use Rattle.std.specs.Result.{result_map_both}
use Rattle.fault.specs.declared.kind.Fault.{Fault}

-- the speeds that what was made means, or the fault
abbrev pub meant : {X : Type 0} → (X → List ℕ) → Result X Fault → Result (List ℕ) Fault
meant meaning r = result_map_both meaning (λ f. f) r
