-- The name that is shown of a task.
use Rattle.std.specs.Prelude.{ℕ, cond, ◌&&◌, List, [], ◌∷◌, length, Some, None, Option, nat_lt}
use Rattle.model.specs.Graph.{Graph}
use Rattle.model.specs.Places.{count, tasks_of, task_of}

-- a name, or the stand-in where it is empty
abbrev pub named : List ℕ → List ℕ → List ℕ
named [] stand_in = stand_in
named (b ∷ bs) stand_in = b ∷ bs

-- of a task of the plan; there is none outside it
abbrev pub shown_name : Graph → ℕ → ℕ → List ℕ → Option (List ℕ)
shown_name g s t stand_in =
    cond (nat_lt s (count g) && nat_lt t (length (tasks_of g s))) (Some (named (task_of g s t).name stand_in)) None
