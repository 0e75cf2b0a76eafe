-- What the recorder is told of a plan.
use Rattle.std.specs.Prelude.{◌≡◌, ℕ, ◌⊎◌, Ok, Err, Result}
use Rattle.fault.specs.Card.{number}
use Rattle.fault.specs.declared.error.Error.{Error}
use Rattle.fault.specs.declared.error.Error.TheVariants.{Refused, OutOfMemory}
use Rattle.fault.specs.declared.kind.Fault.{Fault}
use Rattle.model.specs.Graph.{Graph}

-- no number of the card
abbrev pub no_memory : ℕ
no_memory = 255

-- 0, or the number of the refusal
abbrev pub verdict : {X : Type 0} → Result X Fault → ℕ
verdict (Ok x) = 0
verdict (Err f) = number f.kind

-- the same, or that memory lacked
abbrev pub told : {X : Type 0} → Result X Error → ℕ
told (Ok x) = 0
told (Err (Refused f)) = number f.kind
told (Err OutOfMemory) = no_memory

-- the verdict, unless memory lacked
abbrev pub Judged : ℕ → Result Graph Fault → Type 0
Judged r reading = (r ≡ verdict reading) ⊎ (r ≡ no_memory)
