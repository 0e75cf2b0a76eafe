-- What a reader's answer says, in the words of the model.
use Rattle.std.specs.Prelude.{ℕ, List, Ok, Err, Result}
use Rattle.std.specs.Borrow.{Bor}
use Rattle.fault.specs.declared.kind.Fault.{Fault}
use Rattle.model.specs.Bytes.{Read}

-- the bytes that are left, in the place of the reference to them
abbrev pub told : {X : Type 0} → Result (X × Bor (List ℕ)) Fault → Read X
told (Ok x) = Ok (x.0, x.1.now)
told (Err f) = Err f
