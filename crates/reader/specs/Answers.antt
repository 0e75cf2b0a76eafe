-- What an answer says of the bytes that are left, in the words of the model.
use Rattle.std.specs.Prelude.{◌≡◌, ℕ, List, Ok, Err, Result}
use Rattle.fault.specs.Answers.{Answers}
use Rattle.fault.specs.declared.error.Error.{Error}
use Rattle.fault.specs.declared.kind.Fault.{Fault}
use Rattle.model.specs.Bytes.{Read}
use Rattle.reader.specs.declared.input.Input.{Input}

-- what was read, and the bytes that are left after it
abbrev pub leaving : {X : Type 0} → Result X Fault → Input → Read X
leaving (Ok x) input = Ok (x, input.rest.now)
leaving (Err f) input = Err f

-- the input goes on in the same run, as the model reads from the bytes that were left
pub record Takes {X : Type 0} (read : List ℕ → Read X) (before : Input) (r : Result X Fault) (after : Input) : Type 0 where
  pub same_run : after.count ≡ before.count
  pub answer : leaving r after ≡ read before.rest.now

-- the same by what the answer means, unless memory lacked
pub record Reads {X Y : Type 0} (meaning : X → Y) (read : List ℕ → Read Y) (before : Input) (r : Result X Error) (after : Input) : Type 0 where
  pub same_run : after.count ≡ before.count
  pub answer : Answers (λ x. (meaning x, after.rest.now)) r (read before.rest.now)

-- goes on with y where a test has passed
abbrev pub passing : {X Y : Type 0} → Result X Fault → Y → Result Y Fault
passing (Ok x) y = Ok y
passing (Err f) y = Err f
