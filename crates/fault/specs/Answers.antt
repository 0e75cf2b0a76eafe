-- What an answer of a call that takes memory says, in the words of a model that has memory enough.
use Rattle.std.specs.Prelude.{◌≡◌, Ok, Err, Result}
use Rattle.fault.specs.declared.error.Error.{Error}
use Rattle.fault.specs.declared.error.Error.TheVariants.{Refused, OutOfMemory}
use Rattle.fault.specs.declared.kind.Fault.{Fault}

-- the model refuses with the same fault, unless memory lacked
abbrev pub Fails : {Y : Type 0} → Error → Result Y Fault → Type 0
Fails (Refused f) m = m ≡ Err f
Fails OutOfMemory m = Unit {0}

-- the answer is the model's, by what it means, unless memory lacked
abbrev pub Answers : {X Y : Type 0} → (X → Y) → Result X Error → Result Y Fault → Type 0
Answers meaning (Ok x) m = m ≡ Ok (meaning x)
Answers meaning (Err e) m = Fails e m

-- what holds of the fault, where there is one
abbrev pub Refuses : {X : Type 0} → Result X Error → (Fault → Type 0) → Type 0
Refuses (Ok x) P = Unit {0}
Refuses (Err (Refused f)) P = P f
Refuses (Err OutOfMemory) P = Unit {0}

-- what holds of a value, where there is one; the only other answer is that memory lacked
abbrev pub UnlessMemoryLacks : {X : Type 0} → Result X Error → (X → Type 0) → Type 0
UnlessMemoryLacks (Ok x) P = P x
UnlessMemoryLacks (Err e) P = e ≡ OutOfMemory

-- what holds where the call has not done its work
abbrev pub WhereUndone : {X : Type 0} → Result X Error → Type 0 → Type 0
WhereUndone (Ok x) P = Unit {0}
WhereUndone (Err e) P = P
