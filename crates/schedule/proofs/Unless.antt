-- An answer that only want of memory keeps back.
use Rattle.std.proofs.Common.{Ok, Err, Result}
use Rattle.fault.specs.declared.error.Error.{Error}
use Rattle.fault.specs.Answers.{UnlessMemoryLacks}

pub unless_weaker : {X : Type 0} (r : Result X Error) (P Q : X → Type 0) → ((x : X) → P x → Q x) → UnlessMemoryLacks r P → UnlessMemoryLacks r Q
unless_weaker (Ok x) P Q f h = f x h
unless_weaker (Err e) P Q f h = h
