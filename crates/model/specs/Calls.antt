-- The calls on a frame and their answers, and the history of a run.
use Rattle.std.specs.Prelude.{ℕ, List}
use Rattle.fault.specs.declared.kind.Fault.{Fault}
use Rattle.model.specs.Policies.{Rule}

-- a start is handed what its ladder and its policy mean; an end report names a core and a time, a choice a place
-- in the list of exits
pub data Call : Type 0 where
  start : (speeds : List ℕ) (rule : Rule) → Call
  end : (core time : ℕ) → Call
  choose : (place : ℕ) → Call

-- a start answers task, core, level and promise, an end report the task, and a choice the segment entered
pub data Answer : Type 0 where
  started : (task core level promise : ℕ) → Answer
  ended : (task : ℕ) → Answer
  entered : (segment : ℕ) → Answer
  refused : (why : Fault) → Answer

pub record Event : Type 0 where
  pub call : Call
  pub answer : Answer

-- the newest event first
abbrev pub History : Type 0
History = List Event

abbrev pub AcceptedCall : Answer → Type 0
AcceptedCall (started t c l q) = Unit {0}
AcceptedCall (ended t) = Unit {0}
AcceptedCall (entered s) = Unit {0}
AcceptedCall (refused f) = ⊥
