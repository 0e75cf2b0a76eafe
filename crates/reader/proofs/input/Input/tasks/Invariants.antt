use Rattle.std.proofs.Common.{◌≡◌, ◌-◌, map, vec_items, vec_len}
use Rattle.model.specs.Graph.{predecessors_of}
use Rattle.model.specs.Reading.{next_task}
use Rattle.graph.specs.Meaning.{task_of}
use Rattle.reader.proofs.Several.{Underway}
use Rattle.reader.proofs.input.Input.tasks.Given as goal

abbrev pub invariant-loop-own : goal.invariant-loop-own
invariant-loop-own l =
    Underway (λ k. next_task k l.left) l.many l.initial.self l.own (map task_of (vec_items l.tasks)) l.self
    × (l.allowed ≡ l.left - predecessors_of (map task_of (vec_items l.tasks)))
    × (vec_len l.tasks ≡ l.own)
