use Rattle.std.proofs.Common.{◌≡◌, ◌-◌, map}
use Rattle.model.specs.Graph.{Graph}
use Rattle.model.specs.Reading.{entries}
use Rattle.graph.specs.Meaning.{segment_of}
use Rattle.reader.proofs.entries.entries.Given as goal

-- every segment so far is an exit
abbrev pub invariant-loop-number : goal.invariant-loop-number
invariant-loop-number l = (g : Graph) → g.segments ≡ map segment_of l.segments → entries g 1 (l.many - 1) ≡ entries g l.number (l.many - l.number)
