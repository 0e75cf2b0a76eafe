use Rattle.std.proofs.Common.{map, take}
use Rattle.std.specs.Fmt.{HasWritten, IsPlainFormatter}
use Rattle.graph.specs.Meaning.{task_of, segment_of}
use Rattle.bagplan.specs.Table.{rows_text, segments_text}
use Rattle.bagplan.proofs.report.TableDisplay.fmt.Given as goal

-- the rows of the tasks so far are written
abbrev pub invariant-loop-t : goal.invariant-loop-t
invariant-loop-t g l =
    IsPlainFormatter l.initial.f → HasWritten g.W.Write.write_str_gives l.initial.f (rows_text l.s (map task_of (take l.t-counter l.task-items))) l.f

-- those of the segments so far are written
abbrev pub invariant-loop-s : goal.invariant-loop-s
invariant-loop-s g l =
    IsPlainFormatter l.initial.f → HasWritten g.W.Write.write_str_gives l.initial.f (segments_text (map segment_of (take l.s-counter l.segment-items))) l.f
