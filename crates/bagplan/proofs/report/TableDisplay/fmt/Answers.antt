use Rattle.std.proofs.Common.{map, ap, ◌∙◌, take_all, rules}
use Rattle.std.proofs.Output.{has_written_append, has_written_of_eq}
use Rattle.graph.specs.Meaning.{task_of, segment_of}
use Rattle.bagplan.specs.Table.{row_text, rows_text}
use Rattle.bagplan.proofs.Numbered.{text_more}
use Rattle.bagplan.proofs.report.TableDisplay.fmt.Goals as goal

pub loop-t-preserved : goal.loop-t-preserved
loop-t-preserved g c = λ plain.
    has_written_of_eq _ _ _ _ _
    (text_more task_of (λ task. row_text c.loop-s.s-counter task.0 task.1) c.deref-task-items.result.now c.loop-t.t-counter c.task-item.result c.loop-t-test.true c.task-item.is)
    (has_written_append _ _ _ _ _ _ (c.loop-t.invariant plain) (search rules))

pub loop-s-preserved : goal.loop-s-preserved
loop-s-preserved g c = λ plain.
    let so_far = c.loop-s.invariant plain in
    let items = c.deref-task-items.result.now in
    let rows =
    has_written_of_eq _ _ _ _ _
    (ap (λ ts. rows_text c.loop-s.s-counter (map task_of ts)) (take_all c.loop-t.t-counter items c.loop-t-test.false ∙ c.deref-task-items.ensures.value))
    (c.loop-t.invariant so_far.plain) in
    has_written_of_eq _ _ _ _ _
    (text_more segment_of (λ segment. rows_text segment.0 segment.1.tasks) c.deref-segment-items.result.now c.loop-s.s-counter c.segment-item.result c.loop-s-test.true c.segment-item.is)
    (has_written_append _ _ _ _ _ _ so_far rows)
