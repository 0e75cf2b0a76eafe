use Rattle.std.proofs.Common.{◌≡◌, ◌+◌, [], ◌∷◌, ◌++◌, length, get_or, vec_items, sym, ap, ◌∙◌, subst, arith}
use Rattle.model.specs.Graph.{Task}
use Rattle.model.specs.Places.{task}
use Rattle.graph.specs.Meaning.{segment_of}
use Rattle.queue.specs.Held.{held, cells_of}
use Rattle.schedule_laws.proofs.Beginning.{begun_few, begins_later, begins_now}
use Rattle.schedule_laws.specs.Beginning.{Beginning}
use Rattle.schedule.proofs.Reading.{read_task, held_count}
use Rattle.schedule.proofs.begins.begin.Goals as goal
use Rattle.schedule.proofs.begins.begin.Goals.{then-count-eq0, else-count-eq0, After-len-count}

pub put-requires : goal.put-requires
put-requires c =
    let l = c.loop-number in
    omega (arith, begun_few (segment_of c.args.segment.now) l.number (held l.ready) (vec_items l.waiting) l.invariant.1, held_count l.ready, l.invariant.0, c.requires.room, c.loop-number-test.true, c.deref-task-items.ensures.len)

-- the task that is read
reads : (c : goal.After-len-count) → ((task (segment_of c.args.segment.now) c.loop-number.number).worst ≡ c.task-item.result.worst) × (c.len-count.result ≡ length (task (segment_of c.args.segment.now) c.loop-number.number).predecessors)
reads c =
    let s = c.args.segment.now in
    let i = c.loop-number.number in
    let x = c.task-item.result in
    let value = c.deref-task-items.ensures.value in
    let is = read_task s i x (omega (arith, c.loop-number-test.true, c.deref-task-items.ensures.len)) (c.task-item.is ∙ ap (λ l. get_or l i x) value) in
    (ap (λ (t : Task). t.worst) is, c.len-count.ensures ∙ x.predecessors.ok.0 ∙ sym (ap (λ (t : Task). length t.predecessors) is))

pub loop-number-preserved : goal.loop-number-preserved
loop-number-preserved c =
    let l = c.loop-number in
    let s = segment_of c.args.segment.now in
    let i = l.number in
    let W = vec_items l.waiting in
    let R = held l.ready in
    let n = c.len-count.result in
    let r = reads (goal.at.loop-number-preserved c).After-len-count in
    let pushed : W ++ (n ∷ []) ≡ vec_items c.push.new.self = sym c.in_ok-push.ensures.items in
    elim c.if-count-eq0.branch [
      | then-count-eq0 w ↦
          let put = w.put.ensures in (
            ap (λ q. length (cells_of q)) w.ready-is ∙ put.room ∙ l.invariant.0,
            subst (λ q. Beginning s (i + 1) (held q) (vec_items c.push.new.self)) (sym w.ready-is)
                (subst (λ v. Beginning s (i + 1) (held w.put.new.queue) v) pushed
                (begins_now s i R W l.invariant.1 n (held w.put.new.queue) c.task-item.result.worst r.1 w.if-count-eq0.true (sym r.0) put.holds)),
          )
      | else-count-eq0 w ↦ (
        ap (λ q. length (cells_of q)) w.ready-is ∙ l.invariant.0,
        subst (λ q. Beginning s (i + 1) (held q) (vec_items c.push.new.self)) (sym w.ready-is)
            (subst (λ v. Beginning s (i + 1) R v) pushed
            (begins_later s i R W l.invariant.1 n r.1 w.if-count-eq0.false)),
      )
    ]
