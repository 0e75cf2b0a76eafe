use Rattle.std.proofs.Common.{◌≡◌, ◌<◌, length, get_or, sym, ap, ◌∙◌, subst, arith}
use Rattle.model.specs.Graph.{Task}
use Rattle.model.specs.Lists.{In}
use Rattle.model.specs.Places.{task}
use Rattle.graph.specs.Meaning.{segment_of}
use Rattle.schedule_laws.proofs.Following.{following_more}
use Rattle.schedule_laws.specs.Following.{Followed}
use Rattle.schedule.specs.Vecs.{lists}
use Rattle.schedule.proofs.Reading.{length-lists, length-tasks, read_task}
use Rattle.schedule.proofs.followers.followers.Goals as goal
use Rattle.schedule.proofs.followers.followers.Goals.{After-deref}

-- the task that is read, and its predecessors
reads : (c : goal.After-deref) → (c.loop-number.number < length (segment_of c.args.segment.now).tasks) × ((task (segment_of c.args.segment.now) c.loop-number.number).predecessors ≡ c.deref.result.now)
reads c =
    let s = c.args.segment.now in
    let i = c.loop-number.number in
    let x = c.task-item.result in
    let value = c.deref-task-items.ensures.value in
    let inside : i < length (segment_of s).tasks = omega (arith, c.loop-number-test.true, ap length value, length-tasks s, s.tasks.ok.0) in
    (inside, ap (λ (t : Task). t.predecessors) (read_task s i x (omega (arith, inside, length-tasks s)) (c.task-item.is ∙ ap (λ l. get_or l i x) value)) ∙ sym c.deref.ensures.value)

pub follow-requires : goal.follow-requires
follow-requires c p i =
    let s = segment_of c.args.segment.now in
    let r = reads (goal.at.follow-requires c).After-deref in
    omega (arith, c.requires.1.inside c.loop-number.number p r.0 (subst (λ l. In p l) (sym r.1) i), c.loop-number.invariant.long, length-lists c.loop-number.followers)

pub loop-number-preserved : goal.loop-number-preserved
loop-number-preserved c =
    let s = segment_of c.args.segment.now in
    let i = c.loop-number.number in
    let r = reads (goal.at.loop-number-preserved c).After-deref in
    following_more s i (lists c.loop-number.followers) (lists c.follow.new.followers) (c.requires.1.apart i r.0)
    (subst (λ ps. Followed i ps (lists c.loop-number.followers) (lists c.follow.new.followers)) (sym r.1) c.in_ok-follow.ensures)
    c.loop-number.invariant
