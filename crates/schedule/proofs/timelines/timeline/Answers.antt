use Rattle.std.proofs.Common.{◌≡◌, suc, ◌+◌, ap, ◌∙◌, subst, arith}
use Rattle.graph.specs.Meaning.{segment_of}
use Rattle.model.specs.Canonical.{after, next}
use Rattle.schedule.specs.Stands.{Stands}
use Rattle.schedule.proofs.timelines.timeline.Goals as goal

pub loop-event-preserved : goal.loop-event-preserved
loop-event-preserved c =
    let n = c.args.cores in
    let s = segment_of c.args.segment.now in
    let l = c.loop-event.layout in
    let l' = c.event.new.self in
    let k = c.loop-event._event in
    let was = c.loop-event.invariant in
    let done = c.in_ok-event.ensures in
    let one : suc k ≡ k + 1 = omega arith in (
      done.same.cores ∙ was.0,
      ap (λ x. x.now) done.same.segment ∙ was.1,
      subst (λ j. Stands (after n s j) l') one
          (subst (λ m. Stands (next m s (after n s k)) l') was.0
          (subst (λ g. Stands (next l.cores (segment_of g) (after n s k)) l') was.1 (done.stands (after n s k) was.2))),
    )
