use Rattle.std.proofs.Common.{◌≡◌, ℕ, false, List, ◌∷◌, vec_items, sym, ap, ◌∙◌, subst}
use Rattle.std.proofs.ByRecursion.{all_shuffled}
use Rattle.graph.specs.Meaning.{segment_of}
use Rattle.model.specs.Canonical.{Progress}
use Rattle.model.specs.Lists.{In}
use Rattle.queue.specs.Held.{held}
use Rattle.queue.specs.Orders.{running_before}
use Rattle.queue.specs.declared.kinds.Running.{Running}
use Rattle.schedule_laws.proofs.Entries.{running_moved}
use Rattle.schedule_laws.proofs.Passing.{pass_moved, pass_all, pass_over}
use Rattle.schedule_laws.specs.Passing.{time_passed}
use Rattle.schedule_laws.specs.Standing.{Standing}
use Rattle.schedule.specs.Stands.{Passes}
use Rattle.schedule.proofs.Due.{passed_on}
use Rattle.schedule.proofs.layouts.Layout.end_due.Goals as goal
use Rattle.schedule.proofs.layouts.Layout.end_due.Goals.{In-Some}

-- with the entry that was taken in front of those that are left
taken_out : (c : goal.In-Some) (p : Progress) (over : List ℕ) → Passes p over (held c.args.self.now.running) c.args.self.now → (more : List ℕ) × Passes p more (c.in-Some.next ∷ held c.take.new.self) c.loop-next.self
taken_out c p over h =
    let l = c.loop-next.self in
    let r = c.loop-next.invariant.1 p over h in (
      r.0,
      record {
        starts = r.1.starts;
        passing = pass_moved l.cores (segment_of l.segment.now) p l.moment r.0 (held l.ready) (held l.running) (vec_items l.waiting) l.taken (c.in-Some.next ∷ held c.take.new.self) c.in-Some.ensures.cases.holds r.1.passing;
      },
    )

pub end-requires-clause-passes : goal.end-requires-clause-passes
end-requires-clause-passes c =
    let w = c.requires in
    let r = taken_out (goal.at.end-requires-clause-passes c).In-Some w.0 w.1 w.2 in
    (w.0, r.0, record { starts = r.1.starts; passing = r.1.passing })

pub loop-next-preserved : goal.loop-next-preserved
loop-next-preserved c =
    let same = c.end.ensures.same in
    let was = c.loop-next.invariant.0 in (
      record { cores = same.cores ∙ was.cores; segment = same.segment ∙ was.segment },
      (λ p over h.
          let r = taken_out (goal.at.loop-next-preserved c).In-Some p over h in
          (c.in-Some.next.task ∷ r.0, c.end.ensures.passes p r.0 (record { starts = r.1.starts; passing = r.1.passing }))),
    )

pub returns-clause-stands : goal.returns-clause-stands
returns-clause-stands c p over h =
    let l = c.loop-next.self in
    let s = segment_of l.segment.now in
    let none = c.in_default.ensures.cases in
    let r = c.loop-next.invariant.1 p over h in
    let all = pass_all l.cores s p l.moment r.0 (held l.ready) (held l.running) (vec_items l.waiting) l.taken r.1.passing (λ u i q. subst (λ us. In u us) none.0.holds i) in
    let on = passed_on l p r.0 (held l.running) r.1 (held c.take.new.self) (subst (λ q. Standing l.cores s (time_passed s p) (held l.ready) (held q) (vec_items l.waiting) l.taken) (sym none.1) all) (segment_of c.args.self.now.segment.now) (ap (λ x. segment_of x.now) c.loop-next.invariant.0.segment) in
    record { moment = on.moment; starts = on.starts; standing = on.standing }

pub returns-then-next-self-clause-stands : goal.returns-then-next-self-clause-stands
returns-then-next-self-clause-stands c p over h =
    let l = c.loop-next.self in
    let s = segment_of l.segment.now in
    let took = c.in-Some.ensures.cases in
    let e = c.in-Some.next in
    let U = held c.take.new.self in
    let r = taken_out (goal.at.returns-then-next-self-clause-stands c).In-Some p over h in
    let first = all_shuffled (λ (x : Running). running_before x e ≡ false) (held l.running) (e ∷ U) took.holds took.first in
    let left = pass_over l.cores s p l.moment r.0 (held l.ready) U (vec_items l.waiting) l.taken e r.1.passing c.if-next-self.true first in
    let on = passed_on l p r.0 (e ∷ U) r.1 (held c.put.new.queue) (running_moved l.cores s (time_passed s p) (held l.ready) (e ∷ U) (vec_items l.waiting) l.taken left (held c.put.new.queue) c.put.ensures.holds) (segment_of c.args.self.now.segment.now) (ap (λ x. segment_of x.now) c.loop-next.invariant.0.segment) in
    record { moment = on.moment; starts = on.starts; standing = on.standing }
