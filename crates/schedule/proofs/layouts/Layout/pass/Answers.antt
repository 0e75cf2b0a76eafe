use Rattle.std.proofs.Common.{◌∷◌, vec_items, sym, refl, ap, ◌∙◌, subst}
use Rattle.graph.specs.Meaning.{segment_of}
use Rattle.model.specs.Canonical.{Progress}
use Rattle.queue.specs.Held.{held}
use Rattle.schedule_laws.proofs.Events.{pass_none}
use Rattle.schedule_laws.proofs.Passing.{pass_begins}
use Rattle.schedule_laws.specs.Passing.{Passing, time_passed}
use Rattle.schedule_laws.specs.Standing.{Standing}
use Rattle.schedule.specs.Stands.{Stands, StandsWith}
use Rattle.schedule.proofs.layouts.Layout.pass.Goals as goal
use Rattle.schedule.proofs.layouts.Layout.pass.Goals.{In-Some}

-- the earliest entry is in front of those that are left
begun : (c : goal.In-Some) (p : Progress) → Stands p c.args.self.now → Passing c.args.self.now.cores (segment_of c.args.self.now.segment.now) p c.in-Some.earliest.end p.ended (held c.args.self.now.ready) (c.in-Some.earliest ∷ held c.take.new.self) (vec_items c.args.self.now.waiting) c.args.self.now.taken
begun c p h =
    let l = c.args.self.now in
    let took = c.in-Some.ensures.cases in
    pass_begins l.cores (segment_of l.segment.now) p (held l.ready) (vec_items l.waiting) l.taken (held l.running) (held c.take.new.self) c.in-Some.earliest h.standing took.holds took.first

pub end-requires-clause-passes : goal.end-requires-clause-passes
end-requires-clause-passes c =
    let w = c.requires in
    (w.0, w.0.ended, record { starts = w.1.starts; passing = begun (goal.at.end-requires-clause-passes c).In-Some w.0 w.1 })

pub end_due-requires : goal.end_due-requires
end_due-requires c =
    let w = c.requires in
    (w.0, c.in-Some.earliest.task ∷ w.0.ended, c.end.ensures.passes w.0 w.0.ended (record { starts = w.1.starts; passing = begun (goal.at.end_due-requires c).In-Some w.0 w.1 }))

pub returns : goal.returns
returns c =
    let ended = c.end.ensures in
    let due = c.end_due.ensures in record {
      same = record { cores = due.same.cores ∙ ended.same.cores; segment = due.same.segment ∙ ended.same.segment };
      stands = λ p h.
          subst (λ s. Stands (time_passed s p) c.end_due.new.self) (ap (λ x. segment_of x.now) ended.same.segment)
          (due.stands p (c.in-Some.earliest.task ∷ p.ended) (ended.passes p p.ended (record { starts = h.starts; passing = begun (goal.at.returns c).In-Some p h })));
    }

pub returns-in_default : goal.returns-in_default
returns-in_default c =
    let l = c.args.self.now in
    let s = segment_of l.segment.now in
    let none = c.in_default.ensures.cases in record {
      same = record { cores = refl; segment = refl };
      stands = λ p h.
          let still = pass_none l.cores s p (held l.ready) (vec_items l.waiting) l.taken (subst (λ us. Standing l.cores s p (held l.ready) us (vec_items l.waiting) l.taken) none.0.holds h.standing) in
          let on = subst (λ u. StandsWith (time_passed s p) (held l.ready) (held u) l) (sym none.1) (subst (λ q. Stands q l) (sym still) h) in
          record { moment = on.moment; starts = on.starts; standing = on.standing };
    }
