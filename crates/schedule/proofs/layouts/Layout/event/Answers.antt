use Rattle.std.proofs.Common.{◌≡◌, false, ◌∷◌, vec_items, sym, ap, ◌∙◌, subst, arith}
use Rattle.std.proofs.ByRecursion.{all_shuffled}
use Rattle.graph.specs.Meaning.{segment_of}
use Rattle.model.specs.Canonical.{Progress, next}
use Rattle.queue.specs.Held.{held}
use Rattle.queue.specs.Orders.{ready_before}
use Rattle.queue.specs.declared.kinds.Ready.{Ready}
use Rattle.schedule_laws.proofs.Entries.{ready_moved}
use Rattle.schedule_laws.proofs.Events.{next_full, next_none, next_start}
use Rattle.schedule_laws.specs.Passing.{time_passed}
use Rattle.schedule_laws.specs.Standing.{Standing}
use Rattle.schedule.specs.Stands.{SameWork, Stands, StandsWith, Moves, Begun}
use Rattle.schedule.specs.declared.layouts.Layout.{Layout}
use Rattle.schedule.proofs.Free.{free_some, free_none}
use Rattle.schedule.proofs.Unless.{unless_weaker}
use Rattle.schedule.proofs.layouts.Layout.event.Goals as goal
use Rattle.schedule.proofs.layouts.Layout.event.Goals.{in-Some+in_default-take, in_default, In-Some-take}

-- the entry that was taken is in front of those that are left
fronted : (c : goal.In-Some-take) (p : Progress) → Stands p c.args.self.now → StandsWith p (c.in-Some-take.first ∷ held c.take.new.self) (held c.args.self.now.running) c.args.self.now
fronted c p h =
    let l = c.args.self.now in record {
      moment = h.moment;
      starts = h.starts;
      standing = ready_moved l.cores (segment_of l.segment.now) p (held l.ready) (held l.running) (vec_items l.waiting) l.taken h.standing (c.in-Some-take.first ∷ held c.take.new.self) c.in-Some-take.ensures.cases.holds;
    }

pub start-requires-clause-free : goal.start-requires-clause-free
start-requires-clause-free c =
    let l = c.args.self.now in
    let free = free_some l.taken l.cores c.in-Some.core c.in-Some.ensures in
    (free.0, free.1)

pub start-requires-clause-stands : goal.start-requires-clause-stands
start-requires-clause-stands c =
    let w = c.requires in
    let r = fronted (goal.at.start-requires-clause-stands c).In-Some-take w.0 w.1 in
    (w.0, record { moment = r.moment; starts = r.starts; standing = r.standing })

pub returns-in-Some-take : goal.returns-in-Some-take
returns-in-Some-take c =
    let l = c.args.self.now in
    let s = segment_of l.segment.now in
    let e = c.in-Some-take.first in
    let R = held c.take.new.self in
    let took = c.in-Some-take.ensures.cases in
    let free = free_some l.taken l.cores c.in-Some.core c.in-Some.ensures in
    let first = all_shuffled (λ (y : Ready). ready_before y e ≡ false) (held l.ready) (e ∷ R) took.holds took.first in
    unless_weaker c.start.result (λ _. Begun e c.in-Some.core _ c.start.new.self) (λ _. Moves next l c.start.new.self)
    (λ _ done. record {
      same = record { cores = done.same.cores; segment = done.same.segment };
      stands = λ p h.
          let r = fronted (goal.at.returns-in-Some-take c).In-Some-take p h in
          let is = next_start l.cores s p R (held l.running) (vec_items l.waiting) l.taken e r.standing first c.in-Some.core free.0 free.1 free.2 in
          subst (λ q. Stands q c.start.new.self) (sym is) (done.stands p (record { moment = r.moment; starts = r.starts; standing = r.standing }));
    })
    c.start.ensures

-- where the next event is that time passes
passes_next : (l m l' : Layout) → SameWork l m → ((p : Progress) → Stands p l → Stands p m × (next l.cores (segment_of l.segment.now) p ≡ time_passed (segment_of l.segment.now) p)) → Moves (λ _. time_passed) m l' → Moves next l l'
passes_next l m l' same is passed = record {
  same = record { cores = passed.same.cores ∙ same.cores; segment = passed.same.segment ∙ same.segment };
  stands = λ p h.
      let r = is p h in
      subst (λ q. Stands q l') (sym r.1) (subst (λ s. Stands (time_passed s p) l') (ap (λ x. segment_of x.now) same.segment) (passed.stands p r.0));
}

pub returns : goal.returns
returns c =
    let l = c.args.self.now in
    let s = segment_of l.segment.now in
    let U = held l.running in
    let W = vec_items l.waiting in
    let m = c.match-free_core.self in
    elim c.match-free_core.branch [
      | in-Some+in_default-take w ↦
          let none = w.in_default-take.ensures.cases in
          passes_next l m c.pass.new.self (record { cores = ap (λ (x : Layout). x.cores) w.self-is; segment = ap (λ (x : Layout). x.segment) w.self-is }) (λ p h. (
            subst (λ (x : Layout). Stands p x) (sym w.self-is) (record {
              moment = h.moment;
              starts = h.starts;
              standing = subst (λ q. Standing l.cores s p (held q) U W l.taken) (sym none.1) h.standing;
            }),
            next_none l.cores s p U W l.taken (subst (λ rs. Standing l.cores s p rs U W l.taken) none.0.holds h.standing),
          )) c.pass.ensures
      | in_default w ↦
          passes_next l m c.pass.new.self (record { cores = ap (λ (x : Layout). x.cores) w.self-is; segment = ap (λ (x : Layout). x.segment) w.self-is }) (λ p h. (
            subst (λ (x : Layout). Stands p x) (sym w.self-is) h,
            next_full l.cores s p (held l.ready) U W l.taken h.standing (free_none l.taken l.cores (omega (arith, h.standing.cores_known, l.bounded.few_cores)) w.in_default.ensures),
          )) c.pass.ensures
    ]
