use Rattle.std.proofs.Common.{◌≡◌, [], get_or, vec_items, sym, ◌∙◌, subst}
use Rattle.graph.specs.Meaning.{segment_of}
use Rattle.queue.specs.Held.{held}
use Rattle.schedule_laws.proofs.Passing.{pass_ended}
use Rattle.schedule_laws.specs.Passing.{passed}
use Rattle.schedule_laws.specs.Released.{Released}
use Rattle.schedule.specs.Vecs.{lists}
use Rattle.schedule.proofs.Due.{known, has_followers, follows, waits, cells}
use Rattle.schedule.proofs.Reading.{read_list}
use Rattle.schedule.proofs.layouts.Layout.end.Goals as goal
use Rattle.schedule.proofs.layouts.Layout.end.Goals.{After-deref}

pub bounds-self-ended : goal.bounds-self-ended
bounds-self-ended c =
    let l = c.args.self.now in
    let w = c.requires.passes in
    known l (passed w.0 l.moment w.1) c.args.ended (held l.running) w.2.passing.standing

pub index-requires : goal.index-requires
index-requires c =
    let l = c.args.self.now in
    let w = c.requires.passes in
    has_followers l (passed w.0 l.moment w.1) c.args.ended (held l.running) w.2.passing.standing

-- the followers that are read
reads : (c : goal.After-deref) → get_or (lists c.args.self.now.followers) c.args.ended.task [] ≡ c.deref.result.now
reads c =
    let l = c.args.self.now in
    let w = c.requires.passes in
    read_list l.followers c.args.ended.task c.index.result.now (has_followers l (passed w.0 l.moment w.1) c.args.ended (held l.running) w.2.passing.standing) c.index.ensures ∙ sym c.deref.ensures.value

pub release-requires-clause-waits : goal.release-requires-clause-waits
release-requires-clause-waits c =
    let l = c.args.self.now in
    let w = c.requires.passes in
    waits l (passed w.0 l.moment w.1) c.args.ended (held l.running) w.2.passing.standing c.deref.result.now (reads (goal.at.release-requires-clause-waits c).After-deref)

pub release-requires-clause-room : goal.release-requires-clause-room
release-requires-clause-room c =
    let l = c.args.self.now in
    let w = c.requires.passes in
    cells l (passed w.0 l.moment w.1) c.args.ended (held l.running) w.2.passing.standing c.deref.result.now (reads (goal.at.release-requires-clause-room c).After-deref)

pub returns-clause-passes : goal.returns-clause-passes
returns-clause-passes c p over h =
    let l = c.args.self.now in
    let s = segment_of l.segment.now in
    let W = vec_items l.waiting in
    let W' = vec_items c.release.new.waiting in
    let R' = held c.release.new.ready in
    let same = follows l (passed p l.moment over) c.args.ended (held l.running) h.passing.standing c.deref.result.now (reads (goal.at.returns-clause-passes c).After-deref) in record {
      starts = h.starts;
      passing = pass_ended l.cores s p l.moment over (held l.ready) (held l.running) W l.taken c.args.ended R' W' l.bounded c.requires.now h.passing (subst (λ fs. Released s fs W W' (held l.ready) R') same c.release.ensures.released);
    }
