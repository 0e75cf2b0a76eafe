use Rattle.std.proofs.Common.{ℕ, ◌+◌, true, List, [], ◌∷◌, ◌++◌, map, set, vec_items, refl, ap, ◌∙◌, subst, arith}
use Rattle.std.proofs.lemmas.List.{map_push}
use Rattle.std.specs.List.Sorted.{IsPermutation}
use Rattle.graph.specs.Meaning.{segment_of}
use Rattle.model.specs.Canonical as canon
use Rattle.queue.specs.Held.{held}
use Rattle.queue.specs.declared.kinds.Running.{Running}
use Rattle.schedule_laws.proofs.Entries.{running_moved}
use Rattle.schedule_laws.proofs.Starting.{starts, running_room, end_fits}
use Rattle.schedule_laws.specs.Standing.{begin}
use Rattle.schedule.specs.Meaning.{start_of}
use Rattle.schedule.specs.declared.parts.Start.{Start}
use Rattle.schedule.proofs.Reading.{held_count}
use Rattle.schedule.proofs.layouts.Layout.start.Goals as goal

pub overflow_add-end : goal.overflow_add-end
overflow_add-end c =
    let l = c.args.self.now in
    let w = c.requires.stands in
    omega (arith, end_fits l.cores (segment_of l.segment.now) l.bounded w.0 (held l.ready) (held l.running) (vec_items l.waiting) l.taken c.args.first c.args.core c.requires.free.0 c.requires.free.1 w.1.standing, w.1.moment)

pub put-requires : goal.put-requires
put-requires c =
    let l = c.args.self.now in
    let w = c.requires.stands in
    omega (arith, running_room l.cores (segment_of l.segment.now) l.bounded w.0 (held l.ready) (held l.running) (vec_items l.waiting) l.taken c.args.first c.args.core c.requires.free.0 c.requires.free.1 w.1.standing, held_count l.running, l.running_room)

pub returns : goal.returns
returns c =
    let l = c.args.self.now in
    let s = segment_of l.segment.now in
    let e = c.args.first in
    let core = c.args.core in
    let U = held l.running in
    let W = vec_items l.waiting in
    let x : Start = record { task = e.task; at = l.moment; core = core } in
    let entry : ℕ → ℕ → Running = λ m w. record { end = m + w; core = core; task = e.task } in
    let moved = subst (λ w. IsPermutation (entry l.moment w ∷ U) (held c.put.new.queue)) c.from.ensures c.put.ensures.holds in record {
      same = record { cores = refl; segment = refl };
      stands = λ p h. record {
        moment = h.moment;
        starts = ap (map start_of) c.in_ok-push.ensures.items ∙ map_push start_of (vec_items l.starts) x ∙ ap (λ v. v ++ (start_of x ∷ [])) h.starts ∙ ap {B = List canon.Start} (λ m. p.starts ++ (record { task = e.task; at = m; core = core } ∷ [])) h.moment;
        standing = running_moved l.cores s (begin p e.task core) (held l.ready) (entry p.moment e.worst ∷ U) W (set l.taken core true)
            (starts l.cores s l.bounded p (held l.ready) U W l.taken e core c.requires.free.0 c.requires.free.1 h.standing)
            (held c.put.new.queue)
            (subst (λ m. IsPermutation (entry m e.worst ∷ U) (held c.put.new.queue)) h.moment moved);
      };
    }
