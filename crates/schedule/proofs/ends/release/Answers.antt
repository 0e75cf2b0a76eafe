use Rattle.std.proofs.Common.{ℕ, ◌+◌, ◌-◌, ◌<◌, ◌≤◌, List, length, get_or, take, set, vec_items, sym, ap, ◌∙◌, subst, arith}
use Rattle.std.proofs.lemmas.List.{get_or_default, get_or_read}
use Rattle.graph.specs.Meaning.{segment_of}
use Rattle.model.specs.Graph.{Segment, Task}
use Rattle.queue.specs.Held.{held, count, cells_of}
use Rattle.queue.specs.declared.kinds.Ready.{Ready}
use Rattle.schedule_laws.proofs.Releasing.{waits, inside, released_later, released_now}
use Rattle.schedule_laws.specs.Counting.{times}
use Rattle.schedule_laws.specs.Released.{Released}
use Rattle.schedule.proofs.Reading.{read_task}
use Rattle.schedule.proofs.ends.release.Goals as goal
use Rattle.schedule.proofs.ends.release.Goals.{then-is_ready, else-is_ready}

-- the next follower has a count, and waits
next : (s : Segment) (fs W V : List ℕ) (R Q : List Ready) (i : ℕ) → i < length fs → ((k : ℕ) → times (λ u. u) k fs ≤ get_or W k 0) → Released s (take i fs) W V R Q → (get_or fs i 0 < length V) × (1 ≤ get_or V (get_or fs i 0) 0)
next s fs W V R Q i turn fit h =
    let t = get_or fs i 0 in
    let is = get_or_default fs i 0 t turn in
    (inside s fs W V R Q t i turn is fit h, waits s fs W V R Q t i turn is fit h)

pub index-requires : goal.index-requires
index-requires c =
    let l = c.loop-follower in
    omega (arith, l.waiting.ok.0, (next (segment_of c.args.segment.now) c.args.followers.now (vec_items c.args.waiting.now) (vec_items l.waiting) (held c.args.ready.now) (held l.ready) l.follower-index c.loop-follower-test.true c.requires.waits l.invariant.2).0)

pub index_mut-requires : goal.index_mut-requires
index_mut-requires c =
    let l = c.loop-follower in
    omega (arith, l.waiting.ok.0, (next (segment_of c.args.segment.now) c.args.followers.now (vec_items c.args.waiting.now) (vec_items l.waiting) (held c.args.ready.now) (held l.ready) l.follower-index c.loop-follower-test.true c.requires.waits l.invariant.2).0)

pub overflow_sub-left : goal.overflow_sub-left
overflow_sub-left c =
    let l = c.loop-follower in
    let r = next (segment_of c.args.segment.now) c.args.followers.now (vec_items c.args.waiting.now) (vec_items l.waiting) (held c.args.ready.now) (held l.ready) l.follower-index c.loop-follower-test.true c.requires.waits l.invariant.2 in
    omega (arith, r.1, get_or_read (vec_items l.waiting) (get_or c.args.followers.now l.follower-index 0) c.index.result.now r.0 c.index.ensures 0)

pub index-requires-then-is_ready : goal.index-requires-then-is_ready
index-requires-then-is_ready c =
    let l = c.loop-follower in
    omega (arith, l.invariant.2.counted, c.args.waiting.now.ok.0, c.requires.counted, (next (segment_of c.args.segment.now) c.args.followers.now (vec_items c.args.waiting.now) (vec_items l.waiting) (held c.args.ready.now) (held l.ready) l.follower-index c.loop-follower-test.true c.requires.waits l.invariant.2).0)

pub loop-follower-preserved : goal.loop-follower-preserved
loop-follower-preserved c =
    let l = c.loop-follower in
    let s = segment_of c.args.segment.now in
    let fs = c.args.followers.now in
    let i = l.follower-index in
    let t = get_or fs i 0 in
    let W = vec_items c.args.waiting.now in
    let V = vec_items l.waiting in
    let R = held c.args.ready.now in
    let turn = c.loop-follower-test.true in
    let is = get_or_default fs i 0 t turn in
    elim c.if-is_ready.branch [
      | then-is_ready w ↦
          let put = w.put.ensures in
          let r = next s fs W V R (held l.ready) i turn c.requires.waits l.invariant.2 in
          let known = ap (λ (x : Task). x.worst) (sym (read_task c.args.segment.now t w.index-then-is_ready.result.now (omega (arith, l.invariant.2.counted, c.args.waiting.now.ok.0, c.requires.counted, r.0)) w.index-then-is_ready.ensures)) in (
            ap (λ q. length (cells_of q)) w.ready-is ∙ put.room ∙ l.invariant.0,
            omega (arith, ap count w.ready-is, put.counts, l.invariant.1),
            subst (λ q. Released s (take (i + 1) fs) W (set V t (c.index.result.now - 1)) R (held q)) (sym w.ready-is)
                (released_now s fs W V R (held l.ready) t i turn is c.requires.waits l.invariant.2 c.index.result.now c.index.ensures (held w.put.new.queue) w.index-then-is_ready.result.now.worst w.if-is_ready.true known put.holds),
          )
      | else-is_ready w ↦ (
        ap (λ q. length (cells_of q)) w.ready-is ∙ l.invariant.0,
        omega (arith, ap count w.ready-is, l.invariant.1),
        subst (λ q. Released s (take (i + 1) fs) W (set V t (c.index.result.now - 1)) R (held q)) (sym w.ready-is)
            (released_later s fs W V R (held l.ready) t i turn is c.requires.waits l.invariant.2 c.index.result.now c.index.ensures w.if-is_ready.false),
      )
    ]
