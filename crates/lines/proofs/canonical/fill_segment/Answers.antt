use Rattle.std.proofs.Common.{◌≡◌, ℕ, ◌+◌, ◌^◌, ◌<◌, map, length, get_or, drop, set, sym, ap, ◌∙◌, arith}
use Rattle.std.proofs.lemmas.List.{at_drop_more, at_drop_all, map-set, length-map}
use Rattle.graph.specs.Meaning.{segment_of}
use Rattle.model.proofs.Kept.{in_map}
use Rattle.model.proofs.LineLaws.{length-lines_from}
use Rattle.model.proofs.Members.{at_place}
use Rattle.model.specs.Canonical.{lasts, end_of}
use Rattle.model.specs.CanonicalLines.{canonical_line, lines_from}
use Rattle.model.specs.Graph.{Task}
use Rattle.model.specs.Runs.{over}
use Rattle.schedule.proofs.Reading.{length-tasks, read_task}
use Rattle.schedule.specs.Meaning.{start_of}
use Rattle.schedule.specs.declared.parts.Start.{Start}
use Rattle.lines.specs.Meaning.{line_of}
use Rattle.lines.specs.declared.record.Line.{Line}
use Rattle.lines.proofs.canonical.fill_segment.Goals as goal
use Rattle.lines.proofs.canonical.fill_segment.Goals.{In-loop-order, After-from}

abbrev none : Start
none = record { task = 0; at = 0; core = 0 }

-- the start of the turn is known
known : (c : goal.In-loop-order)
    → ((get_or c.args.starts.now c.loop-order.order none).task < length (segment_of c.args.segment.now).tasks)
    × (end_of (segment_of c.args.segment.now) (start_of (get_or c.args.starts.now c.loop-order.order none)) < 2 ^ 64)
known c =
    let xs = c.args.starts.now in
    let x = get_or xs c.loop-order.order none in
    c.requires.known (start_of x) (in_map start_of x xs (at_place none xs c.loop-order.order c.loop-order-test.true))

-- and the time that is added is its worst
worst : (c : goal.After-from) → c.from.result ≡ lasts (segment_of c.args.segment.now) (get_or c.args.starts.now c.loop-order.order none).task
worst c =
    let g = c.args.segment.now in
    let t = (get_or c.args.starts.now c.loop-order.order none).task in
    let low = (known (goal.at.After-from c).In-loop-order).0 in
    omega (arith, c.from.ensures, ap (λ (y : Task). y.worst) (read_task g t c.index.result.now (omega (arith, low, length-tasks g)) c.index.ensures))

pub index-requires : goal.index-requires
index-requires c = omega (arith, (known (goal.at.index-requires c).In-loop-order).0, length-tasks c.args.segment.now)

pub overflow_add-out : goal.overflow_add-out
overflow_add-out c = omega (arith, (known (goal.at.overflow_add-out c).In-loop-order).1, worst (goal.at.overflow_add-out c).After-from)

pub loop-order-preserved : goal.loop-order-preserved
loop-order-preserved c =
    let l = c.loop-order in
    let s = segment_of c.args.segment.now in
    let n = c.args.number in
    let k = l.order in
    let xs = c.args.starts.now in
    let x = get_or xs k none in
    let place = c.args.at + k in
    let new : ℕ → Line = λ e. record { segment = n; task = x.task; order = k; start = x.at; end = e } in
    let rest = lines_from s n (k + 1) (map start_of (drop (k + 1) xs)) in
    let end : x.at + c.from.result ≡ end_of s (start_of x) = omega (arith, worst (goal.at.loop-order-preserved c).After-from) in
    let onward : c.args.at + (k + 1) ≡ place + 1 = omega arith in
    ap (over (c.args.at + (k + 1)) rest) (map-set line_of l.out place (new (x.at + c.from.result)) ∙ ap (λ e. set (map line_of l.out) place (line_of (new e))) end)
    ∙ ap (λ m. over m rest (set (map line_of l.out) place (canonical_line s n k (start_of x)))) onward
    ∙ sym (at_drop_more (λ ys. over place (lines_from s n k (map start_of ys)) (map line_of l.out)) xs k none c.loop-order-test.true)
    ∙ l.invariant

pub returns : goal.returns
returns c =
    let l = c.loop-order in
    let s = segment_of c.args.segment.now in
    let n = c.args.number in
    let xs = c.args.starts.now in record {
      laid = sym (at_drop_all (λ ys. over (c.args.at + l.order) (lines_from s n l.order (map start_of ys)) (map line_of l.out)) xs l.order c.loop-order-test.false) ∙ l.invariant;
      ended = omega (arith, length-lines_from s n 0 (map start_of xs), length-map xs start_of);
    }
