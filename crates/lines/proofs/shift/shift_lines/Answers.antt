use Rattle.std.proofs.Common.{◌≡◌, ℕ, ◌+◌, ◌^◌, ◌<◌, ◌≤◌, [], ◌∷◌, ◌++◌, map, length, get_or, take, drop, sym, ap, ◌∙◌, arith}
use Rattle.std.proofs.lemmas.List.{drop_more, drop-set-lt, map_push, take_more, take_more_set}
use Rattle.graph.specs.Whole.{graph_of}
use Rattle.model.proofs.Kept.{in_map}
use Rattle.model.proofs.Members.{at_place}
use Rattle.model.specs.CanonicalLines.{shifted}
use Rattle.model.specs.Times.{shift}
use Rattle.lines.specs.Meaning.{line_of}
use Rattle.lines.specs.declared.record.Line.{Line}
use Rattle.lines.proofs.shift.shift_lines.Goals as goal
use Rattle.lines.proofs.shift.shift_lines.Goals.{After-shift-slack}

abbrev none : Line
none = record { segment = 0; task = 0; order = 0; start = 0; end = 0 }

-- a record with its times so much later
abbrev later : ℕ → Line → Line
later n l = record { segment = l.segment; task = l.task; order = l.order; start = l.start + n; end = l.end + n }

-- the record of the turn, and those after it, are as they were
same : (c : goal.After-shift-slack)
    → (get_or c.loop-line.records c.loop-line.line-index none ≡ get_or c.args.records.now c.loop-line.line-index none)
    × (drop (c.loop-line.line-index + 1) c.loop-line.records ≡ drop (c.loop-line.line-index + 1) c.args.records.now)
same c =
    let i = c.loop-line.line-index in
    let left = c.loop-line.invariant.1 in
    let now = drop_more c.loop-line.records i none (omega (arith, c.loop-line-test.true, c.loop-line.auto.records)) in
    let before = drop_more c.args.records.now i none (omega (arith, c.loop-line-test.true, c.loop-line.auto.records)) in
    (cc, cc)

-- the slack is that of its segment
slack : (c : goal.After-shift-slack) → c.shift-slack.result ≡ shift (graph_of c.args.plan.now.graph) (get_or c.args.records.now c.loop-line.line-index none).segment
slack c = omega (arith, c.shift-slack.ensures, ap (λ (l : Line). shift (graph_of c.args.plan.now.graph) l.segment) (same c).0)

-- the later end can be counted
fits : (c : goal.After-shift-slack) → ((get_or c.loop-line.records c.loop-line.line-index none).start ≤ (get_or c.loop-line.records c.loop-line.line-index none).end)
    × ((get_or c.loop-line.records c.loop-line.line-index none).end + c.shift-slack.result < 2 ^ 64)
fits c =
    let xs = c.args.records.now in
    let i = c.loop-line.line-index in
    let x = get_or xs i none in
    let e = (same c).0 in
    let time = c.requires (line_of x) (in_map line_of x xs (at_place none xs i (omega (arith, c.loop-line-test.true, c.loop-line.auto.records)))) in
    let starts = ap (λ (l : Line). l.start) e in
    let ends = ap (λ (l : Line). l.end) e in
    (omega (arith, time.0, starts, ends), omega (arith, time.1, ends, slack c))

pub overflow_add-line : goal.overflow_add-line
overflow_add-line c = omega (arith, fits (goal.at.overflow_add-line c).After-shift-slack)

pub overflow_add-line-in-loop-line : goal.overflow_add-line-in-loop-line
overflow_add-line-in-loop-line c = omega (arith, fits (goal.at.overflow_add-line-in-loop-line c).After-shift-slack)

pub loop-line-preserved : goal.loop-line-preserved
loop-line-preserved c =
    let g = graph_of c.args.plan.now.graph in
    let xs = c.args.records.now in
    let ys = c.loop-line.records in
    let i = c.loop-line.line-index in
    let x = get_or xs i none in
    let y = get_or ys i none in
    let n = c.shift-slack.result in
    let a = (goal.at.loop-line-preserved c).After-shift-slack in
    let inside : i < length ys = omega (arith, c.loop-line-test.true, c.loop-line.auto.records) in
    let new : line_of (later n y) ≡ shifted g (line_of x) = ap (λ l. line_of (later n l)) (same a).0 ∙ ap (λ k. line_of (later k x)) (slack a) in
    let front = map (shifted g) (map line_of (take i xs)) in
    let first = ap (map line_of) (take_more_set ys i (later n y) inside) ∙ map_push line_of (take i ys) (later n y)
    ∙ ap (λ l. l ++ (line_of (later n y) ∷ [])) c.loop-line.invariant.0 ∙ ap (λ l. front ++ (l ∷ [])) new in
    let whole = ap (λ l. map (shifted g) (map line_of l)) (take_more xs i none (omega (arith, inside, c.loop-line.auto.records)))
    ∙ ap (map (shifted g)) (map_push line_of (take i xs) x) ∙ map_push (shifted g) (map line_of (take i xs)) (line_of x) in
    (first ∙ sym whole, drop-set-lt (i + 1) ys i (later n y) (omega arith) ∙ (same a).1)
