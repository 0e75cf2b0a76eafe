use Rattle.std.proofs.Common.{◌≡◌, ℕ, ◌≤◌, ◌++◌, Ok, map, length, take, drop, sym, ap, ◌∙◌, subst, arith}
use Rattle.std.proofs.lemmas.Bool.Decides.{nat_tests}
use Rattle.std.proofs.lemmas.List.{drop_at, drop-map, length-map, map-append, take_at, take-map}
use Rattle.fault.specs.Room.{room}
use Rattle.graph.specs.Whole.{graph_of}
use Rattle.model.proofs.LineLaws.{length-lines, line_in_time, lines_are_shifted}
use Rattle.model.proofs.Runs.{over_first}
use Rattle.model.specs.CanonicalLines.{canonical_lines, shifted}
use Rattle.model.specs.LineRecords.{lines}
use Rattle.model.specs.Lists.{In}
use Rattle.lines.specs.Meaning.{line_of}
use Rattle.lines.proofs.Tables.{plan_formed}
use Rattle.lines.proofs.fill.fill_lines.Goals as goal
use Rattle.lines.proofs.fill.fill_lines.Goals.{After-fill_canonical}

-- there is room for as many as are needed
roomy : (needed there : ℕ) → Ok tt ≡ room needed there → needed ≤ there
roomy needed there e = grind (arith, nat_tests)

-- what the run holds before the shift
module _ (c : goal.After-fill_canonical) where
  counted : length (canonical_lines (graph_of c.args.plan.now.graph)) ≡ c.line_count-count.result
  counted = omega (arith, c.line_count-count.ensures, length-lines (graph_of c.args.plan.now.graph))

  fits : length (canonical_lines (graph_of c.args.plan.now.graph)) ≤ length (map line_of c.args.out.now)
  fits = omega (arith, counted, roomy _ _ c.in_ok-room_for.ensures, length-map c.args.out.now line_of)

  filled : map line_of c.fill_canonical.new.out ≡ canonical_lines (graph_of c.args.plan.now.graph) ++ drop c.line_count-count.result (map line_of c.args.out.now)
  filled =
      let g = graph_of c.args.plan.now.graph in
      c.fill_canonical.ensures ∙ over_first (canonical_lines g) (map line_of c.args.out.now) fits ∙ ap (λ n. canonical_lines g ++ drop n (map line_of c.args.out.now)) counted

  front : map line_of (take c.line_count-count.result c.fill_canonical.new.out) ≡ canonical_lines (graph_of c.args.plan.now.graph)
  front = sym (take-map line_of c.line_count-count.result c.fill_canonical.new.out) ∙ ap (take c.line_count-count.result) filled ∙ take_at (canonical_lines (graph_of c.args.plan.now.graph)) _ c.line_count-count.result counted

  back : map line_of (drop c.line_count-count.result c.fill_canonical.new.out) ≡ drop c.line_count-count.result (map line_of c.args.out.now)
  back = sym (drop-map line_of c.line_count-count.result c.fill_canonical.new.out) ∙ ap (drop c.line_count-count.result) filled ∙ drop_at (canonical_lines (graph_of c.args.plan.now.graph)) _ c.line_count-count.result counted

pub fill_canonical-requires : goal.fill_canonical-requires
fill_canonical-requires c = omega (arith, roomy _ _ c.in_ok-room_for.ensures, c.line_count-count.ensures, length-lines (graph_of c.args.plan.now.graph))

pub shift_lines-requires : goal.shift_lines-requires
shift_lines-requires c = λ l sits.
    let p = c.args.plan.now in
    let time = line_in_time (graph_of p.graph) (plan_formed p) p.in_time l (subst (λ ls. In l ls) (front (goal.at.shift_lines-requires c).After-fill_canonical) sits) in
    (time.0, omega (arith, time.1, (plan_formed p).deadline_within))

pub returns : goal.returns
returns c =
    let g = graph_of c.args.plan.now.graph in
    let a = (goal.at.returns c).After-fill_canonical in
    let rest = drop c.line_count-count.result c.fill_canonical.new.out in
    let first : map line_of c.shift_lines.new.records ≡ lines g = c.shift_lines.ensures ∙ ap (map (shifted g)) (front a) ∙ sym (lines_are_shifted g) in (
      c.line_count-count.ensures,
      omega (arith, fits a, counted a),
      map-append line_of c.shift_lines.new.records rest ∙ ap (λ l. l ++ map line_of rest) first ∙ ap (λ l. lines g ++ l) (back a),
    )
