use Rattle.std.proofs.Common.{◌≡◌, ◌≤◌, ◌++◌, length, take, drop, sym, ap, ◌∙◌, zero-add, arith, rules}
use Rattle.std.proofs.lemmas.List.{take_at}
use Rattle.model.proofs.BackLaws.{graphs_read_back}
use Rattle.model.proofs.Runs.{over_first}
use Rattle.model.specs.Reading.{reading}
use Rattle.model.specs.Writing.{graph_bytes}
use Rattle.graph.specs.Whole.{graph_of}
use Rattle.writer.proofs.plan.write_graph.Goals as goal

pub returns : goal.returns
returns c =
    let g = graph_of c.args.graph.now in
    let bs = graph_bytes g in
    let n : c.lay.result ≡ length bs = c.lay.ensures.ended ∙ zero-add (length bs) in
    let fits : length bs ≤ length c.args.out.now = search rules in
    let written : c.lay.new.out ≡ bs ++ drop c.lay.result c.args.out.now = rw n (c.lay.ensures.laid ∙ over_first bs c.args.out.now fits) in
    let front = ap (take c.lay.result) written ∙ take_at bs (drop c.lay.result c.args.out.now) c.lay.result (sym n) in
    record {
      answer = (n, omega (arith, n, fits), written);
      reads_back = ap reading front ∙ graphs_read_back g c.args.graph.now.formed;
    }
