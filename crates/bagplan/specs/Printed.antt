-- What a report says of a plan's bytes, and the text that it prints as.
use Rattle.std.specs.Prelude.{ℕ, List, ◌++◌, Ok, Err, codes, Result}
use Rattle.std.specs.Result.{result_map_both}
use Rattle.fault.specs.Shown.{refusal}
use Rattle.fault.specs.declared.kind.Fault.{Fault}
use Rattle.graph.specs.Whole.{graph_of}
use Rattle.bagplan.specs.Table.{table_text}
use Rattle.bagplan.specs.declared.report.Report.{Report}
use Rattle.model.specs.Graph.{Graph}

-- the reading that a report tells of
abbrev pub said : Report → Result Graph Fault
said report = result_map_both graph_of (λ f. f) report.0

-- the graph's table, or the fault's one line
abbrev pub printed : Result Graph Fault → List ℕ
printed (Ok g) = table_text g
printed (Err f) = refusal f ++ codes "\n"
