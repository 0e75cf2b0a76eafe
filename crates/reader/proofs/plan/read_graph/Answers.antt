use Rattle.std.proofs.Common.{◌≡◌, ℕ, List, IfOk, Ok, Err, Result}
use Rattle.fault.specs.Card.{OnCard}
use Rattle.fault.specs.declared.error.Error.{Error}
use Rattle.fault.specs.declared.error.Error.TheVariants.{Refused, OutOfMemory}
use Rattle.model.proofs.CardLaws.{refusals_are_on_the_card}
use Rattle.model.proofs.GraphLaws.{graphs_read_are_formed, graphs_take_their_bytes}
use Rattle.model.proofs.PlaceLaws.{well_formed_place_by_place}
use Rattle.model.specs.Places.{Formed}
use Rattle.model.specs.Reading.{reading}
use Rattle.model.specs.Writing.{graph_bytes}
use Rattle.fault.specs.Answers.{Answers, Refuses}
use Rattle.graph.specs.Whole.{graph_of}
use Rattle.graph.specs.declared.structure.Graph.{Graph}
use Rattle.reader.proofs.plan.read_graph.Goals as goal

-- what the laws say of an answer
formed : (bs : List ℕ) (r : Result Graph Error) → Answers graph_of r (reading bs) → IfOk r (λ g. Formed (graph_of g))
formed bs (Ok g) e = well_formed_place_by_place (graph_of g) (graphs_read_are_formed (graph_of g) bs e)
formed bs (Err d) e = tt

takes : (bs : List ℕ) (r : Result Graph Error) → Answers graph_of r (reading bs) → IfOk r (λ g. bs ≡ graph_bytes (graph_of g))
takes bs (Ok g) e = graphs_take_their_bytes (graph_of g) bs e
takes bs (Err d) e = tt

carries : (bs : List ℕ) (r : Result Graph Error) → Answers graph_of r (reading bs) → Refuses r OnCard
carries bs (Ok g) e = tt
carries bs (Err (Refused f)) e = refusals_are_on_the_card f bs e
carries bs (Err OutOfMemory) e = tt

pub returns : goal.returns
returns c = record {
  answer = c.whole.ensures;
  formed = formed c.args.bytes.now c.whole.result c.whole.ensures;
  takes = takes c.args.bytes.now c.whole.result c.whole.ensures;
  carries = carries c.args.bytes.now c.whole.result c.whole.ensures;
}
