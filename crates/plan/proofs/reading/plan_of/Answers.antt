use Rattle.std.proofs.Common.{ℕ, List, length, Ok, Err, Result, rules}
use Rattle.fault.specs.Answers.{Answers, Refuses}
use Rattle.fault.specs.Card.{OnCard}
use Rattle.fault.specs.declared.error.Error.{Error}
use Rattle.fault.specs.declared.error.Error.TheVariants.{Refused, OutOfMemory}
use Rattle.graph.specs.Whole.{graph_of}
use Rattle.model.proofs.PlanLaws.{plan_refusals_are_on_the_card}
use Rattle.model.specs.Accepting.{plan_reading}
use Rattle.plan.specs.declared.place.Plan.{Plan}
use Rattle.plan.proofs.reading.plan_of.Goals as goal

module _ (ready running : ℕ) (bs : List ℕ) where
  carries : (r : Result Plan Error) → Answers (λ (p : Plan). graph_of p.graph) r (plan_reading ready running bs) → Refuses r OnCard
  carries (Ok p) e = tt
  carries (Err (Refused f)) e = plan_refusals_are_on_the_card ready running bs f e
  carries (Err OutOfMemory) e = tt

pub returns-clause-carries : goal.returns-clause-carries
returns-clause-carries c =
    carries (length c.args.ready.now) (length c.args.running.now) c.args.bytes.now c.lay_out.result (search rules)
