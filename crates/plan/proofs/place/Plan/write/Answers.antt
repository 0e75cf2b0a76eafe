use Rattle.std.proofs.Common.{ap, ◌∙◌}
use Rattle.std.proofs.lemmas.Result.{IfOk-weaker}
use Rattle.graph.specs.Whole.{graph_of}
use Rattle.model.proofs.PlaceLaws.{well_formed_place_by_place}
use Rattle.model.proofs.PlanLaws.{accepted_passes}
use Rattle.model.specs.Accepting.{then_accepting}
use Rattle.model.specs.Limits.{most_cores, most_tasks}
use Rattle.plan.proofs.place.Plan.write.Goals as goal

pub returns-clause-reads_back : goal.returns-clause-reads_back
returns-clause-reads_back c =
    let plan = c.args.self.now in
    let g = graph_of plan.graph in
    let passes = accepted_passes g (record { formed = well_formed_place_by_place g plan.graph.formed; in_time = plan.in_time }) in
    IfOk-weaker c.write_graph.result _ _ (λ n e. ap (then_accepting most_tasks most_cores) e ∙ passes) c.write_graph.ensures.reads_back
