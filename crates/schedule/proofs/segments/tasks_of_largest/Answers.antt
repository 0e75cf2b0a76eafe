use Rattle.std.proofs.Common.{vec_len, unwrap_or, ap, ◌∙◌, rules, tests}
use Rattle.std.proofs.lemmas.Iterator.{YieldsList-from_slice, YieldsList-from_map}
use Rattle.std.proofs.lemmas.Iterator.Consumers.{reduce_from_yields_List}
use Rattle.std.proofs.lemmas.List.Folds.{max_of_map}
use Rattle.graph.specs.declared.parts.Segment.{Segment}
use Rattle.schedule.proofs.Largest.{largest_is}
use Rattle.schedule.proofs.segments.tasks_of_largest.Goals as goal

pub returns : goal.returns
returns c =
    let ss = c.args.segments.now in
    let size = λ (s : Segment). vec_len s.tasks in
    c.unwrap_or.ensures
    ∙ ap (λ o. unwrap_or o 0) (reduce_from_yields_List _ c.map.result _ c.max.ensures.ran (YieldsList-from_map _ size (YieldsList-from_slice ss cc) c.map.ensures.closure (λ x b q k. search (rules, tests))))
    ∙ max_of_map size ss
    ∙ largest_is ss
