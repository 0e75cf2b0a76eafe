-- From the schedules of a graph's segments to the tables of its plan.
use Rattle.std.proofs.Common.{◌≡◌, ℕ, cond, ltb, List, map, Ok, Err, sym, ap, ◌∙◌, arith}
use mathlib.Core.List.{map-map}
use Rattle.std.proofs.lemmas.Bool.Decides.{nat_tests}
use Rattle.fault.specs.Card.{fault}
use Rattle.fault.specs.declared.kind.Kind.TheVariants.{OverDeadline}
use Rattle.model.specs.Accepting.{accepting}
use Rattle.model.specs.Canonical as canon
use Rattle.model.specs.Graph.{Graph, Segment}
use Rattle.model.specs.Times.{needed}
use Rattle.schedule.specs.Answer.{schedules}
use Rattle.schedule.specs.Meaning.{Plan, timeline_of, planned}
use Rattle.schedule.specs.declared.parts.Timeline.{Timeline}
use Rattle.plan.specs.Tables.{lengths_of}

-- the lengths of the timelines are those of the canonical schedules
pub measured : (cores : ℕ) (ts : List Timeline) (ss : List Segment) → map timeline_of ts ≡ map (planned cores) ss → lengths_of ts ≡ map (canon.length_of cores) ss
measured cores ts ss laid =
    let long : Plan → ℕ = λ p. p.length in
    sym (map-map long timeline_of ts) ∙ ap (map long) laid ∙ map-map long (planned cores) ss

module _ (g : Graph) (ready running : ℕ) (plans : List Plan) (laid : schedules g ready running ≡ Ok plans) where
  -- the schedules are those of the segments
  pub scheduled : plans ≡ map (planned g.cores) g.segments
  scheduled = grind (arith, nat_tests)

  -- where they are laid out, the deadline decides
  pub deadline_decides : accepting ready running g ≡ cond (ltb g.deadline (needed g)) (Err (fault OverDeadline (needed g))) (Ok g)
  deadline_decides = grind (arith, nat_tests)
