-- The laws over accepting a plan.
use Rattle.std.proofs.Common.{◌≡◌, ℕ, zero, suc, ◌<◌, ◌≤◌, Bool, true, false, cond, ltb, leb, List, [], ◌∷◌, length, get_or, Ok, Err, Result, sym, refl, ap, ◌∙◌, subst, arith}
use Rattle.std.proofs.lemmas.Bool.{ltb-true, ltb-false, le-ltb, le-leb, and_from, cond-false, cond_both}
use Rattle.fault.specs.declared.kind.Fault.{Fault}
use Rattle.fault.specs.declared.kind.Kind.TheVariants.{TooSmall, OverDeadline}
use Rattle.fault.specs.Card.{fault, OnCard}
use Rattle.model.specs.Accepting.{tasks_of_largest, Accepted, accepting, then_accepting}
use Rattle.model.specs.Graph.{Graph, Segment, tasks_in}
use Rattle.model.specs.Limits.{most_cores, most_tasks}
use Rattle.model.specs.Places.{no_segment, Formed}
use Rattle.model.specs.PlanLaws.{AcceptedPlansAreInTime, AcceptedPlansReadBack, PlanRefusalsAreOnTheCard, CellsAtTheLimitsSuffice}
use Rattle.model.specs.Reading.{reading}
use Rattle.model.specs.Times.{needed}
use Rattle.model.specs.Writing.{graph_bytes}
use Rattle.model.proofs.BackLaws.{graphs_read_back}
use Rattle.model.proofs.CardLaws.{Carded, ok_carded, err_carded, refusals_are_on_the_card}
use Rattle.model.proofs.GraphLaws.{graphs_read_are_formed, graphs_take_their_bytes}
use Rattle.model.proofs.LengthLaws.{remaining_within}
use Rattle.model.proofs.ListReading.{ok_is, ok_not_err}
use Rattle.model.proofs.PlaceLaws.{well_formed_place_by_place, place_by_place_well_formed}

-- a fault that was passed by
passed_by : (b : Bool) (d : Fault) (r : Result Graph Fault) (g : Graph) → cond b (Err d) r ≡ Ok g → (b ≡ false) × (r ≡ Ok g)
passed_by true d r g e = ok_not_err g d (sym e)
passed_by false d r g e = (refl, e)

-- what is read is formed
read_formed : (bs : List ℕ) (g : Graph) → reading bs ≡ Ok g → Formed g
read_formed bs g is = well_formed_place_by_place g (graphs_read_are_formed g bs is)

module _ (ready running : ℕ) where
  -- what is accepted is as it was, and no fault stands in its way
  accepting_ok : (h g : Graph) → accepting ready running h ≡ Ok g
      → (h ≡ g) × (tasks_of_largest h.segments ≤ ready) × (h.cores ≤ running) × (needed h ≤ h.deadline)
  accepting_ok h g e =
      let a = passed_by _ _ _ g e in
      let b = passed_by _ _ _ g a.1 in
      let c = passed_by _ _ _ g b.1 in
      (ok_is h g c.1, ltb-false ready (tasks_of_largest h.segments) a.0, ltb-false running h.cores b.0, ltb-false h.deadline (needed h) c.0)

  -- where the cells suffice, the deadline alone decides
  deadline_decides : (g : Graph) → tasks_of_largest g.segments ≤ ready → g.cores ≤ running
      → accepting ready running g ≡ cond (ltb g.deadline (needed g)) (Err (fault OverDeadline (needed g))) (Ok g)
  deadline_decides g tasks cores = cond-false _ _ _ (le-ltb ready (tasks_of_largest g.segments) tasks) ∙ cond-false _ _ _ (le-ltb running g.cores cores)

pub accepted_plans_are_in_time : AcceptedPlansAreInTime
accepted_plans_are_in_time ready running bs g e = from (reading bs) refl e
  where
    from : (r : Result Graph Fault) → reading bs ≡ r → then_accepting ready running r ≡ Ok g
        → Accepted g × (bs ≡ graph_bytes g) × (tasks_of_largest g.segments ≤ ready) × (g.cores ≤ running)
    from (Ok h) is own =
        let a = accepting_ok ready running h g own in
        let read : reading bs ≡ Ok g = is ∙ ap {B = Result Graph Fault} (λ x. Ok x) a.0 in
        let fits = subst (λ (x : Graph). (tasks_of_largest x.segments ≤ ready) × (x.cores ≤ running) × (needed x ≤ x.deadline)) a.0 (a.1, a.2, a.3) in
        (record { formed = read_formed bs g read; in_time = omega (arith, fits.2) }, graphs_take_their_bytes g bs read, fits.0, fits.1)
    from (Err d) is own = ok_not_err g d (sym own)

pub accepted_plans_read_back : AcceptedPlansReadBack
accepted_plans_read_back ready running g accepted tasks cores =
    ap (then_accepting ready running) (graphs_read_back g (place_by_place_well_formed g accepted.formed))
    ∙ deadline_decides ready running g tasks cores
    ∙ cond-false _ _ _ (le-ltb g.deadline (needed g) accepted.in_time)

-- the largest segment has as many tasks as each
pub largest_each : (ss : List Segment) (i : ℕ) → i < length ss → length (get_or ss i no_segment).tasks ≤ tasks_of_largest ss
largest_each [] i h = absurd (omega arith)
largest_each (s ∷ ss) zero h = omega arith
largest_each (s ∷ ss) (suc i) h = omega (arith, largest_each ss i (omega arith))

accepting_carded : (ready running : ℕ) (g : Graph) → Formed g → Carded (accepting ready running g)
accepting_carded ready running g f =
    let most = tasks_of_largest g.segments in
    let long = needed g in
    cond_both (ltb ready most) _ _ Carded
    (λ _. err_carded (fault TooSmall most) (le-leb 1 most (omega (arith, largest_each g.segments 0 f.some_segment, f.some_task 0 f.some_segment))))
    (λ _. cond_both (ltb running g.cores) _ _ Carded
    (λ _. err_carded (fault TooSmall g.cores) (le-leb 1 g.cores f.some_core))
    (λ _. cond_both (ltb g.deadline long) _ _ Carded
    (λ over. err_carded (fault OverDeadline long) (and_from (leb 1 long) (leb long 256000000) (le-leb 1 long (omega (arith, ltb-true g.deadline long over))) (le-leb long 256000000 (remaining_within g f 0 f.some_segment))))
    (λ _. ok_carded g)))

pub plan_refusals_are_on_the_card : PlanRefusalsAreOnTheCard
plan_refusals_are_on_the_card ready running bs f e = from (reading bs) refl e
  where
    from : (r : Result Graph Fault) → reading bs ≡ r → then_accepting ready running r ≡ Err f → OnCard f
    from (Ok g) is own = accepting_carded ready running g (read_formed bs g is) f own
    from (Err d) is own = refusals_are_on_the_card f bs (is ∙ own)

-- the largest segment has no more tasks than all of them
pub largest_of_all : (ss : List Segment) → tasks_of_largest ss ≤ tasks_in ss
largest_of_all [] = omega arith
largest_of_all (s ∷ ss) = omega (arith, largest_of_all ss)

pub cells_at_the_limits_suffice : CellsAtTheLimitsSuffice
cells_at_the_limits_suffice ready running tasks cores g f =
    deadline_decides ready running g (omega (arith, largest_of_all g.segments, f.few_tasks)) (omega (arith, f.few_cores))

-- so an accepted graph passes
pub accepted_passes : (g : Graph) → Accepted g → accepting most_tasks most_cores g ≡ Ok g
accepted_passes g a =
    cells_at_the_limits_suffice most_tasks most_cores (omega arith) (omega arith) g a.formed
    ∙ cond-false _ _ _ (le-ltb g.deadline (needed g) a.in_time)
