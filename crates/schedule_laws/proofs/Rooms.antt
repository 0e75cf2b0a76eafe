-- How much a schedule can keep: there is a cell for each entry, and no time is far away.
use Rattle.std.proofs.Common.{ℕ, ◌≤◌, Bool, false, List, length, get_or, ap, ⊎_elim, arith}
use Rattle.std.proofs.lemmas.List.{length-map}
use Rattle.std.proofs.lemmas.Bool.{cases_Bool, lt-ltb}
use Rattle.model.specs.Canonical.{Start, Progress, begun}
use Rattle.model.specs.Graph.{Segment}
use Rattle.model.proofs.Counted.{few_below}
use Rattle.model.proofs.Members.{in_has}
use Rattle.queue.specs.declared.kinds.Ready.{Ready}
use Rattle.queue.specs.declared.kinds.Running.{Running}
use Rattle.schedule_laws.specs.Counting.{one}
use Rattle.schedule_laws.specs.Standing.{Standing}
use Rattle.schedule_laws.proofs.Members.{few_times}
use Rattle.schedule_laws.proofs.Ones.{one_most}

module _ (cores : ℕ) (s : Segment) (p : Progress) (R : List Ready) (U : List Running) (W : List ℕ) (T : List Bool) (h : Standing cores s p R U W T) where
  pub running_few : length U ≤ cores
  running_few =
      few_times (λ (e : Running). e.core) cores U (λ c.
      ⊎_elim
      (λ t. omega (arith, h.core_once c, one_most (get_or T c false), ap one (lt-ltb c cores (h.core_low c t))))
      (λ f. omega (arith, h.core_once c, ap one f))
      (cases_Bool (get_or T c false)))

  pub starts_few : length p.starts ≤ length s.tasks
  starts_few =
      omega (
        arith,
        few_below (begun p.starts) (length s.tasks) h.begun_once (λ t i. h.begun_low t (in_has (begun p.starts) t i)),
        length-map p.starts (λ (x : Start). x.task),
      )
