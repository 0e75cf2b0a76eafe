-- Each segment of a well-formed graph is bounded.
use Rattle.std.proofs.Common.{ℕ, suc, ◌<◌, List, [], ◌∷◌, length, get_or, arith}
use Rattle.model.specs.Graph.{Graph}
use Rattle.model.specs.Lists.{Apart}
use Rattle.model.specs.Places.{segment, task, count, Formed}
use Rattle.model.proofs.Members.{place}
use Rattle.model.proofs.PlanLaws.{largest_each, largest_of_all}
use Rattle.model.proofs.ScheduleLaws.{formed_lower}
use Rattle.schedule_laws.specs.Bounds.{Bounded}

rising_apart : (xs : List ℕ) → ((i j : ℕ) → i < j → j < length xs → get_or xs i 0 < get_or xs j 0) → Apart xs
rising_apart [] rise = tt
rising_apart (x ∷ xs) rise = (
  (λ i. let r = place x 0 xs i in omega (arith, rise 0 (suc r.0) (omega arith) (omega (arith, r.1)), r.2)),
  rising_apart xs (λ i j l h. rise (suc i) (suc j) (omega arith) (omega arith)),
)

pub bounded : (g : Graph) → Formed g → (i : ℕ) → i < count g → Bounded g.cores (segment g i)
bounded g f i h = record {
  few_cores = f.few_cores;
  few_tasks = omega (arith, f.few_tasks, largest_each g.segments i h, largest_of_all g.segments);
  short = λ t l. f.worst_within i t h l;
  apart = λ t l. rising_apart (task (segment g i) t).predecessors (λ a c lt lc. f.predecessors_rise i t a c h l lt lc);
  inside = λ t p l m. omega (arith, formed_lower g f i h t p l m);
}
