-- The jobs of the busy cores.
use Rattle.std.proofs.Common.{ℕ, ◌<◌, ◌≤◌, ◌⊎◌, List, [], ◌∷◌, refl, inl, inr, ⊎_elim, arith}
use Rattle.std.specs.Cmp.{IsStrictWeakOrder}
use Rattle.std.proofs.lemmas.Bool.{cases_lt}
use Rattle.std.proofs.lemmas.Bool.Decides.{nat_tests}
use Rattle.model.specs.Due.{earlier, earliest}
use Rattle.model.specs.Histories.{Job}
use Rattle.model.specs.Lists.{In}
use Rattle.model.proofs.Bests.{best_in, best_beaten}

ranks_earlier : IsStrictWeakOrder earlier
ranks_earlier =
    record {
      one_way = λ j k e. grind (arith, nat_tests);
      chain = λ j k l e f. grind (arith, nat_tests);
    }

-- the earliest of some jobs is one of them, and none is promised before it
pub earliest_in : (j : Job) (js : List Job) → In (earliest j js) (j ∷ js)
earliest_in = best_in earlier ranks_earlier

pub earliest_each : (j : Job) (js : List Job) (k : Job) → In k (j ∷ js) → (earliest j js).promise ≤ k.promise
earliest_each j js k i = let e = best_beaten earlier ranks_earlier j js k i in grind (arith, nat_tests)

-- some job is promised by a time, or all are promised for later
pub some_by : (b : ℕ) (js : List Job) → ((j : Job) × In j js × (j.promise ≤ b)) ⊎ ((j : Job) → In j js → b < j.promise)
some_by b [] = inr (λ j i. absurd i)
some_by b (k ∷ ks) =
    ⊎_elim
    (λ l. ⊎_elim (λ r. inl (r.0, inr r.1, r.2)) (λ f. inr (λ j. ⊎_elim (λ q. rw q l) (λ i. f j i))) (some_by b ks))
    (λ l. inl (k, inl refl, l))
    (cases_lt b k.promise)
