-- A loop that reads several things, one a turn.
use Rattle.std.proofs.Common.{◌≡◌, ℕ, zero, suc, ◌+◌, ◌-◌, ◌<◌, List, [], ◌∷◌, ◌++◌, length, Ok, Err, ap, sym, ◌∙◌, arith}
use Rattle.std.proofs.lemmas.List.{length_push}
use Rattle.fault.specs.Answers.{Fails}
use Rattle.fault.specs.declared.error.Error.{Error}
use Rattle.fault.specs.declared.error.Error.TheVariants.{Refused, OutOfMemory}
use Rattle.model.specs.Bytes.{Read, then, several}
use Rattle.model.proofs.ListReading.{then_ok, ok_is}
use Rattle.reader.specs.Answers.{Reads}
use Rattle.reader.specs.declared.input.Input.{Input}

-- i of `many` things are done, and those to come are read from where the input is now
pub record Underway {X : Type 0} (item : ℕ → List X → List ℕ → Read X) (many : ℕ) (begun : Input) (i : ℕ) (done : List X) (now : Input) : Type 0 where
  pub same_run : now.count ≡ begun.count
  pub to_come : several (item begun.count) many [] begun.rest.now ≡ several (item begun.count) (many - i) done now.rest.now

module _ {X : Type 0} (item : ℕ → List X → List ℕ → Read X) (many i : ℕ) (done : List X) (begun now after : Input) (so_far : Underway item many begun i done now) (turn : i < many) (same_run : after.count ≡ now.count) where
  opened : several (item begun.count) many [] begun.rest.now ≡ then (item now.count done now.rest.now) (λ x more. several (item begun.count) (many - (i + 1)) (done ++ (x ∷ [])) more)
  opened =
      let n : many - i ≡ suc (many - (i + 1)) = omega arith in
      let same = so_far.same_run in
      (rw n at so_far.to_come) ∙ ap (λ k. then (item k done now.rest.now) (λ x more. several (item begun.count) (many - (i + 1)) (done ++ (x ∷ [])) more)) (sym same)

  -- one thing more was read
  pub one_more : (x : X) → item now.count done now.rest.now ≡ Ok (x, after.rest.now) → Underway item many begun (i + 1) (done ++ (x ∷ [])) after
  one_more x one = record { same_run = same_run ∙ so_far.same_run; to_come = rw one at opened }

  refused : (e : Error) → Fails e (item now.count done now.rest.now) → Fails e (several (item begun.count) many [] begun.rest.now)
  refused (Refused f) one = rw one at opened
  refused OutOfMemory one = tt

  -- an error in the place of the next thing is the answer
  pub stopped : {V : Type 0} (meaning : V → List X) (e : Error) → Fails e (item now.count done now.rest.now) → Reads meaning (several (item begun.count) many []) begun (Err e) after
  stopped meaning e one = record { same_run = same_run ∙ so_far.same_run; answer = refused e one }

-- as many are read as were asked for
pub several-length : {X : Type 0} (item : List X → List ℕ → Read X) (n : ℕ) (done : List X) (bs : List ℕ) (xs : List X) (rest : List ℕ) → several item n done bs ≡ Ok (xs, rest) → length xs ≡ length done + n
several-length item zero done bs xs rest e = omega (arith, ap (λ p. length p.0) (ok_is (done, bs) (xs, rest) e))
several-length {X} item (suc n) done bs xs rest e =
    then_ok (item done bs) (λ x more. several item n (done ++ (x ∷ [])) more) (xs, rest) e
    (λ x more one on. omega (arith, several-length item n (done ++ (x ∷ [])) more xs rest on, length_push done x))
