-- A reader that takes the bytes of a thing: it reads them whatever follows, and where they are cut short it finds their end.
use Rattle.std.proofs.Common.{◌≡◌, ℕ, ◌+◌, ◌-◌, ◌<◌, ◌≤◌, List, [], ◌∷◌, ◌++◌, length, take, Ok, Err, refl, ap, ◌∙◌, ⊎_elim, append_assoc, append-nil, arith, length-append}
use lib.Seq.{take-append-le, take-append-add}
use Rattle.std.specs.List.{flat_map}
use Rattle.std.proofs.lemmas.Bool.{cases_lt}
use Rattle.fault.specs.declared.kind.Kind.TheVariants.{BytesEnd}
use Rattle.fault.specs.Card.{fault}
use Rattle.model.specs.Bytes.{Read, then, several}
use Rattle.model.proofs.Along.{Along}

module _ {X : Type 0} where
  -- bytes that are cut short
  abbrev pub Ends : (ℕ → List ℕ → Read X) → List ℕ → Type 0
  Ends p bytes = (count k : ℕ) → k < length bytes → p count (take k bytes) ≡ Err (fault BytesEnd count)

  pub record Takes (p : ℕ → List ℕ → Read X) (x : X) (bytes : List ℕ) : Type 0 where
    pub reads : (count : ℕ) (rest : List ℕ) → p count (bytes ++ rest) ≡ Ok (x, rest)
    pub ends : Ends p bytes

  pub takes_none : (x : X) → Takes (λ count rest. Ok (x, rest)) x []
  takes_none x = record { reads = λ count rest. refl; ends = λ count k h. absurd (omega arith) }

module _ {X Y : Type 0} (p : ℕ → List ℕ → Read X) (q : X → ℕ → List ℕ → Read Y) where
  -- one thing and then another
  pub then_ends : (x : X) (first rest : List ℕ) → Takes p x first → Ends (q x) rest → Ends (λ count bs. then (p count bs) (λ a after. q a count after)) (first ++ rest)
  then_ends x first rest one other count k h =
      ⊎_elim
      (λ (l : k < length first). rw (take-append-le k first rest (omega arith), one.ends count k l))
      (λ (l : length first ≤ k).
      let e : k ≡ length first + (k - length first) = omega arith in
      let c : take k (first ++ rest) ≡ first ++ take (k - length first) rest = ap (λ n. take n (first ++ rest)) e ∙ take-append-add first rest (k - length first) in
      rw (c, one.reads count (take (k - length first) rest)) (other count (k - length first) (omega (arith, length-append first rest))))
      (cases_lt k (length first))

  pub then_takes : (x : X) (y : Y) (first rest : List ℕ) → Takes p x first → Takes (q x) y rest
      → Takes (λ count bs. then (p count bs) (λ a after. q a count after)) y (first ++ rest)
  then_takes x y first rest one other =
      record {
        reads = λ count more. rw (append_assoc first rest more, one.reads count (rest ++ more)) (other.reads count more);
        ends = then_ends x first rest one other.ends;
      }

-- things of which each fits those before it
module _ {X : Type 0} (item : ℕ → List X → List ℕ → Read X) (bytes : X → List ℕ) (P : List X → X → Type 0) where
  pub several-take : ((done : List X) (x : X) → P done x → Takes (λ count. item count done) x (bytes x))
      → (done xs : List X) → Along P done xs → Takes (λ count. several (item count) (length xs) done) (done ++ xs) (flat_map bytes xs)
  several-take own done [] a = rw append-nil (takes_none done)
  several-take own done (x ∷ xs) a =
      rw (← append_assoc done (x ∷ []) xs)
      (then_takes (λ count. item count done) (λ y count. several (item count) (length xs) (done ++ (y ∷ []))) x ((done ++ (x ∷ [])) ++ xs) (bytes x) (flat_map bytes xs)
      (own done x a.0) (several-take own (done ++ (x ∷ [])) xs a.1))
