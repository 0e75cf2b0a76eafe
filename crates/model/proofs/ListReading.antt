-- Reading one thing after another: what a reading without fault says of its parts.
use Rattle.std.proofs.Common.{◌≡◌, ℕ, zero, suc, Bool, true, false, cond, List, [], ◌∷◌, ◌++◌, length, Ok, Err, Result, sym, refl, ap, ◌∙◌, append_assoc, append-nil, arith}
use Rattle.std.specs.List.{flat_map}
use Rattle.fault.specs.declared.kind.Fault.{Fault}
use Rattle.model.specs.Bytes.{Read, then, several}
use Rattle.model.proofs.Along.{Along}

module _ {X Y G : Type 0} where
  -- what was read first, and what was read after it
  pub then_ok : (r : Read X) (f : X → List ℕ → Result Y Fault) (y : Y) → then r f ≡ Ok y
      → ((x : X) (rest : List ℕ) → r ≡ Ok (x, rest) → f x rest ≡ Ok y → G) → G
  then_ok (Ok p) f y e k = k p.0 p.1 refl e
  then_ok (Err d) f y e k = let z : ◌≡◌ {A = ℕ} 0 1 = cc in absurd (omega arith)

  -- the fault of what is read first, or of what is read after it
  pub then_err : (r : Read X) (f : X → List ℕ → Result Y Fault) (d : Fault) → then r f ≡ Err d
      → (r ≡ Err d → G) → ((x : X) (rest : List ℕ) → r ≡ Ok (x, rest) → f x rest ≡ Err d → G) → G
  then_err (Ok p) f d e first second = second p.0 p.1 refl e
  then_err (Err c) f d e first second = first (cc)

module _ {Y : Type 0} where
  -- a test that was passed
  pub cond_ok : (b : Bool) (r : Result Y Fault) (d : Fault) (y : Y) → cond b r (Err d) ≡ Ok y → (b ≡ true) × (r ≡ Ok y)
  cond_ok true r d y e = (refl, e)
  cond_ok false r d y e = let z : ◌≡◌ {A = ℕ} 0 1 = cc in absurd (omega arith)

  pub ok_is : (x y : Y) → ◌≡◌ {A = Result Y Fault} (Ok x) (Ok y) → x ≡ y
  ok_is x y e = cc

  pub err_is : (c d : Fault) → ◌≡◌ {A = Result Y Fault} (Err c) (Err d) → c ≡ d
  err_is c d e = cc

  pub ok_not_err : {G : Type 0} (y : Y) (d : Fault) → ◌≡◌ {A = Result Y Fault} (Ok y) (Err d) → G
  ok_not_err y d e = let z : ◌≡◌ {A = ℕ} 0 1 = cc in absurd (omega arith)

-- things read by `item` and written by `bytes`: what is read fits, and takes its bytes
module _ {X : Type 0} (item : List X → List ℕ → Read X) (bytes : X → List ℕ) (P : List X → X → Type 0)
    (sound : (done : List X) (bs : List ℕ) (x : X) (rest : List ℕ) → item done bs ≡ Ok (x, rest) → P done x × (bs ≡ bytes x ++ rest)) where
  pub several_sound : (n : ℕ) (done ys : List X) (bs rest : List ℕ) → several item n done bs ≡ Ok (ys, rest)
      → (xs : List X) × (ys ≡ done ++ xs) × (length xs ≡ n) × Along P done xs × (bs ≡ flat_map bytes xs ++ rest)
  several_sound zero done ys bs rest e =
      let p = ok_is (done, bs) (ys, rest) e in
      ([], sym (ap (λ (q : List X × List ℕ). q.0) p) ∙ sym (append-nil done), refl, tt, ap (λ (q : List X × List ℕ). q.1) p)
  several_sound (suc n) done ys bs rest e =
      then_ok (item done bs) _ _ e (λ x after is then_is.
      let own = sound done bs x after is in
      let r = several_sound n (done ++ (x ∷ [])) ys after rest then_is in (
        x ∷ r.0,
        r.1 ∙ append_assoc done (x ∷ []) r.0,
        ap suc r.2,
        (own.0, r.3),
        own.1 ∙ ap (λ t. bytes x ++ t) r.4 ∙ sym (append_assoc (bytes x) (flat_map bytes r.0) rest),
      ))
