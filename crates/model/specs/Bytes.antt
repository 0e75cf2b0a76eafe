-- What reading answers: what was read and the bytes after it, or the first fault.
use Rattle.std.specs.Prelude.{ℕ, zero, suc, ◌-◌, cond, List, [], ◌∷◌, ◌++◌, length, take, drop, Ok, Err, Result, nat_le}
use Rattle.fault.specs.declared.kind.Fault.{Fault}
use Rattle.fault.specs.declared.kind.Kind.TheVariants.{BytesEnd}
use Rattle.fault.specs.Card.{fault}

abbrev pub Read : Type 0 → Type 0
Read X = Result (X × List ℕ) Fault

-- goes on with what was read
abbrev pub then : {X Y : Type 0} → Read X → (X → List ℕ → Result Y Fault) → Result Y Fault
then (Ok x) f = f x.0 x.1
then (Err e) f = Err e

-- where the bytes that are left begin, of a run of `count`
abbrev pub at : ℕ → List ℕ → ℕ
at count bs = count - length bs

-- the next `size` bytes
abbrev pub string : ℕ → ℕ → List ℕ → Read (List ℕ)
string count size bs = cond (nat_le size (length bs)) (Ok (take size bs, drop size bs)) (Err (fault BytesEnd count))

-- n things more, each read by `item`, which is told those before it
abbrev pub several : {X : Type 0} → (List X → List ℕ → Read X) → ℕ → List X → List ℕ → Read (List X)
several item zero done bs = Ok (done, bs)
several item (suc n) done bs = then (item done bs) (λ x rest. several item n (done ++ (x ∷ [])) rest)
