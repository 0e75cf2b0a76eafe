-- Writing group by group.
use Rattle.std.proofs.Common.{◌≡◌, ℕ, zero, suc, ◌+◌, ◌-◌, ◌/◌, ◌%◌, ◌^◌, ◌<◌, ◌≤◌, List, [], ◌∷◌, ◌++◌, refl, ◌∙◌, append_assoc, arith}
use Rattle.std.proofs.lemmas.Bool.{le-ltb}
use Rattle.model.specs.Numbers.{digits}

-- what is left after a group fits the groups that are left
pub room : (len left : ℕ) → len ≤ 4 → left < 128 ^ (5 - len) → 128 ≤ left → (len < 4) × (left / 128 < 128 ^ (5 - (len + 1)))
room zero left few small high = (omega arith, omega arith)
room (suc zero) left few small high = (omega arith, omega arith)
room (suc (suc zero)) left few small high = (omega arith, omega arith)
room (suc (suc (suc zero))) left few small high = (omega arith, omega arith)
room (suc (suc (suc (suc zero)))) left few small high = absurd (omega arith)
room (suc (suc (suc (suc (suc len))))) left few small high = absurd (omega arith)

-- one group that another follows
pub digits_more : (done : List ℕ) (len left : ℕ) → len < 4 → 128 ≤ left → (done ++ ((128 + left % 128) ∷ [])) ++ digits (4 - (len + 1)) (left / 128) ≡ done ++ digits (4 - len) left
digits_more done len left few high =
    let n : 4 - len ≡ suc (4 - (len + 1)) = omega arith in
    append_assoc done ((128 + left % 128) ∷ []) (digits (4 - (len + 1)) (left / 128)) ∙ rw n (rw (le-ltb left 128 high) refl)
