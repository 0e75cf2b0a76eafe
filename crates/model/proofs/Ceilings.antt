-- A quotient, and one where something remains, is the quotient rounded up.
use Rattle.std.proofs.Common.{◌≡◌, ℕ, ◌+◌, ◌-◌, ◌*◌, ◌/◌, ◌%◌, ◌≤◌, min, sym, ap, ◌∙◌, ⊎_elim, mod-lt, div-add-mod', arith}
use lib.Arith.{digits_div}
use Rattle.std.proofs.lemmas.Bool.{cases_eq}

pub rounded_up : (n d : ℕ) → 1 ≤ d → n / d + min 1 (n % d) ≡ (n + (d - 1)) / d
rounded_up n d some =
    let q = n / d in
    let r = n % d in
    let whole = div-add-mod' n d in
    let less = mod-lt n some in
    ⊎_elim
    (λ (none : r ≡ 0).
    let sum : n + (d - 1) ≡ q * d + (d - 1) = omega arith in
    let here : q + min 1 r ≡ q = omega arith in
    here ∙ sym (ap (λ m. m / d) sum ∙ digits_div q (omega arith)))
    (λ left.
    let sum : n + (d - 1) ≡ (q + 1) * d + (r - 1) = omega arith in
    let here : q + min 1 r ≡ q + 1 = omega arith in
    here ∙ sym (ap (λ m. m / d) sum ∙ digits_div (q + 1) (omega arith)))
    (cases_eq r 0)
