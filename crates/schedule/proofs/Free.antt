-- The lowest free core, place by place.
use Rattle.std.proofs.Common.{◌≡◌, ℕ, ◌<◌, ◌≤◌, Bool, true, false, not, List, length, get_or, take, Some, None, position, sym, ◌∙◌, arith}
use Rattle.std.proofs.lemmas.Bool.{not-true, not-false}
use Rattle.std.proofs.lemmas.Grind.{common_steps}
use Rattle.std.proofs.lemmas.List.{length-take, get_or-take}
use Rattle.std.proofs.lemmas.List.Quantifiers.{position-Some}
use Rattle.std.proofs.lemmas.List.Sums.{fails_before_first}
use Rattle.std.specs.List.{position_or_len}

pub free_some : (T : List Bool) (n c : ℕ) → Some c ≡ position not (take n T) → (c < n) × (get_or T c false ≡ false) × ((k : ℕ) → k < c → get_or T k false ≡ true)
free_some T n c is =
    let r = position-Some not (take n T) c false (sym is) in
    let low : c < n = omega (arith, r.0, length-take n T) in (
      low,
      sym (get_or-take n T c false low) ∙ not-true (get_or (take n T) c false) r.1,
      (λ k l. sym (get_or-take n T k false (omega (arith, l, low))) ∙ not-false (get_or (take n T) k false) (r.2 k l)),
    )

pub free_none : (T : List Bool) (n : ℕ) → n ≤ length T → None ≡ position not (take n T) → (c : ℕ) → c < n → get_or T c false ≡ true
free_none T n room is c low =
    let past : length (take n T) ≤ position_or_len not (take n T) = grind (arith, common_steps) in
    sym (get_or-take n T c false low) ∙ not-false (get_or (take n T) c false) (fails_before_first not (take n T) c false (omega (arith, past, length-take n T, low, room)))
