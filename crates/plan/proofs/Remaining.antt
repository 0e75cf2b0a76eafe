-- A segment's remaining length, from those of the segments after it.
use Rattle.std.proofs.Common.{◌≡◌, ℕ, suc, ◌+◌, ◌-◌, ◌<◌, ◌≤◌, List, [], ◌∷◌, get_or, drop, refl, ap, inl, inr, arith}
use Rattle.std.proofs.lemmas.List.{get_or-drop}
use Rattle.model.specs.Canonical.{length_of}
use Rattle.model.specs.Graph.{Graph}
use Rattle.model.specs.Lists.{In}
use Rattle.model.specs.Places.{segment, count, exits_of, Formed}
use Rattle.model.specs.Times.{largest, lengths, remaining}
use Rattle.model.proofs.LengthLaws.{remaining_is, exit_later}

-- where no exit is below k, the lengths from k on are all that it takes
largest-drop : (xs : List ℕ) (k : ℕ) (es : List ℕ) → ((e : ℕ) → In e es → k ≤ e) → largest (drop k xs) k es ≡ largest xs 0 es
largest-drop xs k [] later = refl
largest-drop xs k (e ∷ es) later =
    let own : k + (e - k) ≡ e - 0 = omega (arith, later e (inl refl)) in
    omega (arith, get_or-drop k xs (e - k) 0, ap (λ n. get_or xs n 0) own, largest-drop xs k es (λ x i. later x (inr i)))

-- the length of a segment and the largest at its exits, in a list that has the remaining lengths after it
pub remaining_from : (g : Graph) → Formed g → (xs : List ℕ) (s : ℕ) → s < count g → drop (suc s) xs ≡ drop (suc s) (lengths g.cores 0 g.segments)
    → length_of g.cores (segment g s) + largest xs 0 (exits_of g s) ≡ remaining g s
remaining_from g f xs s h same =
    let es = exits_of g s in
    let own : suc (0 + s) ≡ suc s = omega arith in
    let later = largest-drop xs (suc s) es (λ e i. (exit_later g f s e h i).0) in
    omega (arith, remaining_is g s h, ap (λ l. largest l (suc (0 + s)) es) same, ap (λ k. largest (drop (suc s) xs) k es) own, later)
