-- The best of a list, by a test that ranks.
use Rattle.std.proofs.Common.{◌≡◌, Bool, false, List, ◌∷◌, subst}
use Rattle.std.specs.Cmp.{IsStrictWeakOrder}
use Rattle.std.specs.List.{best_of}
use Rattle.std.proofs.lemmas.List.MinMax.{IsFirstBest-from_best_of}
use Rattle.model.specs.Lists.{In}
use Rattle.model.proofs.Members.{place, at_place}

-- it stands in the list, and nothing there beats it
module _ {A : Type 0} (beats : A → A → Bool) (ranks : IsStrictWeakOrder beats) (a : A) (xs : List A) where
  pub best_in : In (best_of beats a xs) (a ∷ xs)
  best_in =
      let r = IsFirstBest-from_best_of ranks a xs in
      subst (λ (b : A). In b (a ∷ xs)) r.2 (at_place a (a ∷ xs) r.0 r.1.0)

  pub best_beaten : (x : A) → In x (a ∷ xs) → beats x (best_of beats a xs) ≡ false
  best_beaten x i =
      let r = IsFirstBest-from_best_of ranks a xs in
      let k = place x a (a ∷ xs) i in
      let n = r.1.1 k.0 a k.1 in
      rw (k.2, r.2) at n
