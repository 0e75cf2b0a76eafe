-- Looking for a segment among the exits.
use Rattle.std.proofs.Common.{◌≡◌, ℕ, suc, ◌+◌, ◌-◌, ◌<◌, Bool, cond, ◌||◌, eqb, List, [], ◌∷◌, map, Err, vec_items, sym, refl, ap, arith}
use Rattle.std.proofs.lemmas.List.Elements.{contains_decides}
use Rattle.std.proofs.lemmas.Bool.Decides.{Decides-eqb, Decides-like, Decides-by_or, same_from_decides}
use Rattle.std.specs.List.{IsAnyAnswer, list_any}
use Rattle.fault.specs.declared.kind.Kind.TheVariants.{NoEntry}
use Rattle.fault.specs.Card.{fault}
use Rattle.model.specs.Graph.{Graph, entered}
use Rattle.model.specs.Lists.{has}
use Rattle.model.specs.Reading.{entries}
use Rattle.graph.specs.Meaning.{segment_of}
use Rattle.graph.specs.declared.parts.Segment.{Segment}

-- what `contains` answers
pub contains_has : (xs : List ℕ) (x : ℕ) (r : Bool) → IsAnyAnswer (λ y t. eqb y x ≡ t) xs r → r ≡ has xs x
contains_has xs x r found =
    same_from_decides r (has xs x) (contains_decides eqb Decides-eqb xs x r found)
    (Decides-by_or (λ y. eqb x y) (λ y. y ≡ x) (λ ys. has ys x) (λ y. Decides-like (eqb x y) sym sym (Decides-eqb x y)) refl (λ _ _. refl) xs)

-- looking among the exits of each segment
pub entered_any : (xs : List Segment) (n : ℕ) → list_any (λ s. has (vec_items s.exits) n) xs ≡ entered (map segment_of xs) n
entered_any [] n = refl
entered_any (s ∷ xs) n = ap (λ b. has (vec_items s.exits) n || b) (entered_any xs n)

-- one segment of the `many` on, from the k-th
pub entries_more : (g : Graph) (k many : ℕ) → k < many → entries g k (many - k) ≡ cond (entered g.segments k) (entries g (k + 1) (many - (k + 1))) (Err (fault NoEntry k))
entries_more g k many h = let n : many - k ≡ suc (many - (k + 1)) = omega arith in rw n refl
