-- Text of a list's items, each with its number.
use Rattle.std.proofs.Common.{◌≡◌, ℕ, ◌+◌, ◌<◌, List, [], ◌∷◌, ◌++◌, length, map, get_or, take, sym, ap, ◌∙◌, append_assoc, append-nil, arith}
use Rattle.std.specs.List.{flat_map, enumerate_from}
use Rattle.std.proofs.lemmas.List.{take_more, length-take}

module _ {X Y : Type 0} (v : X → Y) (f : ℕ × Y → List ℕ) where
  abbrev text_from : ℕ → List X → List ℕ
  text_from n xs = flat_map f (enumerate_from n (map v xs))

  -- an item at the end has the number of those before it
  text_push : (n m : ℕ) (xs : List X) (x : X) → n + length xs ≡ m → text_from n (xs ++ (x ∷ [])) ≡ text_from n xs ++ f (m, v x)
  text_push n m [] x e =
      let number : n ≡ m = omega (arith, e) in
      append-nil (f (n, v x)) ∙ ap (λ k. f (k, v x)) number
  text_push n m (y ∷ xs) x e =
      ap (λ l. f (n, v y) ++ l) (text_push (n + 1) m xs x (omega (arith, e))) ∙ sym (append_assoc (f (n, v y)) (text_from (n + 1) xs) (f (m, v x)))

  -- one item more of those that are taken
  pub text_more : (xs : List X) (i : ℕ) (x : X) → i < length xs → x ≡ get_or xs i x → text_from 0 (take i xs) ++ f (i, v x) ≡ text_from 0 (take (i + 1) xs)
  text_more xs i x h is =
      sym (ap (text_from 0) (take_more xs i x h ∙ ap (λ y. take i xs ++ (y ∷ [])) (sym is)) ∙ text_push 0 i (take i xs) x (omega (arith, length-take i xs, h)))
