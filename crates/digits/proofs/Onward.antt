-- Bytes made from one pair after the other.
use Rattle.std.proofs.Common.{◌≡◌, ℕ, List, [], ◌∷◌, ◌++◌, length, get_or, Some, None, Option, refl, ap, ◌∙◌, append_assoc, arith}
use Rattle.std.specs.Option.{option_map}
use Rattle.digits.specs.declared.letters.Letters.{Letters}
use Rattle.digits.specs.Hex.{digit_value, pair_value, before, bytes_of}

-- the bytes made so far, and those of what is left
abbrev pub onto : List ℕ → Option (List ℕ) → Option (List ℕ)
onto done = option_map (λ bytes. done ++ bytes)

onto_more : (done : List ℕ) (byte : ℕ) (o : Option (List ℕ)) → onto (done ++ (byte ∷ [])) o ≡ onto done (before (Some byte) o)
onto_more done byte None = refl
onto_more done byte (Some bytes) = ap {B = Option (List ℕ)} (λ l. Some l) (append_assoc done (byte ∷ []) bytes)

-- one pair more
pub pair_more : (letters : Letters) (done : List ℕ) (byte : ℕ) (pair rest : List ℕ) → length pair ≡ 2 → Some byte ≡ pair_value (digit_value letters (get_or pair 0 0)) (digit_value letters (get_or pair 1 0)) → onto (done ++ (byte ∷ [])) (bytes_of letters rest) ≡ onto done (bytes_of letters (pair ++ rest))
pair_more letters done byte (high ∷ (low ∷ [])) rest h e = onto_more done byte (bytes_of letters rest) ∙ ap (λ o. onto done (before o (bytes_of letters rest))) e
pair_more letters done byte [] rest h e = absurd (omega (arith, h))
pair_more letters done byte (high ∷ []) rest h e = absurd (omega (arith, h))
pair_more letters done byte (high ∷ (low ∷ (more ∷ most))) rest h e = absurd (omega (arith, h))
