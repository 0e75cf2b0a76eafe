-- The bytes that hexadecimal digits stand for.
use Rattle.std.specs.Prelude.{ℕ, ◌+◌, ◌-◌, ◌*◌, Bool, true, false, cond, ◌&&◌, List, [], ◌∷◌, Some, None, codes, Option, nat_le}
use Rattle.std.specs.Str.{bytes_eq}
use Rattle.digits.specs.declared.letters.Letters.{Letters}
use Rattle.digits.specs.declared.letters.Letters.TheVariants.{Lower, Either}

abbrev between : ℕ → ℕ → ℕ → Bool
between first last b = nat_le first b && nat_le b last

abbrev takes_capitals : Letters → Bool
takes_capitals Lower = false
takes_capitals Either = true

-- 0 to 9, and a to f for 10 to 15, or A to F too where either case is taken
abbrev pub digit_value : Letters → ℕ → Option ℕ
digit_value letters b =
    cond (between 48 57 b) (Some (b - 48))
    (cond (between 97 102 b) (Some (b - 97 + 10))
    (cond (takes_capitals letters && between 65 70 b) (Some (b - 65 + 10)) None))

-- the high digit and the low one
abbrev pub pair_value : Option ℕ → Option ℕ → Option ℕ
pair_value None low = None
pair_value (Some high) None = None
pair_value (Some high) (Some low) = Some (high * 16 + low)

-- a byte, and those that come after it
abbrev pub before : Option ℕ → Option (List ℕ) → Option (List ℕ)
before None bytes = None
before (Some byte) None = None
before (Some byte) (Some bytes) = Some (byte ∷ bytes)

-- pairs of digits, the high one first; none where a digit is wrong or one is left over
abbrev pub bytes_of : Letters → List ℕ → Option (List ℕ)
bytes_of letters [] = Some []
bytes_of letters (one ∷ []) = None
bytes_of letters (high ∷ (low ∷ rest)) = before (pair_value (digit_value letters high) (digit_value letters low)) (bytes_of letters rest)

-- a word of a test has - for no bytes
abbrev pub word_bytes : Letters → List ℕ → Option (List ℕ)
word_bytes letters text = cond (bytes_eq text (codes "-")) (Some []) (bytes_of letters text)
