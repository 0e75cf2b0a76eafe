-- A number in bytes: groups of seven bits, lowest first; a byte from 128 on says that another group follows.
use Rattle.std.specs.Prelude.{ℕ, zero, suc, ◌+◌, ◌*◌, ◌/◌, ◌%◌, Bool, true, cond, not, ◌&&◌, List, [], ◌∷◌, Some, None, Ok, Err, Option, ◌==◌, nat_lt}
use Rattle.fault.specs.declared.kind.Kind.TheVariants.{BytesEnd, NumberForm}
use Rattle.fault.specs.Card.{fault}
use Rattle.model.specs.Bytes.{Read, at}

abbrev pub behind : ℕ → Option (List ℕ × List ℕ) → Option (List ℕ × List ℕ)
behind b None = None
behind b (Some x) = Some (b ∷ x.0, x.1)

-- the groups that the bytes begin with, up to the first byte below 128, and the bytes after them;
-- none where the bytes end first (256 and more is no byte, and ends them too)
abbrev pub groups : List ℕ → Option (List ℕ × List ℕ)
groups [] = None
groups (b ∷ bs) = cond (nat_lt b 128) (Some (b ∷ [], bs)) (cond (nat_lt b 256) (behind b (groups bs)) None)

abbrev pub value : List ℕ → ℕ
value [] = 0
value (b ∷ bs) = b % 128 + 128 * value bs

abbrev pub last : ℕ → List ℕ → ℕ
last d [] = d
last d (x ∷ xs) = last x xs

-- the fewest groups: where there are several, the last is not 0
abbrev pub fewest : List ℕ → Bool
fewest [] = true
fewest (b ∷ bs) = not (last 1 bs == 0)

abbrev pub judged : ℕ → ℕ → Option (List ℕ × List ℕ) → Read ℕ
judged count place None = Err (fault BytesEnd count)
judged count place (Some x) =
    cond (fewest x.0 && nat_lt (value x.0) 4294967296) (Ok (value x.0, x.1)) (Err (fault NumberForm place))

-- the number that the last bytes of a run of `count` begin with
unfoldable pub number : ℕ → List ℕ → Read ℕ
number count bs = judged count (at count bs) (groups bs)

-- a number in at most k groups and one
abbrev pub digits : ℕ → ℕ → List ℕ
digits zero n = n ∷ []
digits (suc k) n = cond (nat_lt n 128) (n ∷ []) ((128 + n % 128) ∷ digits k (n / 128))

-- the bytes of a number: five groups hold every number up to 4,294,967,295
unfoldable pub number_bytes : ℕ → List ℕ
number_bytes n = digits 4 n
