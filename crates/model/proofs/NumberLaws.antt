-- A number and its bytes: each gives the other back.
use Rattle.std.proofs.Common.{◌≡◌, ℕ, zero, suc, ◌+◌, ◌*◌, ◌/◌, ◌%◌, ◌<◌, ◌≤◌, true, cond, ◌&&◌, eqb, ltb, List, [], ◌∷◌, ◌++◌, length, take, Some, None, Ok, Err, Option, refl, ap, ◌∙◌, subst, ⊎_elim, arith}
use Rattle.std.proofs.lemmas.Bool.{cond_both, cases_eq, ltb-true, ltb-false, lt-ltb, le-ltb, eqb-false, ne_eqb, not-true, and_parts}
use Rattle.fault.specs.declared.kind.Kind.TheVariants.{BytesEnd, NumberForm}
use Rattle.fault.specs.Card.{fault}
use Rattle.model.specs.Bytes.{at}
use Rattle.model.specs.Numbers.{behind, groups, value, last, fewest, judged, number, digits, number_bytes}
use Rattle.model.specs.Laws.{NumbersReadBack, NumbersTakeTheirBytes}

-- the numbers of at most k groups and one are below it
abbrev pub top : ℕ → ℕ
top zero = 128
top (suc k) = 128 * top k

-- groups as they are read: each from 128 to 255, and the last below 128
abbrev pub Grouped : List ℕ → Type 0
Grouped [] = ⊥
Grouped (b ∷ []) = b < 128
Grouped (b ∷ (c ∷ cs)) = (128 ≤ b) × (b < 256) × Grouped (c ∷ cs)

-- what is written is read as groups
pub digits_grouped : (k n : ℕ) (rest : List ℕ) → n < top k → groups (digits k n ++ rest) ≡ Some (digits k n, rest)
digits_grouped zero n rest h = rw (lt-ltb n 128 h)
digits_grouped (suc k) n rest h =
    cond_both (ltb n 128) (n ∷ []) ((128 + n % 128) ∷ digits k (n / 128)) (λ ds. groups (ds ++ rest) ≡ Some (ds, rest))
    (λ e. rw e)
    (λ e. rw (le-ltb (128 + n % 128) 128 (omega arith), lt-ltb (128 + n % 128) 256 (omega arith), digits_grouped k (n / 128) rest (omega arith)))

-- it has the value of the number, does not end in 0, and is in fewest groups
pub digits_value : (k n : ℕ) → n < top k → value (digits k n) ≡ n
digits_value zero n h = omega arith
digits_value (suc k) n h =
    cond_both (ltb n 128) (n ∷ []) ((128 + n % 128) ∷ digits k (n / 128)) (λ ds. value ds ≡ n)
    (λ e. omega (arith, ltb-true n 128 e))
    (λ e. omega (arith, digits_value k (n / 128) (omega arith)))

pub digits_last : (k n d : ℕ) → 0 < n → 0 < last d (digits k n)
digits_last zero n d h = h
digits_last (suc k) n d h =
    cond_both (ltb n 128) (n ∷ []) ((128 + n % 128) ∷ digits k (n / 128)) (λ ds. 0 < last d ds)
    (λ e. h)
    (λ e. let l = ltb-false n 128 e in digits_last k (n / 128) (128 + n % 128) (omega arith))

pub digits_fewest : (k n : ℕ) → fewest (digits k n) ≡ true
digits_fewest zero n = refl
digits_fewest (suc k) n =
    cond_both (ltb n 128) (n ∷ []) ((128 + n % 128) ∷ digits k (n / 128)) (λ ds. fewest ds ≡ true)
    (λ e. refl)
    (λ e. let l = ltb-false n 128 e in let p = digits_last k (n / 128) 1 (omega arith) in rw (ne_eqb (last 1 (digits k (n / 128))) 0 (λ z. omega arith)))

-- bytes of a number that are cut short are no groups
pub digits_cut : (k n j : ℕ) → j < length (digits k n) → groups (take j (digits k n)) ≡ None
digits_cut k n zero h = refl
digits_cut zero n (suc j) h = absurd (omega arith)
digits_cut (suc k) n (suc j) h =
    cond_both (ltb n 128) (n ∷ []) ((128 + n % 128) ∷ digits k (n / 128)) (λ ds. suc j < length ds → groups (take (suc j) ds) ≡ None)
    (λ e l. absurd (omega arith))
    (λ e l. rw (le-ltb (128 + n % 128) 128 (omega arith), lt-ltb (128 + n % 128) 256 (omega arith), digits_cut k (n / 128) j (omega arith)))
    h

-- a number that is cut short ends inside
pub numbers_cut_short : (n count k : ℕ) → k < length (number_bytes n) → number count (take k (number_bytes n)) ≡ Err (fault BytesEnd count)
unfolding number number_bytes
numbers_cut_short n count k h = rw (digits_cut 4 n k h)

pub numbers_read_back : NumbersReadBack
unfolding number number_bytes
numbers_read_back n count rest h =
    rw (digits_grouped 4 n rest (omega arith), digits_fewest 4 n, digits_value 4 n (omega arith), lt-ltb n 4294967296 h)

pub number_grouped : (n : ℕ) (rest : List ℕ) → n < 4294967296 → groups (number_bytes n ++ rest) ≡ Some (number_bytes n, rest)
unfolding number_bytes
number_grouped n rest h = digits_grouped 4 n rest (omega arith)

-- what is read as groups are groups, and the bytes after them follow
pub grouped : (bs : List ℕ) (x : List ℕ × List ℕ) → groups bs ≡ Some x → (bs ≡ x.0 ++ x.1) × Grouped x.0
grouped [] x e = let z : ◌≡◌ {A = ℕ} 0 1 = cc in absurd (omega arith)
grouped (b ∷ bs) x e =
    cond_both (ltb b 128) (Some (b ∷ [], bs)) (cond (ltb b 256) (behind b (groups bs)) None) (λ o. o ≡ Some x → ((b ∷ bs) ≡ x.0 ++ x.1) × Grouped x.0)
    (λ t q. let one : (b ∷ [], bs) ≡ x = cc in rw (← one) (refl, ltb-true b 128 t))
    (λ low.
    cond_both (ltb b 256) (behind b (groups bs)) None (λ o. o ≡ Some x → ((b ∷ bs) ≡ x.0 ++ x.1) × Grouped x.0)
    (λ high. more (groups bs) (grouped bs) (ltb-false b 128 low) (ltb-true b 256 high))
    (λ high q. let z : ◌≡◌ {A = ℕ} 0 1 = cc in absurd (omega arith)))
    e
  where
    longer : (gs : List ℕ) → 128 ≤ b → b < 256 → Grouped gs → Grouped (b ∷ gs)
    longer [] l u g = absurd g
    longer (c ∷ cs) l u g = (l, u, g)

    more : (o : Option (List ℕ × List ℕ)) → ((y : List ℕ × List ℕ) → o ≡ Some y → (bs ≡ y.0 ++ y.1) × Grouped y.0) → 128 ≤ b → b < 256
        → behind b o ≡ Some x → ((b ∷ bs) ≡ x.0 ++ x.1) × Grouped x.0
    more None f l u q = let z : ◌≡◌ {A = ℕ} 0 1 = cc in absurd (omega arith)
    more (Some y) f l u q =
        let own = f y refl in
        let all : (b ∷ y.0, y.1) ≡ x = cc in
        rw (← all) (ap {B = List ℕ} (λ r. b ∷ r) own.0, longer y.0 l u own.1)

-- groups are read whatever follows, and where they are cut short there are none
pub grouped_reads : (gs more : List ℕ) → Grouped gs → groups (gs ++ more) ≡ Some (gs, more)
grouped_reads [] more g = absurd g
grouped_reads (b ∷ []) more g = rw (lt-ltb b 128 g)
grouped_reads (b ∷ (c ∷ cs)) more g = rw (le-ltb b 128 g.0, lt-ltb b 256 g.1, grouped_reads (c ∷ cs) more g.2)

pub grouped_cut : (gs : List ℕ) (k : ℕ) → Grouped gs → k < length gs → groups (take k gs) ≡ None
grouped_cut [] k g h = absurd g
grouped_cut (b ∷ bs) zero g h = refl
grouped_cut (b ∷ []) (suc k) g h = absurd (omega arith)
grouped_cut (b ∷ (c ∷ cs)) (suc k) g h = rw (le-ltb b 128 g.0, lt-ltb b 256 g.1, grouped_cut (c ∷ cs) k g.2 (omega arith))

pub grouped_some : (gs : List ℕ) → Grouped gs → 0 < length gs
grouped_some [] g = absurd g
grouped_some (b ∷ bs) g = omega arith

-- groups that do not end in 0 are worth something
grouped_value : (gs : List ℕ) (d : ℕ) → Grouped gs → 0 < last d gs → 0 < value gs
grouped_value [] d g h = absurd g
grouped_value (b ∷ []) d g h = omega arith
grouped_value (b ∷ (c ∷ cs)) d g h = omega (arith, grouped_value (c ∷ cs) b g.2 h)

-- where groups are in their fewest, the last of several is not 0
last_above : (c : ℕ) (cs : List ℕ) → fewest (0 ∷ (c ∷ cs)) ≡ true → 0 < last c cs
last_above c cs f = ⊎_elim (λ (z : last c cs ≡ 0). absurd (eqb-false (last c cs) 0 (not-true (eqb (last c cs) 0) f) z)) (λ n. omega arith) (cases_eq (last c cs) 0)

last_some : (c : ℕ) (cs : List ℕ) → 0 < last c cs → 0 < last 1 cs
last_some c [] h = omega arith
last_some c (d ∷ ds) h = h

-- one group more in front
digits_more : (k b v : ℕ) → 128 ≤ b → b < 256 → 0 < v → digits (suc k) (b % 128 + 128 * v) ≡ b ∷ digits k v
digits_more k b v l u h =
    let first : 128 + (b % 128 + 128 * v) % 128 ≡ b = omega arith in
    let after : (b % 128 + 128 * v) / 128 ≡ v = omega arith in
    rw (le-ltb (b % 128 + 128 * v) 128 (omega arith), first, after)

-- groups in their fewest are what is written for their value
pub digits_value_back : (k : ℕ) (gs : List ℕ) → Grouped gs → fewest gs ≡ true → value gs < top k → digits k (value gs) ≡ gs
digits_value_back k [] g f h = absurd g
digits_value_back zero (b ∷ []) g f h = let e : b % 128 + 128 * 0 ≡ b = omega arith in rw e
digits_value_back (suc k) (b ∷ []) g f h = let e : b % 128 + 128 * 0 ≡ b = omega arith in rw (e, lt-ltb b 128 g)
digits_value_back zero (b ∷ (c ∷ cs)) g f h =
    let some = grouped_value (c ∷ cs) b g.2 (last_above c cs f) in absurd (omega arith)
digits_value_back (suc k) (b ∷ (c ∷ cs)) g f h =
    let end = last_above c cs f in
    let few : fewest (c ∷ cs) ≡ true = rw (ne_eqb (last 1 cs) 0 (λ z. omega (arith, last_some c cs end))) in
    let back = digits_value_back k (c ∷ cs) g.2 few (omega arith) in
    digits_more k b (value (c ∷ cs)) g.0 g.1 (grouped_value (c ∷ cs) b g.2 end) ∙ ap {B = List ℕ} (λ r. b ∷ r) back

pub numbers_take_their_bytes : NumbersTakeTheirBytes
unfolding number number_bytes
numbers_take_their_bytes n count bs rest e = taken (groups bs) (grouped bs) e
  where
    taken : (o : Option (List ℕ × List ℕ)) → ((x : List ℕ × List ℕ) → o ≡ Some x → (bs ≡ x.0 ++ x.1) × Grouped x.0)
        → judged count (at count bs) o ≡ Ok (n, rest) → (n < 4294967296) × (bs ≡ digits 4 n ++ rest)
    taken None f q = let z : ◌≡◌ {A = ℕ} 0 1 = cc in absurd (omega arith)
    taken (Some x) f q =
        let own = f x refl in
        cond_both (fewest x.0 && ltb (value x.0) 4294967296) (Ok (value x.0, x.1)) (Err (fault NumberForm (at count bs)))
        (λ r. r ≡ Ok (n, rest) → (n < 4294967296) × (bs ≡ digits 4 n ++ rest))
        (λ t j.
        let p = and_parts (fewest x.0) (ltb (value x.0) 4294967296) t in
        let below = ltb-true (value x.0) 4294967296 p.1 in
        let back = digits_value_back 4 x.0 own.1 p.0 (omega arith) in
        let is : (value x.0, x.1) ≡ (n, rest) = cc in
        subst (λ (y : ℕ × List ℕ). (y.0 < 4294967296) × (bs ≡ digits 4 y.0 ++ y.1)) is (below, rw back own.0))
        (λ t j. let z : ◌≡◌ {A = ℕ} 0 1 = cc in absurd (omega arith))
        q
