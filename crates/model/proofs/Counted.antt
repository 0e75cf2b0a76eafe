-- The numbers from one on, and distinct numbers below one.
use Rattle.std.proofs.Common.{◌≡◌, ℕ, zero, suc, ◌+◌, ◌<◌, ◌≤◌, Bool, true, false, List, ◌∷◌, length, filter, inl, inr, ⊎_elim, arith}
use Rattle.std.specs.List.{range_with_len}
use Rattle.std.proofs.lemmas.List.FromFn.{length-range_with_len}
use Rattle.std.proofs.lemmas.Bool.{cases_eq}
use Rattle.model.specs.Lists.{In, Apart}
use Rattle.model.proofs.Members.{no_longer, in_or_not}

pub counting_in : (a n x : ℕ) → In x (range_with_len a n) → (a ≤ x) × (x < a + n)
counting_in a zero x i = absurd i
counting_in a (suc n) x (inl e) = (omega (arith, e), omega (arith, e))
counting_in a (suc n) x (inr i) = let r = counting_in (a + 1) n x i in (omega (arith, r), omega (arith, r))

pub in_counting : (a n x : ℕ) → a ≤ x → x < a + n → In x (range_with_len a n)
in_counting a zero x l h = absurd (omega arith)
in_counting a (suc n) x l h = ⊎_elim (λ e. inl e) (λ f. inr (in_counting (a + 1) n x (omega arith) (omega arith))) (cases_eq x a)

pub apart_counting : (a n : ℕ) → Apart (range_with_len a n)
apart_counting a zero = tt
apart_counting a (suc n) = (λ i. omega (arith, counting_in (a + 1) n a i), apart_counting (a + 1) n)

-- those below n
pub below_in : (n x : ℕ) → In x (range_with_len 0 n) → x < n
below_in n x i = omega (arith, counting_in 0 n x i)

pub in_below : (n x : ℕ) → x < n → In x (range_with_len 0 n)
in_below n x h = in_counting 0 n x (omega arith) (omega arith)

-- distinct numbers below n are at most n, and where there are n, all of them; a list that has all of them is at least as long
module _ (xs : List ℕ) (n : ℕ) where
  pub few_below : Apart xs → ((x : ℕ) → In x xs → x < n) → length xs ≤ n
  few_below apart below = omega (arith, length-range_with_len 0 n, no_longer xs (range_with_len 0 n) apart (λ x i. in_below n x (below x i)))

  pub many_below : ((x : ℕ) → x < n → In x xs) → n ≤ length xs
  many_below all = omega (arith, length-range_with_len 0 n, no_longer (range_with_len 0 n) xs (apart_counting 0 n) (λ x i. all x (below_in n x i)))

pub all_below : (xs : List ℕ) (n : ℕ) → Apart xs → ((x : ℕ) → In x xs → x < n) → n ≤ length xs → (x : ℕ) → x < n → In x xs
all_below xs n apart below long x h =
    ⊎_elim (λ i. i)
    (λ out. absurd (omega (arith, few_below (x ∷ xs) n (out, apart) (λ y. ⊎_elim (λ e. rw e h) (λ i. below y i)))))
    (in_or_not xs x)

-- the first that a test keeps: it passes, and none below it does
pub kept_first : (p : ℕ → Bool) (a n x : ℕ) → a ≤ x → x < a + n → p x ≡ true → ((y : ℕ) → a ≤ y → y < x → p y ≡ false) → (rest : List ℕ) × (filter p (range_with_len a n) ≡ x ∷ rest)
kept_first p a zero x l h e none = absurd (omega arith)
kept_first p a (suc n) x l h e none =
    ⊎_elim
    (λ (q : x ≡ a). let here : p a ≡ true = rw q at e in (filter p (range_with_len (a + 1) n), rw (here, q)))
    (λ other.
    let r = kept_first p (a + 1) n x (omega arith) (omega arith) e (λ y m b. none y (omega arith) b) in
    let skip : p a ≡ false = none a (omega arith) (omega arith) in
    (r.0, rw skip r.1))
    (cases_eq x a)
