-- Reading group by group, with a sum and a weight that stop at their caps, comes to the number that the model reads.
use Rattle.std.proofs.Common.{◌≡◌, ℕ, ◌+◌, ◌*◌, ◌%◌, ◌<◌, ◌≤◌, min, Bool, true, false, cond, not, ◌&&◌, ◌||◌, eqb, ltb, List, [], ◌∷◌, ◌++◌, Some, None, Ok, Err, Option, refl, ap, ◌∙◌, ⊎_elim, append_assoc, mul-le-mul_right, mul_assoc, zero-mul, arith}
use native.Mathlib.Nat.{min-eq_left, min-eq_right}
use Rattle.std.proofs.lemmas.Bool.{cases_lt, cases_eq, lt-ltb, le-ltb, ne_eqb}
use Rattle.std.proofs.lemmas.Bool.Decides.{nat_tests}
use Rattle.fault.specs.declared.kind.Kind.TheVariants.{BytesEnd, NumberForm}
use Rattle.fault.specs.Card.{fault}
use Rattle.model.specs.Bytes.{Read, at}
use Rattle.model.specs.Numbers.{number, judged, groups, behind, value, last, fewest}

-- what the groups after some others weigh, and the sum with one group more, as the code keeps them
abbrev pub heavier : ℕ → ℕ
heavier weight = min (weight * 128) 34359738368

abbrev pub added : ℕ → ℕ → ℕ → ℕ
added sum weight b = min (sum + b % 128 * weight) 4294967296

-- the answer at the last group b, where the sum with it is known
abbrev pub ended : ℕ → ℕ → ℕ → ℕ → List ℕ → Read ℕ
ended place sum weight b bs =
    cond (eqb sum 4294967296 || (eqb b 0 && ltb 1 weight)) (Err (fault NumberForm place)) (Ok (sum, bs))

-- the answer where the groups so far come to `sum` and the next one has `weight`
abbrev pub onward : ℕ → ℕ → ℕ → ℕ → List ℕ → Read ℕ
onward count place sum weight [] = Err (fault BytesEnd count)
onward count place sum weight (b ∷ bs) =
    cond (ltb b 128) (ended place (added sum weight b) weight b bs)
    (cond (ltb b 256) (onward count place (added sum weight b) (heavier weight) bs) (Err (fault BytesEnd count)))

-- what a group weighs that comes after these
abbrev weighs : List ℕ → ℕ
weighs [] = 1
weighs (x ∷ xs) = 128 * weighs xs

value_push : (done : List ℕ) (b : ℕ) → value (done ++ (b ∷ [])) ≡ value done + b % 128 * weighs done
value_push [] b = omega arith
value_push (x ∷ xs) b = omega (arith, value_push xs b, mul_assoc (b % 128) 128 (weighs xs), mul_assoc 128 (b % 128) (weighs xs))

weighs_push : (done : List ℕ) (b : ℕ) → weighs (done ++ (b ∷ [])) ≡ weighs done * 128
weighs_push [] b = refl
weighs_push (x ∷ xs) b = omega (arith, weighs_push xs b)

-- a cap on the weight and on the sum changes nothing below the cap on the sum
capped : (sum weight d : ℕ) → min (min sum 4294967296 + d * min weight 34359738368) 4294967296 ≡ min (sum + d * weight) 4294967296
capped sum weight d =
    ⊎_elim
    (λ (heavy : 34359738368 < weight). ⊎_elim
    (λ (none : d ≡ 0). rw none (rw (zero-mul, zero-mul) (omega arith)))
    (λ some. omega (arith, mul-le-mul_right (min weight 34359738368) (one_up d some), mul-le-mul_right weight (one_up d some)))
    (cases_eq d 0))
    (λ (light : weight ≤ 34359738368). rw (min-eq_left {n = weight} {m = 34359738368} light) (omega arith))
    (cases_lt 34359738368 weight)
  where
    one_up : (d : ℕ) → (d ≡ 0 → ⊥) → 1 ≤ d
    one_up d some = omega (arith, some)

abbrev onto : List ℕ → Option (List ℕ × List ℕ) → Option (List ℕ × List ℕ)
onto done None = None
onto done (Some x) = Some (done ++ x.0, x.1)

onto_behind : (done : List ℕ) (b : ℕ) (g : Option (List ℕ × List ℕ)) → onto (done ++ (b ∷ [])) g ≡ onto done (behind b g)
onto_behind done b None = refl
onto_behind done b (Some x) = ap {B = Option (List ℕ × List ℕ)} (λ l. Some (l, x.1)) (append_assoc done (b ∷ []) x.0)

onto_none : (g : Option (List ℕ × List ℕ)) → onto [] g ≡ g
onto_none None = refl
onto_none (Some x) = refl

last_push : (d : ℕ) (xs : List ℕ) (b : ℕ) → last d (xs ++ (b ∷ [])) ≡ b
last_push d [] b = refl
last_push d (x ∷ xs) b = last_push x xs b

weighs_some : (xs : List ℕ) → 1 ≤ weighs xs
weighs_some [] = omega arith
weighs_some (x ∷ xs) = omega (arith, weighs_some xs)

-- where a last group of 0 is one too many
fewest_push : (done : List ℕ) (b : ℕ) → fewest (done ++ (b ∷ [])) ≡ not (eqb b 0 && ltb 1 (min (weighs done) 34359738368))
fewest_push [] b = grind (arith, nat_tests)
fewest_push (x ∷ xs) b = let some = weighs_some xs in rw (last_push 1 xs b) (grind (arith, nat_tests, some))

-- the two ways to judge the sum x with the last group; z says that this group is one too many
judge : (x : ℕ) (z : Bool) (e : Read ℕ) (bs : List ℕ) → cond (eqb (min x 4294967296) 4294967296 || z) e (Ok (min x 4294967296, bs)) ≡ cond (not z && ltb x 4294967296) (Ok (x, bs)) e
judge x z e bs =
    ⊎_elim
    (λ (small : x < 4294967296). rw (min-eq_left {n = x} {m = 4294967296} (omega arith)) (rw (ne_eqb x 4294967296 (omega arith)) (rw (lt-ltb x 4294967296 small)
    (elim z as (λ v. cond (false || v) e (Ok (x, bs)) ≡ cond (not v && true) (Ok (x, bs)) e) [ true ↦ refl | false ↦ refl ]))))
    (λ (large : 4294967296 ≤ x). rw (min-eq_right {n = 4294967296} {m = x} large) (rw (le-ltb x 4294967296 large)
    (elim z as (λ v. cond (true || v) e (Ok (4294967296, bs)) ≡ cond (not v && false) (Ok (x, bs)) e) [ true ↦ refl | false ↦ refl ])))
    (cases_lt x 4294967296)

module _ (count place : ℕ) where
  last_group : (done bs : List ℕ) (b : ℕ) → ended place (added (min (value done) 4294967296) (min (weighs done) 34359738368) b) (min (weighs done) 34359738368) b bs ≡ judged count place (Some (done ++ (b ∷ []), bs))
  last_group done bs b =
      rw (value_push done b, fewest_push done b, capped (value done) (weighs done) (b % 128))
      (judge (value done + b % 128 * weighs done) (eqb b 0 && ltb 1 (min (weighs done) 34359738368)) (Err (fault NumberForm place)) bs)

  onward_judged : (done bs : List ℕ) → onward count place (min (value done) 4294967296) (min (weighs done) 34359738368) bs ≡ judged count place (onto done (groups bs))
  onward_judged done [] = refl
  onward_judged done (b ∷ bs) =
      let next = onward_judged (done ++ (b ∷ [])) bs in
      ⊎_elim
      (λ (low : b < 128). rw (lt-ltb b 128 low) (last_group done bs b))
      (λ (high : 128 ≤ b). rw (le-ltb b 128 high) (⊎_elim
      (λ (byte : b < 256). rw (lt-ltb b 256 byte) (step done bs b next))
      (λ (none : 256 ≤ b). rw (le-ltb b 256 none) refl)
      (cases_lt b 256)))
      (cases_lt b 128)
    where
      step : (done bs : List ℕ) (b : ℕ) → onward count place (min (value (done ++ (b ∷ []))) 4294967296) (min (weighs (done ++ (b ∷ []))) 34359738368) bs ≡ judged count place (onto (done ++ (b ∷ [])) (groups bs)) → onward count place (added (min (value done) 4294967296) (min (weighs done) 34359738368) b) (heavier (min (weighs done) 34359738368)) bs ≡ judged count place (onto done (behind b (groups bs)))
      step done bs b next =
          let w : min (weighs done * 128) 34359738368 ≡ heavier (min (weighs done) 34359738368) = omega arith in
          let s = capped (value done) (weighs done) (b % 128) in
          rw s (rw (← w) (rw (value_push done b, weighs_push done b, onto_behind done b (groups bs)) at next))

-- from the first group on
pub onward_number : (count : ℕ) (bs : List ℕ) → onward count (at count bs) 0 1 bs ≡ number count bs
unfolding number
onward_number count bs = onward_judged count (at count bs) [] bs ∙ ap (judged count (at count bs)) (onto_none (groups bs))
