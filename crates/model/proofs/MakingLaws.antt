-- The laws over making a ladder.
use Rattle.std.proofs.Common.{◌≡◌, ℕ, zero, suc, ◌+◌, ◌<◌, ◌≤◌, false, ◌&&◌, ltb, leb, ◌⊎◌, List, [], ◌∷◌, length, get_or, drop, Ok, Err, sym, refl, ap, ◌∙◌, subst, inl, inr, ⊎_elim, arith}
use native.Mathlib.Numerals.{suc-eq-add-one, unary_clauses}
use Rattle.std.proofs.lemmas.List.{at_drop_more, at_drop_all}
use Rattle.std.proofs.lemmas.Bool.{cond-true, cond-false, cond_both, and_from, and_parts, and_cases, lt-ltb, ltb-true, ltb-false, le-leb, leb-true, leb-false}
use Rattle.std.proofs.lemmas.Bool.Decides.{nat_tests}
use Rattle.fault.specs.declared.kind.Fault.{Fault}
use Rattle.fault.specs.declared.kind.Kind.TheVariants.{LadderForm}
use Rattle.fault.specs.Card.{fault, OnCard}
use Rattle.model.specs.Formed.{within}
use Rattle.model.specs.Ladders.{speed}
use Rattle.model.specs.LadderLaws.{Bad, NamesTheFault, SoundSpeedsMakeALadder, RefusalsNameTheFirstBadLevel}
use Rattle.model.specs.Limits.{most_speed, most_levels}
use Rattle.model.specs.Making.{rising, making}
use Rattle.model.proofs.Fits.{within_from, within_parts}
use Rattle.model.proofs.ListReading.{cond_ok, ok_is, err_is, ok_not_err}
use Rattle.model.proofs.Rising.{Rising, rising_bounds, rising_rise, rising_from_places}

-- what is left at a level, after a level of the speed `before`, goes on or is refused
module _ {X : Type 0} (speeds : List ℕ) (x : X) (i before : ℕ) where
  pub rising_more : i < length speeds → before < speed speeds i → speed speeds i ≤ most_speed
      → rising i before (drop i speeds) x ≡ rising (i + 1) (speed speeds i) (drop (i + 1) speeds) x
  rising_more h above low =
      at_drop_more (λ ss. rising i before ss x) speeds i 0 h
      ∙ cond-true (ltb before (speed speeds i) && leb (speed speeds i) most_speed) _ _ (grind (arith, nat_tests))
      ∙ ap (λ n. rising n (speed speeds i) (drop (i + 1) speeds) x) (suc-eq-add-one i)

  pub rising_stops : i < length speeds → (before < speed speeds i → speed speeds i ≤ most_speed → ⊥)
      → rising i before (drop i speeds) x ≡ Err (fault LadderForm (i + 1))
  rising_stops h bad =
      at_drop_more (λ ss. rising i before ss x) speeds i 0 h
      ∙ cond-false (ltb before (speed speeds i) && leb (speed speeds i) most_speed) _ _ (grind (arith, nat_tests))
      ∙ ap (λ n. Err (fault LadderForm n)) (suc-eq-add-one i)

  pub rising_all : length speeds ≤ i → rising i before (drop i speeds) x ≡ Ok x
  rising_all h = at_drop_all (λ ss. rising i before ss x) speeds i h

-- the count decides first
pub making_counted : (most : ℕ) (speeds : List ℕ) → 1 ≤ length speeds → length speeds ≤ most → making most speeds ≡ rising 0 0 speeds speeds
making_counted most speeds some few = cond-true _ _ _ (within_from 1 most (length speeds) some few)

-- speeds that rise, from above `before` on and up to the most
abbrev Climbing : ℕ → List ℕ → Type 0
Climbing before ss = Rising (before + 1) (most_speed + 1) ss

rising_ok : {X : Type 0} (i before : ℕ) (ss : List ℕ) (x y : X) → rising i before ss x ≡ Ok y → (x ≡ y) × Climbing before ss
rising_ok i before [] x y e = (ok_is x y e, tt)
rising_ok i before (s ∷ ss) x y e =
    let passed = cond_ok _ _ _ y e in
    let tests = and_parts (ltb before s) (leb s most_speed) passed.0 in
    let rest = rising_ok (suc i) s ss x y passed.1 in
    (rest.0, (omega (arith, ltb-true before s tests.0), omega (arith, leb-true s most_speed tests.1), rest.1))

rising_goes : {X : Type 0} (i before : ℕ) (ss : List ℕ) (x : X) → Climbing before ss → rising i before ss x ≡ Ok x
rising_goes i before [] x c = refl
rising_goes i before (s ∷ ss) x c =
    cond-true _ _ _ (and_from _ _ (lt-ltb before s (omega (arith, c.0))) (le-leb s most_speed (omega (arith, c.1)))) ∙ rising_goes (suc i) s ss x c.2

pub sound_speeds_make_a_ladder : SoundSpeedsMakeALadder
sound_speeds_make_a_ladder most speeds = (
  λ sound few.
      making_counted most speeds sound.some_level few
      ∙ rising_goes 0 0 speeds speeds
      (rising_from_places (most_speed + 1) 1 speeds (λ i h. (sound.least i h, omega (arith, sound.most i h))) sound.rises),
  λ made e.
      let passed = cond_ok _ _ _ made e in
      let count = within_parts 1 most (length speeds) passed.0 in
      let own = rising_ok 0 0 speeds speeds made passed.1 in (
        sym own.0,
        record {
          some_level = count.0;
          least = λ i h. (rising_bounds (most_speed + 1) 1 speeds i own.1 h).0;
          most = λ i h. omega (arith, (rising_bounds (most_speed + 1) 1 speeds i own.1 h).1);
          rises = λ i j l h. rising_rise (most_speed + 1) 1 speeds i j own.1 l h;
        },
        count.1,
      ),
)

-- a level of some after the speed `before` stops them
abbrev Stops : ℕ → List ℕ → ℕ → Type 0
Stops before ss k = (get_or ss k 0 ≤ get_or (before ∷ ss) k 0) ⊎ (most_speed < get_or ss k 0)

-- the first that does
record FirstStop (before : ℕ) (ss : List ℕ) (k : ℕ) : Type 0 where
  pub inside : k < length ss
  pub stops : Stops before ss k
  pub earlier : (j : ℕ) → j < k → Stops before ss j → ⊥

rising_refused : {X : Type 0} (i before : ℕ) (ss : List ℕ) (x : X) (f : Fault) → rising i before ss x ≡ Err f
    → (k : ℕ) × FirstStop before ss k × (f ≡ fault LadderForm (i + k + 1))
rising_refused i before [] x f e = ok_not_err x f e
rising_refused i before (s ∷ ss) x f e =
    cond_both (ltb before s && leb s most_speed) _ _ (λ r. r ≡ Err f → (k : ℕ) × FirstStop before (s ∷ ss) k × (f ≡ fault LadderForm (i + k + 1)))
    (λ passed on.
    let tests = and_parts (ltb before s) (leb s most_speed) passed in
    let above = ltb-true before s tests.0 in
    let low = leb-true s most_speed tests.1 in
    let r = rising_refused (suc i) s ss x f on in (
      suc r.0,
      record { inside = omega (arith, r.1.inside); stops = r.1.stops; earlier = goes above low r.1.earlier },
      r.2 ∙ ap (fault LadderForm) (omega arith),
    ))
    (λ failed at. (
      0,
      record { inside = omega arith; stops = ⊎_elim (λ b. inl (ltb-false before s b)) (λ b. inr (leb-false s most_speed b)) (and_cases _ _ failed); earlier = λ j l. absurd (omega arith) },
      sym (err_is _ f at) ∙ ap (fault LadderForm) (omega arith),
    ))
    e
  where
    goes : {k : ℕ} → before < s → s ≤ most_speed → ((j : ℕ) → j < k → Stops s ss j → ⊥) → (j : ℕ) → j < suc k → Stops before (s ∷ ss) j → ⊥
    goes above low rest zero l stop = omega arith
    goes above low rest (suc j) l stop = rest j (omega arith) stop

-- a level stops all where it is bad
module _ (speeds : List ℕ) where
  bad_stop : (i : ℕ) → Stops 0 speeds i → Bad speeds i
  bad_stop i (inr h) = inr (inl h)
  bad_stop zero (inl h) = inl (omega arith)
  bad_stop (suc i) (inl h) = inr (inr (omega arith, simp unary_clauses h))

  stop_bad : (i : ℕ) → Bad speeds i → Stops 0 speeds i
  stop_bad i (inr (inl h)) = inr h
  stop_bad i (inl h) = inl (omega arith)
  stop_bad zero (inr (inr h)) = absurd (omega arith)
  stop_bad (suc i) (inr (inr h)) = inl (simp unary_clauses at h.1)

module _ (most : ℕ) (speeds : List ℕ) (f : Fault) where
  named : making most speeds ≡ Err f → NamesTheFault most speeds f
  named =
      cond_both (within 1 most (length speeds)) _ _ (λ r. r ≡ Err f → NamesTheFault most speeds f)
      (λ counted e.
      let r = rising_refused 0 0 speeds speeds f e in
      let k = r.0 in
      let stop = r.1 in
      inr (
        k,
        (within_parts 1 most (length speeds) counted).1,
        record { inside = stop.inside; bad = bad_stop speeds k stop.stops; before = λ j l b. stop.earlier j l (stop_bad speeds j b) },
        r.2 ∙ ap (fault LadderForm) (omega arith),
      ))
      (λ miscounted e.
      let count = ⊎_elim (λ (b : leb 1 (length speeds) ≡ false). inl (omega (arith, leb-false 1 (length speeds) b))) (λ b. inr (leb-false (length speeds) most b)) (and_cases _ _ miscounted) in
      inl (count, sym (err_is _ f e)))

  carded : NamesTheFault most speeds f → most ≤ most_levels → OnCard f
  carded (inl r) l = subst OnCard (sym r.1) refl
  carded (inr r) l = subst OnCard (sym r.3) (within_from 0 64 (r.0 + 1) (omega arith) (omega (arith, r.1, r.2.inside)))

pub refusals_name_the_first_bad_level : RefusalsNameTheFirstBadLevel
refusals_name_the_first_bad_level most speeds f e = let names = named most speeds f e in (names, carded most speeds f names)
