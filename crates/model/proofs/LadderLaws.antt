-- The laws over the times and the floors of a ladder.
use Rattle.std.proofs.Common.{◌≡◌, ℕ, zero, suc, ◌+◌, ◌-◌, ◌*◌, ◌/◌, ◌<◌, ◌≤◌, leb, ◌⊎◌, List, [], ◌∷◌, length, get_or, Some, None, Option, refl, ap, ◌∙◌, inl, inr, ⊎_elim, mul_comm, mul-le-mul_left, le_of_mul-le-mul_right, arith}
use Rattle.std.proofs.lemmas.Bool.{cond_both, cases_eq, cases_lt, leb-true, leb-false}
use Rattle.model.specs.Ladders.{Sound, speed, top, full, takes, time, lowest, floor}
use Rattle.model.specs.LadderLaws.{FullSpeedTakesTheWork, TimesNeverRise, TimesAreTheLeast, FloorsExistWhereWorkFits, FloorsPartTheLevels}
use Rattle.model.proofs.Rounded.{rounded_covers, rounded_within}

module _ (speeds : List ℕ) (work window s : ℕ) where
  -- a speed's time is within the window exactly where the speed does the work in the window
  pub within_window : 1 ≤ s → takes speeds work s ≤ window → work * full speeds ≤ window * s
  within_window some h = rounded_covers (work * full speeds) s window some h

  pub window_covers : 1 ≤ s → work * full speeds ≤ window * s → takes speeds work s ≤ window
  window_covers some h = rounded_within (work * full speeds) s window some h

  -- and exactly where it is at least the speed that the window asks for
  pub enough_speed : 1 ≤ window → (work * full speeds + (window - 1)) / window ≤ s → work * full speeds ≤ window * s
  enough_speed some h = omega (arith, rounded_covers (work * full speeds) window s some h, mul_comm s window)

  pub speed_needed : 1 ≤ window → work * full speeds ≤ window * s → (work * full speeds + (window - 1)) / window ≤ s
  speed_needed some h = rounded_within (work * full speeds) window s some (omega (arith, mul_comm s window))

module _ (speeds : List ℕ) (sound : Sound speeds) where
  top_inside : top speeds < length speeds
  top_inside = omega (arith, sound.some_level)

  -- no speed is lower than that of a lower level
  never_fall : (i j : ℕ) → i ≤ j → j < length speeds → speed speeds i ≤ speed speeds j
  never_fall i j l h = ⊎_elim (λ (e : i ≡ j). rw e (omega arith)) (λ other. omega (arith, sound.rises i j (omega arith) h)) (cases_eq i j)

  module _ (work : ℕ) where
    -- the time at a level does the work, and no shorter one does
    at_least : (i : ℕ) → i < length speeds → work * full speeds ≤ time speeds work i * speed speeds i
    at_least i h = within_window speeds work (time speeds work i) (speed speeds i) (sound.least i h) (omega arith)

    at_most : (i ticks : ℕ) → i < length speeds → work * full speeds ≤ ticks * speed speeds i → time speeds work i ≤ ticks
    at_most i ticks h enough = window_covers speeds work ticks (speed speeds i) (sound.least i h) enough

    full_speed : time speeds work (top speeds) ≡ work
    full_speed =
        let short = at_most (top speeds) work top_inside (omega arith) in
        let long = le_of_mul-le-mul_right (at_least (top speeds) top_inside) (sound.least (top speeds) top_inside) in
        omega arith

    never_rise : (i j : ℕ) → i ≤ j → j < length speeds → time speeds work j ≤ time speeds work i
    never_rise i j l h =
        at_most j (time speeds work i) h
        (omega (arith, at_least i (omega arith), mul-le-mul_left (time speeds work i) (never_fall i j l h)))

pub full_speed_takes_the_work : FullSpeedTakesTheWork
full_speed_takes_the_work = full_speed

pub times_never_rise : TimesNeverRise
times_never_rise = never_rise

pub times_are_the_least : TimesAreTheLeast
times_are_the_least speeds sound work i h = (at_least speeds sound work i h, λ ticks enough. at_most speeds sound work i ticks h enough)

-- the lowest level whose time is within the window
module _ (speeds : List ℕ) (work window : ℕ) where
  -- of some levels with these speeds
  record Lowest (ss : List ℕ) (k : ℕ) : Type 0 where
    pub inside : k < length ss
    pub within : takes speeds work (get_or ss k 0) ≤ window
    pub before : (j : ℕ) → j < k → window < takes speeds work (get_or ss j 0)

  abbrev NoneWithin : List ℕ → Type 0
  NoneWithin ss = (j : ℕ) → j < length ss → window < takes speeds work (get_or ss j 0)

  -- it is found, or there is none
  abbrev Found : List ℕ → ℕ → Option ℕ → Type 0
  Found ss l r = ((k : ℕ) × (r ≡ Some (l + k)) × Lowest ss k) ⊎ ((r ≡ None) × NoneWithin ss)

  lowest_found : (ss : List ℕ) (l : ℕ) → Found ss l (lowest speeds work window l ss)
  lowest_found [] l = inr (refl, λ j h. absurd (omega arith))
  lowest_found (s ∷ ss) l =
      cond_both (leb (takes speeds work s) window) _ _ (Found (s ∷ ss) l)
      (λ e. inl (0, ap Some (omega arith), record { inside = omega arith; within = leb-true (takes speeds work s) window e; before = λ j h. absurd (omega arith) }))
      (λ e.
      let over = leb-false (takes speeds work s) window e in
      ⊎_elim
      (λ r. inl (suc r.0, r.1 ∙ ap Some (omega arith), record { inside = omega (arith, r.2.inside); within = r.2.within; before = below over r.2.before }))
      (λ r. inr (r.0, below over r.1))
      (lowest_found ss (suc l)))
    where
      below : {n : ℕ} → window < takes speeds work s → ((j : ℕ) → j < n → window < takes speeds work (get_or ss j 0))
          → (j : ℕ) → j < suc n → window < takes speeds work (get_or (s ∷ ss) j 0)
      below over rest zero h = over
      below over rest (suc j) h = rest j (omega arith)

  -- what the floor is, from what is known of the levels
  pub floor_is : (i : ℕ) → i < length speeds → time speeds work i ≤ window → ((j : ℕ) → j < i → window < time speeds work j)
      → floor speeds work window ≡ Some i
  floor_is i h fits slow =
      ⊎_elim
      (λ r.
      let k = r.0 in
      let low : i ≤ k = ⊎_elim (λ (l : k < i). absurd (omega (arith, slow k l, r.2.within))) (λ l. l) (cases_lt k i) in
      let high : k ≤ i = ⊎_elim (λ (l : i < k). absurd (omega (arith, r.2.before i l))) (λ l. l) (cases_lt i k) in
      r.1 ∙ ap Some (omega arith))
      (λ r. absurd (omega (arith, r.1 i h)))
      (lowest_found speeds 0)

  pub floor_none : ((j : ℕ) → j < length speeds → window < time speeds work j) → floor speeds work window ≡ None
  floor_none slow =
      ⊎_elim (λ r. absurd (omega (arith, slow r.0 r.2.inside, r.2.within))) (λ r. r.0) (lowest_found speeds 0)

pub floors_exist_where_work_fits : FloorsExistWhereWorkFits
floors_exist_where_work_fits speeds sound work window = (
  λ fits.
      ⊎_elim
      (λ r. (_, r.1))
      (λ r. absurd (omega (arith, r.1 (top speeds) (top_inside speeds sound), full_speed speeds sound work)))
      (lowest_found speeds work window speeds 0),
  λ over.
      floor_none speeds work window
      (λ j h. omega (arith, never_rise speeds sound work j (top speeds) (omega arith) (top_inside speeds sound), full_speed speeds sound work)),
)

pub floors_part_the_levels : FloorsPartTheLevels
floors_part_the_levels speeds sound work window i is =
    ⊎_elim
    (λ r.
    let k = r.0 in
    let same : i ≡ 0 + k = cc (is, r.1) in
    let low = r.2 in (
      omega (arith, low.inside),
      λ j l h. omega (arith, never_rise speeds sound work k j (omega arith) h, low.within),
      λ j l. low.before j (omega arith),
    ))
    (λ r. let z : ◌≡◌ {A = ℕ} 0 1 = cc r.0 in absurd (omega arith))
    (lowest_found speeds work window speeds 0)
