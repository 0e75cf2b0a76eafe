-- Speeds in even steps.
use Rattle.std.proofs.Common.{◌≡◌, ℕ, ◌+◌, ◌-◌, ◌*◌, ◌<◌, ◌≤◌, length, mul-le-mul_right, mul-lt-mul_of_pos_right, arith}
use Rattle.std.proofs.lemmas.List.FromFn.{length-map-range_with_len, get_or-map-range_with_len}
use Rattle.model.specs.Ladders.{Sound, speed}
use Rattle.model.specs.Limits.{most_speed}
use Rattle.model.specs.Making.{even_speeds}

module _ (lowest step count : ℕ) where
  pub even_count : length (even_speeds lowest step count) ≡ count
  even_count = length-map-range_with_len (λ i. lowest + i * step) 0 count

  pub even_at : (i : ℕ) → i < count → speed (even_speeds lowest step count) i ≡ lowest + i * step
  even_at i below = get_or-map-range_with_len (λ i. lowest + i * step) 0 count i i 0 below (omega arith)

  -- no speed is above the last
  even_most : (i : ℕ) → i < count → i * step ≤ (count - 1) * step
  even_most i below = mul-le-mul_right step (omega arith)

  pub even_sound : 1 ≤ count → 1 ≤ lowest → lowest + (count - 1) * step ≤ most_speed → (1 < count → 1 ≤ step) → Sound (even_speeds lowest step count)
  even_sound some least most rises = record {
    some_level = omega (arith, even_count);
    least = λ i below. omega (arith, even_at i (omega (arith, even_count)));
    most = λ i below. let in_count : i < count = omega (arith, even_count) in omega (arith, even_at i in_count, even_most i in_count);
    rises = λ i j under below.
        let j_in : j < count = omega (arith, even_count) in
        let i_in : i < count = omega arith in
        let apart : i * step < j * step = mul-lt-mul_of_pos_right under (rises (omega arith)) in
        omega (arith, even_at i i_in, even_at j j_in);
  }

  -- and what soundness says of the numbers
  module _ (sound : Sound (even_speeds lowest step count)) where
    pub even_some : 1 ≤ count
    even_some = omega (arith, sound.some_level, even_count)

    -- the speed of a level
    at : (i : ℕ) → i < count → (1 ≤ lowest + i * step) × (lowest + i * step ≤ most_speed)
    at i inside =
        let is = even_at i inside in
        let there : i < length (even_speeds lowest step count) = omega (arith, even_count) in
        (omega (arith, sound.least i there), omega (arith, sound.most i there))

    pub even_least : 1 ≤ lowest
    even_least = omega (arith, at 0 even_some)

    pub even_last : lowest + (count - 1) * step ≤ most_speed
    even_last = (at (count - 1) (omega (arith, even_some))).1

    pub even_rises : 1 < count → 1 ≤ step
    even_rises several = omega (arith, even_at 0 even_some, even_at 1 several, sound.rises 0 1 (omega arith) (omega (arith, even_count)))
