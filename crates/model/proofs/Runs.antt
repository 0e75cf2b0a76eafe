-- Items laid over a run one part after the other.
use Rattle.std.proofs.Common.{◌≡◌, ℕ, suc, ◌+◌, ◌<◌, ◌≤◌, List, [], ◌∷◌, ◌++◌, length, get_or, drop, set, sym, refl, ap, ◌∙◌, add-zero, arith, length-append}
use Rattle.std.proofs.lemmas.List.{set_at, append_assoc, at_drop_more}
use Rattle.std.specs.List.{flat_map}
use Rattle.model.specs.Runs.{over, Laid}

module _ {X : Type 0} where
  pub over-append : (xs ys : List X) (at : ℕ) (run : List X) → over at (xs ++ ys) run ≡ over (at + length xs) ys (over at xs run)
  over-append [] ys at run = rw (add-zero at) refl
  over-append (x ∷ xs) ys at run =
      let e : at + 1 + length xs ≡ at + suc (length xs) = omega arith in
      over-append xs ys (at + 1) (set run at x) ∙ ap (λ n. over n ys (over (at + 1) xs (set run at x))) e

  over_after : (front xs run : List X) → length xs ≤ length run → over (length front) xs (front ++ run) ≡ front ++ (xs ++ drop (length xs) run)
  over_after front [] run fits = refl
  over_after front (x ∷ xs) [] fits = absurd (omega arith)
  over_after front (x ∷ xs) (y ∷ run) fits =
      let n : length front + 1 ≡ length (front ++ (x ∷ [])) = omega (arith, length-append front (x ∷ [])) in
      ap (over (length front + 1) xs) (set_at front y run x (length front) refl ∙ sym (append_assoc front (x ∷ []) run))
      ∙ (ap (λ k. over k xs ((front ++ (x ∷ [])) ++ run)) n
      ∙ (over_after (front ++ (x ∷ [])) xs run (omega arith) ∙ append_assoc front (x ∷ []) (xs ++ drop (length xs) run)))

  -- over a run that is long enough, from its first place on
  pub over_first : (xs run : List X) → length xs ≤ length run → over 0 xs run ≡ xs ++ drop (length xs) run
  over_first xs run fits = over_after [] xs run fits

module _ {X : Type 0} {xs ys : List X} {at end last : ℕ} {run mid after : List X} where
  -- one part after another
  pub laid_then : Laid xs at run end mid → Laid ys end mid last after → Laid (xs ++ ys) at run last after
  laid_then one two = record {
    laid = two.laid ∙ (ap (λ n. over n ys mid) one.ended ∙ (ap (over (at + length xs) ys) one.laid ∙ sym (over-append xs ys at run)));
    ended = omega (arith, one.ended, two.ended, length-append xs ys);
  }

-- a loop that lays one part a turn: `left` is what is to come, `whole` what the run holds in the end, `stop` where that ends
module _ {X : Type 0} (part rest left : List X) (place : ℕ) (run whole : List X) (stop : ℕ) (turn : left ≡ part ++ rest)
    (so_far : over place left run ≡ whole) (to_come : place + length left ≡ stop) where
  pub laid_more : (next : ℕ) (after : List X) → Laid part place run next after → (over next rest after ≡ whole) × (next + length rest ≡ stop)
  laid_more next after one = (
    (ap (λ n. over n rest after) one.ended ∙ ap (over (place + length part) rest) one.laid) ∙ (sym (over-append part rest place run) ∙ (ap (λ l. over place l run) (sym turn) ∙ so_far)),
    omega (arith, one.ended, to_come, ap length turn, length-append part rest),
  )

-- the items of a list from a place on are those of the element there, and the rest
pub joined-drop : {X A : Type 0} (f : A → List X) (xs : List A) (i : ℕ) (x : A) → i < length xs → x ≡ get_or xs i x → flat_map f (drop i xs) ≡ f x ++ flat_map f (drop (i + 1) xs)
joined-drop {A = A} f xs i x h is = at_drop_more (flat_map f) xs i x h ∙ ap (λ (y : A). f y ++ flat_map f (drop (i + 1) xs)) (sym is)
