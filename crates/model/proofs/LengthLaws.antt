-- The laws over remaining lengths.
use Rattle.std.proofs.Common.{◌≡◌, ℕ, zero, suc, ◌+◌, ◌-◌, ◌*◌, ◌<◌, ◌≤◌, ◌⊎◌, List, [], ◌∷◌, length, get_or, drop, refl, ap, ◌∙◌, inl, inr, ⊎_elim, add-zero, arith}
use Rattle.std.proofs.lemmas.List.{get_or-drop}
use Rattle.std.proofs.lemmas.Bool.{cases_lt}
use Rattle.model.specs.Canonical.{length_of}
use Rattle.model.specs.Graph.{Graph, Segment, tasks_in}
use Rattle.model.specs.Limits.{most_tasks, most_worst}
use Rattle.model.specs.Lists.{In}
use Rattle.model.specs.Places.{no_segment, task, segment, count, exits_of, Formed}
use Rattle.model.specs.ScheduleLaws.{EveryExitFits, SomeExitFills, NoSegmentNeedsMore, NoShiftIsCutOff, NoLengthExceedsItsTasksInARow}
use Rattle.model.specs.Times.{largest, lengths, remaining, needed}
use Rattle.model.proofs.Members.{place, at_place}
use Rattle.model.proofs.Near.{length-near}

module _ (cores : ℕ) where
  -- every segment has a remaining length
  pub length-lengths : (ss : List Segment) (k : ℕ) → length (lengths cores k ss) ≡ length ss
  length-lengths [] k = refl
  length-lengths (x ∷ ss) k = ap suc (length-lengths ss (suc k))

  -- the remaining length of a segment, by its place
  lengths_at : (ss : List Segment) (k s : ℕ) → s < length ss
      → get_or (lengths cores k ss) s 0
      ≡ length_of cores (get_or ss s no_segment) + largest (drop (suc s) (lengths cores k ss)) (suc (k + s)) (get_or ss s no_segment).exits
  lengths_at [] k s h = absurd (omega arith)
  lengths_at (x ∷ ss) k zero h = rw add-zero
  lengths_at (x ∷ ss) k (suc s) h = let e : k + suc s ≡ suc k + s = omega arith in rw e (lengths_at ss (suc k) s (omega arith))

module _ (rest : List ℕ) (k : ℕ) where
  -- the largest is at least each, and one of them
  largest_each : (es : List ℕ) (e : ℕ) → In e es → get_or rest (e - k) 0 ≤ largest rest k es
  largest_each [] e i = absurd i
  largest_each (x ∷ es) e (inl q) = rw q (omega arith)
  largest_each (x ∷ es) e (inr i) = omega (arith, largest_each es e i)

  largest_is : (es : List ℕ) → ((e : ℕ) × In e es × (get_or rest (e - k) 0 ≡ largest rest k es)) ⊎ ((es ≡ []) × (largest rest k es ≡ 0))
  largest_is [] = inr (refl, refl)
  largest_is (x ∷ es) =
      let own : largest rest k es ≤ get_or rest (x - k) 0 → (e : ℕ) × In e (x ∷ es) × (get_or rest (e - k) 0 ≡ largest rest k (x ∷ es)) = λ h. (x, inl refl, omega arith) in
      inl
      (⊎_elim
      (λ r. ⊎_elim (λ l. (r.0, inr r.1, omega (arith, l, r.2))) own (cases_lt (get_or rest (x - k) 0) (largest rest k es)))
      (λ r. own (omega (arith, r.1)))
      (largest_is es))

module _ (g : Graph) where
  -- the remaining lengths of the segments after s
  abbrev pub after_it : ℕ → List ℕ
  after_it s = drop (suc s) (lengths g.cores 0 g.segments)

  pub remaining_is : (s : ℕ) → s < count g → remaining g s ≡ length_of g.cores (segment g s) + largest (after_it s) (suc (0 + s)) (exits_of g s)
  remaining_is s h = lengths_at g.cores g.segments 0 s h

  remaining_later : (s e : ℕ) → s < e → get_or (after_it s) (e - suc (0 + s)) 0 ≡ remaining g e
  remaining_later s e h =
      let all = lengths g.cores 0 g.segments in
      let same : suc s + (e - suc (0 + s)) ≡ e = omega arith in
      get_or-drop (suc s) all (e - suc (0 + s)) 0 ∙ ap (λ n. get_or all n 0) same

  -- no segment remains for less than its length
  pub length-remains : (s : ℕ) → s < count g → length_of g.cores (segment g s) ≤ remaining g s
  length-remains s h = omega (arith, remaining_is s h)

  module _ (f : Formed g) where
    -- an exit is a later segment of the graph
    pub exit_later : (s e : ℕ) → s < count g → In e (exits_of g s) → (s < e) × (e < count g)
    exit_later s e h i =
        let r = place e 0 (exits_of g s) i in
        (rw r.2 at (f.higher s r.0 h r.1), rw r.2 at (f.inside s r.0 h r.1))

pub every_exit_fits : EveryExitFits
every_exit_fits g f s e h i =
    omega (arith, remaining_is g s h, largest_each (after_it g s) (suc (0 + s)) (exits_of g s) e i, remaining_later g s e (exit_later g f s e h i).0)

pub some_exit_fills : SomeExitFills
some_exit_fills g f s h =
    ⊎_elim
    (λ r. inl (r.0, r.1, omega (arith, remaining_is g s h, r.2, remaining_later g s r.0 (exit_later g f s r.0 h r.1).0)))
    (λ r. inr (r.0, omega (arith, remaining_is g s h, r.1)))
    (largest_is (after_it g s) (suc (0 + s)) (exits_of g s))

module _ (g : Graph) (f : Formed g) where
  -- a segment but the first is an exit of an earlier one
  needs_below : (m s : ℕ) → s < m → s < count g → remaining g s ≤ needed g
  needs_below zero s h l = absurd (omega arith)
  needs_below (suc m) zero h l = omega arith
  needs_below (suc m) (suc s) h l =
      let r = f.exit_of (suc s) (omega arith) l in
      let from = r.0 in
      let i : In (suc s) (exits_of g from) = rw r.4 at (at_place 0 (exits_of g from) r.1 r.3) in
      omega (arith, every_exit_fits g f from (suc s) r.2 i, needs_below m from (omega (arith, exit_later g f from (suc s) r.2 i)) r.2)

pub no_segment_needs_more : NoSegmentNeedsMore
no_segment_needs_more g f s h = needs_below g f (suc s) s (omega arith) h

pub no_shift_is_cut_off : NoShiftIsCutOff
no_shift_is_cut_off g f fits s h = omega (arith, no_segment_needs_more g f s h)

largest_within : (most : ℕ) (rest : List ℕ) → ((i : ℕ) → get_or rest i 0 ≤ most) → (k : ℕ) (es : List ℕ) → largest rest k es ≤ most
largest_within most rest each k [] = omega arith
largest_within most rest each k (e ∷ es) = omega (arith, each (e - k), largest_within most rest each k es)

module _ (cores : ℕ) where
  lengths_within : (ss : List Segment) → ((s t : ℕ) → s < length ss → t < length (get_or ss s no_segment).tasks → (task (get_or ss s no_segment) t).worst ≤ most_worst)
      → (k s : ℕ) → get_or (lengths cores k ss) s 0 ≤ tasks_in ss * most_worst
  lengths_within [] short k s = omega arith
  lengths_within (x ∷ ss) short k s =
      let later = lengths_within ss (λ r t h l. short (suc r) t (omega arith) l) (suc k) in
      elim s as (λ n. get_or (lengths cores k (x ∷ ss)) n 0 ≤ tasks_in (x ∷ ss) * most_worst) [
        | zero ↦ omega (arith, length-near cores x (λ t l. short 0 t (omega arith) l), largest_within (tasks_in ss * most_worst) (lengths cores (suc k) ss) later (suc k) x.exits)
        | suc r ↦ omega (arith, later r)
      ]

pub no_length_exceeds_its_tasks_in_a_row : NoLengthExceedsItsTasksInARow
no_length_exceeds_its_tasks_in_a_row g f s h = lengths_within g.cores g.segments f.worst_within 0 s

-- so no length exceeds as many tasks as a graph may have
pub remaining_within : (g : Graph) → Formed g → (s : ℕ) → s < count g → remaining g s ≤ most_tasks * most_worst
remaining_within g f s h = omega (arith, no_length_exceeds_its_tasks_in_a_row g f s h, f.few_tasks)
