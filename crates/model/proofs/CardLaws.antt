-- A refusal carries a place that the card allows.
use Rattle.std.proofs.Common.{◌≡◌, ℕ, zero, suc, pred, ◌+◌, ◌-◌, ◌≤◌, Bool, true, false, cond, ltb, leb, List, [], ◌∷◌, ◌++◌, length, take, drop, Some, None, Ok, Err, Option, Result, refl, subst, arith}
use Rattle.std.proofs.lemmas.Bool.{and_from, le-leb}
use Rattle.fault.specs.declared.kind.Fault.{Fault}
use Rattle.fault.specs.declared.kind.Kind.{Kind}
use Rattle.fault.specs.declared.kind.Kind.TheVariants.{BytesEnd, NumberForm, OutOfRange, NotRising, TrailingBytes, NoEntry}
use Rattle.fault.specs.Card.{fault, OnCard}
use Rattle.model.specs.Bytes.{Read, then, at, string, several}
use Rattle.model.specs.Formed.{within}
use Rattle.model.specs.Graph.{Graph, Segment, Task, predecessors_of, tasks_in, predecessors_in, entered}
use Rattle.model.specs.Lists.{past}
use Rattle.model.specs.Numbers.{groups, judged, number, value}
use Rattle.model.specs.Reading.{ranged, next_rising, next_task, next_segment, numbers, nothing_left, entries}
use Rattle.model.specs.Laws.{RefusalsAreOnTheCard}
use Rattle.model.proofs.Fits.{within_parts}
use Rattle.model.proofs.GraphLaws.{numbers_sound}

module _ {Y : Type 0} where
  -- where it is a refusal, it is on the card
  abbrev pub Carded : Result Y Fault → Type 0
  Carded r = (f : Fault) → r ≡ Err f → OnCard f

  pub ok_carded : (y : Y) → Carded (Ok y)
  ok_carded y f e = let z : ◌≡◌ {A = ℕ} 0 1 = cc in absurd (omega arith)

  pub err_carded : (d : Fault) → OnCard d → Carded (Err d)
  err_carded d c f e = let is : d ≡ f = cc in subst (λ (x : Fault). OnCard x) is c

  cond_carded : (b : Bool) (r s : Result Y Fault) → Carded r → Carded s → Carded (cond b r s)
  cond_carded true r s c d = c
  cond_carded false r s c d = d

module _ {X Y : Type 0} where
  then_carded : (r : Read X) (f : X → List ℕ → Result Y Fault) → Carded r → ((x : X) (rest : List ℕ) → r ≡ Ok (x, rest) → Carded (f x rest)) → Carded (then r f)
  then_carded (Ok p) f c d = d p.0 p.1 refl
  then_carded (Err e) f c d = err_carded e (c e refl)

module _ {X : Type 0} (item : List X → List ℕ → Read X) where
  several_carded : ((done : List X) (bs : List ℕ) → Carded (item done bs)) → (n : ℕ) (done : List X) (bs : List ℕ) → Carded (several item n done bs)
  several_carded own zero done bs = ok_carded (done, bs)
  several_carded own (suc n) done bs = then_carded (item done bs) _ (own done bs) (λ x rest is. several_carded own n (done ++ (x ∷ [])) rest)

module _ (count : ℕ) where
  number_carded : (bs : List ℕ) → Carded (number count bs)
  unfolding number
  number_carded bs = judged_carded (groups bs)
    where
      judged_carded : (o : Option (List ℕ × List ℕ)) → Carded (judged count (at count bs) o)
      judged_carded None = err_carded (fault BytesEnd count) refl
      judged_carded (Some x) = cond_carded _ (Ok (value x.0, x.1)) (Err (fault NumberForm (at count bs))) (ok_carded (value x.0, x.1)) (err_carded (fault NumberForm (at count bs)) refl)

  ranged_carded : (low high : ℕ) (bs : List ℕ) → Carded (ranged count low high bs)
  ranged_carded low high bs =
      then_carded (number count bs) _ (number_carded bs) (λ n rest is.
      cond_carded (within low high n) _ _ (ok_carded (n, rest)) (err_carded (fault OutOfRange (at count bs)) refl))

  rising_carded : (over : Kind) → ((place : ℕ) → OnCard (fault over place)) → (least top : ℕ) (before bs : List ℕ) → Carded (next_rising count over least top before bs)
  rising_carded over c least top before bs =
      then_carded (number count bs) _ (number_carded bs) (λ n rest is.
      cond_carded (ltb n top) _ _
      (cond_carded (leb (past least before) n) _ _ (ok_carded (n, rest)) (err_carded (fault NotRising (at count bs)) refl))
      (err_carded (fault over (at count bs)) (c (at count bs))))

  string_carded : (size : ℕ) (bs : List ℕ) → Carded (string count size bs)
  string_carded size bs = cond_carded (leb size (length bs)) _ _ (ok_carded (take size bs, drop size bs)) (err_carded (fault BytesEnd count) refl)

  task_carded : (left : ℕ) (before : List Task) (bs : List ℕ) → Carded (next_task count left before bs)
  task_carded left before bs =
      then_carded (ranged count 0 16 bs) _ (ranged_carded 0 16 bs) (λ size after_size _.
      then_carded (string count size after_size) _ (string_carded size after_size) (λ name after_name _.
      then_carded (ranged count 0 1000000 after_name) _ (ranged_carded 0 1000000 after_name) (λ worst after_worst _.
      then_carded (ranged count 0 (left - predecessors_of before) after_worst) _ (ranged_carded 0 (left - predecessors_of before) after_worst) (λ many after_many _.
      then_carded (several (next_rising count NotRising 0 (length before)) many [] after_many) _
      (several_carded (next_rising count NotRising 0 (length before)) (rising_carded NotRising (λ place. refl) 0 (length before)) many [] after_many) (λ predecessors rest _.
      ok_carded (record { name = name; worst = worst; predecessors = predecessors }, rest))))))

  segment_carded : (segments : ℕ) (before : List Segment) (bs : List ℕ) → Carded (next_segment count segments before bs)
  segment_carded segments before bs =
      let left = 1024 - predecessors_in before in
      then_carded (ranged count 1 (256 - tasks_in before) bs) _ (ranged_carded 1 (256 - tasks_in before) bs) (λ many after_many _.
      then_carded (several (next_task count left) many [] after_many) _ (several_carded (next_task count left) (task_carded left) many [] after_many) (λ tasks after_tasks _.
      then_carded (ranged count 0 31 after_tasks) _ (ranged_carded 0 31 after_tasks) (λ ways after_ways _.
      then_carded (several (next_rising count OutOfRange (length before + 1) segments) ways [] after_ways) _
      (several_carded (next_rising count OutOfRange (length before + 1) segments) (rising_carded OutOfRange (λ place. refl) (length before + 1) segments) ways [] after_ways) (λ exits rest _.
      ok_carded (record { tasks = tasks; exits = exits }, rest)))))

  numbers_carded : (bs : List ℕ) → Carded (numbers count bs)
  numbers_carded bs =
      then_carded (ranged count 1 8 bs) _ (ranged_carded 1 8 bs) (λ cores after_cores _.
      then_carded (ranged count 0 1000000000 after_cores) _ (ranged_carded 0 1000000000 after_cores) (λ deadline after_deadline _.
      then_carded (ranged count 1 32 after_deadline) _ (ranged_carded 1 32 after_deadline) (λ many after_many _.
      then_carded (several (next_segment count many) many [] after_many) _ (several_carded (next_segment count many) (segment_carded many) many [] after_many) (λ segments rest _.
      ok_carded (record { cores = cores; deadline = deadline; segments = segments }, rest)))))

  end_carded : (bs : List ℕ) → Carded (nothing_left count bs)
  end_carded [] = ok_carded (tt, [])
  end_carded (b ∷ bs) = err_carded (fault TrailingBytes (at count (b ∷ bs))) refl

entries_carded : (g : Graph) (k n : ℕ) → 1 ≤ k → k + n ≤ 32 → Carded (entries g k n)
entries_carded g k zero l h = ok_carded g
entries_carded g k (suc n) l h =
    cond_carded (entered g.segments k) _ _ (entries_carded g (k + 1) n (omega arith) (omega arith))
    (err_carded (fault NoEntry k) (and_from (leb 1 k) (leb k 31) (le-leb 1 k l) (le-leb k 31 (omega arith))))

pub refusals_are_on_the_card : RefusalsAreOnTheCard
refusals_are_on_the_card f bs =
    then_carded (numbers (length bs) bs) _ (numbers_carded (length bs) bs) (λ g rest is.
    then_carded (nothing_left (length bs) rest) _ (end_carded (length bs) rest) (λ _ _ _.
    let n = within_parts 1 32 (length g.segments) (numbers_sound (length bs) bs g rest is).0.2 in
    entries_carded g 1 (pred (length g.segments)) (omega arith) (omega arith))) f
