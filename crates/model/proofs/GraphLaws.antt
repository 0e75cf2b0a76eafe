-- Bytes that read without fault describe a well-formed graph, and are its bytes.
use Rattle.std.proofs.Common.{◌≡◌, ℕ, zero, suc, pred, ◌+◌, ◌-◌, true, ltb, leb, List, [], ◌∷◌, ◌++◌, length, Ok, sym, refl, ap, ◌∙◌, subst, append_assoc, append-nil, arith, take-append-drop}
use Rattle.std.proofs.lemmas.List.{length-take-le}
use Rattle.std.proofs.lemmas.Bool.{and_from, leb-true}
use Rattle.fault.specs.declared.kind.Kind.{Kind}
use Rattle.fault.specs.declared.kind.Kind.TheVariants.{OutOfRange, NotRising}
use Rattle.model.specs.Bytes.{Read, string, several}
use Rattle.model.specs.Formed.{within, rises, all_entered}
use Rattle.model.specs.Graph.{Graph, Segment, Task, predecessors_of, tasks_in, predecessors_in, entered}
use Rattle.model.specs.Laws.{GraphsReadAreFormed, GraphsTakeTheirBytes}
use Rattle.model.specs.Lists.{each, past}
use Rattle.model.specs.Numbers.{number, number_bytes}
use Rattle.model.specs.Reading.{ranged, next_rising, next_task, next_segment, numbers, nothing_left, entries, reading}
use Rattle.model.specs.Writing.{listed, task_bytes, segment_bytes, graph_bytes}
use Rattle.model.proofs.Along.{Along, along_each}
use Rattle.model.proofs.Fits.{TaskFits, SegmentFits, Numbered, AllEntered, within_parts, task_from, segment_from, tasks_formed, numbered_formed}
use Rattle.model.proofs.ListReading.{then_ok, cond_ok, ok_is, several_sound}
use Rattle.model.proofs.NumberLaws.{numbers_take_their_bytes}

module _ (count : ℕ) where
  -- a number from low to high
  pub ranged_sound : (low high n : ℕ) (bs rest : List ℕ) → ranged count low high bs ≡ Ok (n, rest) → (within low high n ≡ true) × (bs ≡ number_bytes n ++ rest)
  ranged_sound low high n bs rest e =
      then_ok (number count bs) _ _ e (λ m after is then_is.
      let c = cond_ok (within low high m) _ _ _ then_is in
      subst (λ (y : ℕ × List ℕ). (within low high y.0 ≡ true) × (bs ≡ number_bytes y.0 ++ y.1)) (ok_is _ _ c.1)
      (c.0, (numbers_take_their_bytes m count bs after is).1))

  -- the next `size` bytes
  pub string_sound : (size : ℕ) (bs name rest : List ℕ) → string count size bs ≡ Ok (name, rest) → (length name ≡ size) × (bs ≡ name ++ rest)
  string_sound size bs name rest e =
      let c = cond_ok (leb size (length bs)) _ _ _ e in
      subst (λ (y : List ℕ × List ℕ). (length y.0 ≡ size) × (bs ≡ y.0 ++ y.1)) (ok_is _ _ c.1)
      (length-take-le size bs (leb-true size (length bs) c.0), sym (take-append-drop size bs))

  -- how many, and then each
  module _ {X : Type 0} (item : List X → List ℕ → Read X) (bytes : X → List ℕ) (P : List X → X → Type 0)
      (sound : (done : List X) (bs : List ℕ) (x : X) (rest : List ℕ) → item done bs ≡ Ok (x, rest) → P done x × (bs ≡ bytes x ++ rest)) where
    pub listed_sound : (low high many : ℕ) (xs : List X) (bs after rest : List ℕ) → ranged count low high bs ≡ Ok (many, after) → several item many [] after ≡ Ok (xs, rest)
        → (length xs ≡ many) × (within low high many ≡ true) × Along P [] xs × (bs ≡ listed bytes xs ++ rest)
    listed_sound low high many xs bs after rest e f =
        let n = ranged_sound low high many bs after e in
        let s = several_sound item bytes P sound many [] xs after rest f in
        let k : length xs ≡ many = ap length s.1 ∙ s.2 in
        (k, n.0, rw s.1 s.3, n.1 ∙ rw (k, s.1, append_assoc) (ap (λ t. number_bytes many ++ t) s.4))

  -- numbers that rise
  module _ (over : Kind) (least top : ℕ) where
    pub rising_sound : (before bs : List ℕ) (n : ℕ) (rest : List ℕ) → next_rising count over least top before bs ≡ Ok (n, rest)
        → (rises least top before n ≡ true) × (bs ≡ number_bytes n ++ rest)
    rising_sound before bs n rest e =
        then_ok (number count bs) _ _ e (λ m after is then_is.
        let c = cond_ok (ltb m top) _ _ _ then_is in
        let d = cond_ok (leb (past least before) m) _ _ _ c.1 in
        subst (λ (y : ℕ × List ℕ). (rises least top before y.0 ≡ true) × (bs ≡ number_bytes y.0 ++ y.1)) (ok_is _ _ d.1)
        (and_from (ltb m top) (leb (past least before) m) c.0 d.0, (numbers_take_their_bytes m count bs after is).1))

    pub rising_listed : (high many : ℕ) (ns bs after rest : List ℕ) → ranged count 0 high bs ≡ Ok (many, after) → several (next_rising count over least top) many [] after ≡ Ok (ns, rest)
        → (length ns ≡ many) × (within 0 high many ≡ true) × (each (rises least top) [] ns ≡ true) × (bs ≡ listed number_bytes ns ++ rest)
    rising_listed high many ns bs after rest e f =
        let r = listed_sound (next_rising count over least top) number_bytes (λ done n. rises least top done n ≡ true) rising_sound 0 high many ns bs after rest e f in
        (r.0, r.1, along_each (rises least top) [] ns r.2, r.3)

  -- a task, a segment and the numbers of a graph
  pub task_sound : (left : ℕ) (before : List Task) (bs : List ℕ) (t : Task) (rest : List ℕ) → next_task count left before bs ≡ Ok (t, rest)
      → TaskFits left before t × (bs ≡ task_bytes t ++ rest)
  task_sound left before bs t rest e =
      then_ok (ranged count 0 16 bs) _ _ e (λ size after_size size_read from_name.
      then_ok (string count size after_size) _ _ from_name (λ name after_name name_read from_worst.
      then_ok (ranged count 0 1000000 after_name) _ _ from_worst (λ worst after_worst worst_read from_many.
      then_ok (ranged count 0 (left - predecessors_of before) after_worst) _ _ from_many (λ many after_many many_read from_First.
      then_ok (several (next_rising count NotRising 0 (length before)) many [] after_many) _ _ from_First (λ predecessors after predecessors_read is.
      let s = ranged_sound 0 16 size bs after_size size_read in
      let n = string_sound size after_size name after_name name_read in
      let w = ranged_sound 0 1000000 worst after_name after_worst worst_read in
      let p = rising_listed NotRising 0 (length before) (left - predecessors_of before) many predecessors after_worst after_many after many_read predecessors_read in
      let formed =
      task_from before record { name = name; worst = worst; predecessors = predecessors }
      (omega (arith, within_parts 0 16 size s.0, n.0)) (within_parts 0 1000000 worst w.0).1 p.2 in
      subst (λ (y : Task × List ℕ). TaskFits left before y.0 × (bs ≡ task_bytes y.0 ++ y.1)) (ok_is _ _ is)
      ((formed, omega (arith, p.0, within_parts 0 (left - predecessors_of before) many p.1)), rw (s.1, n.1, w.1, p.3, ← n.0) (simp append_assoc)))))))

  pub segment_sound : (segments : ℕ) (before : List Segment) (bs : List ℕ) (s : Segment) (rest : List ℕ) → next_segment count segments before bs ≡ Ok (s, rest)
      → SegmentFits segments before s × (bs ≡ segment_bytes s ++ rest)
  segment_sound segments before bs s rest e =
      let left = 1024 - predecessors_in before in
      then_ok (ranged count 1 (256 - tasks_in before) bs) _ _ e (λ many after_many many_read from_First.
      then_ok (several (next_task count left) many [] after_many) _ _ from_First (λ tasks after_tasks tasks_read from_ways.
      then_ok (ranged count 0 31 after_tasks) _ _ from_ways (λ ways after_ways ways_read from_exit.
      then_ok (several (next_rising count OutOfRange (length before + 1) segments) ways [] after_ways) _ _ from_exit (λ exits after exits_read is.
      let t = listed_sound (next_task count left) task_bytes (TaskFits left) (task_sound left) 1 (256 - tasks_in before) many tasks bs after_many after_tasks many_read tasks_read in
      let x = rising_listed OutOfRange (length before + 1) segments 31 ways exits after_tasks after_ways after ways_read exits_read in
      let size = within_parts 1 (256 - tasks_in before) many t.1 in
      let all = tasks_formed left tasks t.2 in
      let formed =
      segment_from segments before record { tasks = tasks; exits = exits }
      (omega (arith, t.0)) all.0 (omega (arith, x.0, within_parts 0 31 ways x.1)) x.2 in
      subst (λ (y : Segment × List ℕ). SegmentFits segments before y.0 × (bs ≡ segment_bytes y.0 ++ y.1)) (ok_is _ _ is)
      ((formed, (omega (arith, t.0), all.1)), rw (t.3, x.3) (simp append_assoc))))))

  pub numbers_sound : (bs : List ℕ) (g : Graph) (rest : List ℕ) → numbers count bs ≡ Ok (g, rest) → Numbered g × (bs ≡ graph_bytes g ++ rest)
  numbers_sound bs g rest e =
      then_ok (ranged count 1 8 bs) _ _ e (λ cores after_cores cores_read from_deadline.
      then_ok (ranged count 0 1000000000 after_cores) _ _ from_deadline (λ deadline after_deadline deadline_read from_many.
      then_ok (ranged count 1 32 after_deadline) _ _ from_many (λ many after_many many_read from_First.
      then_ok (several (next_segment count many) many [] after_many) _ _ from_First (λ segments after segments_read is.
      let c = ranged_sound 1 8 cores bs after_cores cores_read in
      let d = ranged_sound 0 1000000000 deadline after_cores after_deadline deadline_read in
      let s = listed_sound (next_segment count many) segment_bytes (SegmentFits many) (segment_sound many) 1 32 many segments after_deadline after_many after many_read segments_read in
      subst (λ (y : Graph × List ℕ). Numbered y.0 × (bs ≡ graph_bytes y.0 ++ y.1)) (ok_is _ _ is)
      ((c.0, d.0, rw s.0 s.1, subst (λ k. Along (SegmentFits k) [] segments) (sym s.0) s.2), rw (c.1, d.1, s.3) (simp append_assoc))))))

  -- nothing follows
  pub end_sound : (bs : List ℕ) (done : Unit {0}) (rest : List ℕ) → nothing_left count bs ≡ Ok (done, rest) → bs ≡ []
  end_sound [] done rest e = refl
  end_sound (b ∷ bs) done rest e = let z : ◌≡◌ {A = ℕ} 0 1 = cc in absurd (omega arith)

-- each segment from k on, n of them, is an exit
pub entries_sound : (g h : Graph) (k n : ℕ) → entries g k n ≡ Ok h → (g ≡ h) × (all_entered g.segments k n ≡ true)
entries_sound g h k zero e = (ok_is g h e, refl)
entries_sound g h k (suc n) e =
    let c = cond_ok (entered g.segments k) _ _ _ e in
    let r = entries_sound g h (k + 1) n c.1 in
    (r.0, and_from (entered g.segments k) (all_entered g.segments (k + 1) n) c.0 r.1)

-- what is read without fault
pub reading_sound : (g : Graph) (bs : List ℕ) → reading bs ≡ Ok g → Numbered g × AllEntered g × (bs ≡ graph_bytes g)
reading_sound g bs e =
    then_ok (numbers (length bs) bs) _ _ e (λ h rest numbers_read from_end.
    then_ok (nothing_left (length bs) rest) _ _ from_end (λ done after End_read from_entries.
    let n = numbers_sound (length bs) bs h rest numbers_read in
    let x = entries_sound h g 1 (pred (length h.segments)) from_entries in
    subst (λ (y : Graph). Numbered y × AllEntered y × (bs ≡ graph_bytes y)) x.0
    (n.0, x.1, n.1 ∙ rw (end_sound (length bs) rest done after End_read) (append-nil (graph_bytes h)))))

pub graphs_read_are_formed : GraphsReadAreFormed
graphs_read_are_formed g bs e = let r = reading_sound g bs e in numbered_formed g r.0 r.1

pub graphs_take_their_bytes : GraphsTakeTheirBytes
graphs_take_their_bytes g bs e = (reading_sound g bs e).2
