-- Reading a plan from its bytes: the graph that they describe, or the first fault in byte order.
use Rattle.std.specs.Prelude.{ℕ, zero, suc, pred, ◌+◌, ◌-◌, cond, List, [], ◌∷◌, length, Ok, Err, Result, nat_le, nat_lt}
use Rattle.fault.specs.declared.kind.Fault.{Fault}
use Rattle.fault.specs.declared.kind.Kind.{Kind}
use Rattle.fault.specs.declared.kind.Kind.TheVariants.{OutOfRange, NotRising, TrailingBytes, NoEntry}
use Rattle.fault.specs.Card.{fault}
use Rattle.model.specs.Bytes.{Read, then, at, string, several}
use Rattle.model.specs.Formed.{within}
use Rattle.model.specs.Graph.{Graph, Segment, Task, predecessors_of, tasks_in, predecessors_in, entered}
use Rattle.model.specs.Limits.{most_cores, most_deadline, most_segments, most_tasks, most_predecessors, most_exits, most_name, most_worst}
use Rattle.model.specs.Lists.{past}
use Rattle.model.specs.Numbers.{number}

module _ (count : ℕ) where
  -- a number from low to high
  abbrev pub ranged : ℕ → ℕ → List ℕ → Read ℕ
  ranged low high bs =
      then (number count bs) (λ n rest. cond (within low high n) (Ok (n, rest)) (Err (fault OutOfRange (at count bs))))

  -- a number that may follow those before it; one from `top` on is a fault of the kind `over`
  abbrev pub next_rising : Kind → ℕ → ℕ → List ℕ → List ℕ → Read ℕ
  next_rising over least top before bs =
      then (number count bs) (λ n rest.
      cond (nat_lt n top)
      (cond (nat_le (past least before) n) (Ok (n, rest)) (Err (fault NotRising (at count bs))))
      (Err (fault over (at count bs))))

  -- the task of number `own` in its segment, where the plan may have `left` predecessors more
  abbrev pub numbered_task : ℕ → ℕ → List ℕ → Read Task
  numbered_task own left bs =
      then (ranged 0 most_name bs) (λ size after_size.
      then (string count size after_size) (λ name after_name.
      then (ranged 0 most_worst after_name) (λ worst after_worst.
      then (ranged 0 left after_worst) (λ many after_many.
      then (several (next_rising NotRising 0 own) many [] after_many) (λ predecessors rest.
      Ok (record { name = name; worst = worst; predecessors = predecessors }, rest))))))

  -- a task, told those of its segment before it; `left` predecessors were left to the plan at the first
  abbrev pub next_task : ℕ → List Task → List ℕ → Read Task
  next_task left before = numbered_task (length before) (left - predecessors_of before)

  -- the segment of number `own` of `segments`, where the plan may have so many tasks and predecessors more
  abbrev pub numbered_segment : ℕ → ℕ → ℕ → ℕ → List ℕ → Read Segment
  numbered_segment segments own tasks_left left bs =
      then (ranged 1 tasks_left bs) (λ many after_many.
      then (several (next_task left) many [] after_many) (λ tasks after_tasks.
      then (ranged 0 most_exits after_tasks) (λ ways after_ways.
      then (several (next_rising OutOfRange (own + 1) segments) ways [] after_ways) (λ exits rest.
      Ok (record { tasks = tasks; exits = exits }, rest)))))

  -- a segment, told those before it: tasks and predecessors are limited for the whole plan
  abbrev pub next_segment : ℕ → List Segment → List ℕ → Read Segment
  next_segment segments before =
      numbered_segment segments (length before) (most_tasks - tasks_in before) (most_predecessors - predecessors_in before)

  -- the numbers of a graph
  abbrev pub numbers : List ℕ → Read Graph
  numbers bs =
      then (ranged 1 most_cores bs) (λ cores after_cores.
      then (ranged 0 most_deadline after_cores) (λ deadline after_deadline.
      then (ranged 1 most_segments after_deadline) (λ many after_many.
      then (several (next_segment many) many [] after_many) (λ segments rest.
      Ok (record { cores = cores; deadline = deadline; segments = segments }, rest)))))

  -- nothing may follow the numbers
  abbrev pub nothing_left : List ℕ → Read (Unit {0})
  nothing_left [] = Ok (tt, [])
  nothing_left (b ∷ bs) = Err (fault TrailingBytes (at count (b ∷ bs)))

-- the segments from k on, n of them, are each some segment's exit
abbrev pub entries : Graph → ℕ → ℕ → Result Graph Fault
entries g k zero = Ok g
entries g k (suc n) = cond (entered g.segments k) (entries g (k + 1) n) (Err (fault NoEntry k))

-- the graph that a run of bytes describes, or why it is refused
abbrev pub reading : List ℕ → Result Graph Fault
reading bs =
    then (numbers (length bs) bs) (λ g rest.
    then (nothing_left (length bs) rest) (λ done after.
    entries g 1 (pred (length g.segments))))
