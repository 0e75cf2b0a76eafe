-- What is due after a history, and the answer that a call then gets.
use Rattle.std.specs.Prelude.{◌≡◌, ℕ, ◌+◌, ◌-◌, Bool, true, false, cond, not, ◌&&◌, ◌||◌, List, [], ◌∷◌, length, drop, filter, ◌==◌, nat_eq, nat_lt, slice_index}
use Rattle.std.specs.List.{range_with_len, best_of}
use Rattle.std.specs.Option.{unwrap_or}
use Rattle.fault.specs.Card.{fault}
use Rattle.fault.specs.declared.kind.Kind.TheVariants.{StartDue, NoStartDue, CoreIdle, BeforeClock, AfterPromise, NoChoiceDue, NoExit}
use Rattle.model.specs.Calls.{Answer, started, ended, entered, refused, Call, start, end, choose, History}
use Rattle.model.specs.Canonical.{lasts}
use Rattle.model.specs.Graph.{Graph}
use Rattle.model.specs.Histories.{Job, clock, busy, tasks_of, cores_of, here, begun_here}
use Rattle.model.specs.Ladders.{Sound, top, time, floor}
use Rattle.model.specs.Lists.{has}
use Rattle.model.specs.Places.{segment, exits_of, task_of}
use Rattle.model.specs.Policies.{Rule, Ranged}
use Rattle.model.specs.Times.{order_of, latest_end}

abbrev pub any : {X : Type 0} → List X → Bool
any [] = false
any (x ∷ xs) = true

-- of the jobs, that of a core, where it is busy
abbrev pub job_of : ℕ → List Job → List Job
job_of c js = filter (λ (j : Job). nat_eq j.core c) js

-- of two jobs the one with the earlier promise comes first, then the one on the lower core
abbrev pub earlier : Job → Job → Bool
earlier j k = nat_lt j.promise k.promise || (j.promise == k.promise && nat_lt j.core k.core)

-- the first of a job and some more
abbrev pub earliest : Job → List Job → Job
earliest j js = best_of earlier j js

module _ (g : Graph) (h : History) where
  -- the tasks of the present segment that are yet to start, in canonical order
  abbrev pub left : List ℕ
  left = drop (length (begun_here h)) (order_of g (here h))

  -- the next of them
  abbrev pub head : ℕ
  head = slice_index left 0

  -- a task of the present segment has started and ended
  abbrev pub over : ℕ → Bool
  over t = has (begun_here h) t && not (has (tasks_of (busy h)) t)

  abbrev pub all_over : List ℕ → Bool
  all_over [] = true
  all_over (t ∷ ts) = over t && all_over ts

  -- the cores that are not busy, the lowest first
  abbrev pub idle : List ℕ
  idle = filter (λ c. not (has (cores_of (busy h)) c)) (range_with_len 0 g.cores)

  -- a head whose predecessors are over, and an idle core
  abbrev pub start_due : Bool
  start_due = any left && (all_over (task_of g (here h) head).predecessors && any idle)

  -- every task of the present segment has ended
  abbrev pub at_rest : Bool
  at_rest = not (any left) && not (any (busy h))

  abbrev pub exits : List ℕ
  exits = exits_of g (here h)

  abbrev pub choice_due : Bool
  choice_due = at_rest && any exits

  abbrev pub finished : Bool
  finished = at_rest && not (any exits)

  -- the level that a ladder and a policy give the head; where no level is in time, the floor told is the count of levels
  abbrev pub level_of : List ℕ → Rule → ℕ
  level_of speeds rule =
      let work = lasts (segment g (here h)) head in
      let window = latest_end g (here h) head - clock h in
      rule head (clock h) (unwrap_or (floor speeds work window) (length speeds)) (top speeds)

  -- an end report where no start is due, told the core's job and all jobs
  abbrev pub judged : ℕ → ℕ → List Job → List Job → Answer
  judged c n [] ks = refused (fault CoreIdle c)
  judged c n (j ∷ js) [] = refused (fault CoreIdle c)
  judged c n (j ∷ js) (k ∷ ks) =
      cond (nat_lt n (clock h)) (refused (fault BeforeClock (clock h)))
      (cond (nat_lt (earliest k ks).promise n) (refused (fault AfterPromise (earliest k ks).core)) (ended j.task))

  abbrev pub answer : Call → Answer
  answer (start speeds rule) =
      let level = level_of speeds rule in
      cond start_due
      (started head (slice_index idle 0) level (clock h + time speeds (lasts (segment g (here h)) head) level))
      (refused (fault NoStartDue 0))
  answer (end c n) = cond start_due (refused (fault StartDue head)) (judged c n (job_of c (busy h)) (busy h))
  answer (choose i) =
      cond choice_due
      (cond (nat_lt i (length exits)) (entered (slice_index exits i)) (refused (fault NoExit (length exits))))
      (refused (fault NoChoiceDue 0))

-- a call that may be made: a start is handed a ladder and a policy
abbrev pub Proper : Call → Type 0
Proper (start speeds rule) = Sound speeds × Ranged rule
Proper (end c n) = Unit {0}
Proper (choose i) = Unit {0}

-- the history of a newly opened frame: each call was answered as the history before it says
abbrev pub Run : Graph → History → Type 0
Run g [] = Unit {0}
Run g (e ∷ h) = Proper e.call × (e.answer ≡ answer g h e.call) × Run g h
