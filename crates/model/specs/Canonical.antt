-- The canonical schedule of one segment: list scheduling on some cores from time 0, the longest task first.
use Rattle.std.specs.Prelude.{ℕ, zero, suc, ◌+◌, ◌*◌, max, Bool, not, ◌&&◌, ◌||◌, ltb, List, [], ◌∷◌, ◌++◌, map, length, filter, ◌==◌, nat_eq, nat_lt, slice_index_or}
use Rattle.std.specs.List.{range_with_len, best_of}
use Rattle.model.specs.Graph.{Segment}
use Rattle.model.specs.Lists.{has, all_in}
use Rattle.model.specs.Places.{task}

-- a start: a task, the time, and the core
pub record Start : Type 0 where
  pub task : ℕ
  pub at : ℕ
  pub core : ℕ

-- what stands where there is no start
abbrev pub no_start : Start
no_start = record { task = 0; at = 0; core = 0 }

-- how far a schedule has come: the moment, the starts so far in their order, and the tasks that have ended
pub record Progress : Type 0 where
  pub moment : ℕ
  pub starts : List Start
  pub ended : List ℕ

-- the tasks of some starts
abbrev pub begun : List Start → List ℕ
begun xs = map (λ (x : Start). x.task) xs

-- the starts whose tasks have not ended
abbrev pub running : Progress → List Start
running p = filter (λ x. not (has p.ended x.task)) p.starts

-- the cores that running tasks take: each takes one
abbrev pub taken : List Start → List ℕ
taken xs = map (λ (x : Start). x.core) xs

-- the cores that no running task takes, the lowest first
abbrev pub free_cores : ℕ → Progress → List ℕ
free_cores cores p = filter (λ c. not (has (taken (running p)) c)) (range_with_len 0 cores)

module _ (s : Segment) where
  -- how long a task is given: its worst
  abbrev pub lasts : ℕ → ℕ
  lasts t = (task s t).worst

  abbrev pub end_of : Start → ℕ
  end_of x = x.at + lasts x.task

  -- a task that has not begun and whose predecessors have all ended is ready
  abbrev pub ready : Progress → ℕ → Bool
  ready p t = not (has (begun p.starts) t) && all_in (task s t).predecessors p.ended

  abbrev pub ready_tasks : Progress → List ℕ
  ready_tasks p = filter (ready p) (range_with_len 0 (length s.tasks))

  -- of two tasks the one with the larger worst comes first, then the lower one
  abbrev pub before : ℕ → ℕ → Bool
  before t u = nat_lt (task s u).worst (task s t).worst || ((task s t).worst == (task s u).worst && nat_lt t u)

  -- the first of a task and some more
  abbrev pub foremost : ℕ → List ℕ → ℕ
  foremost t ts = best_of before t ts

  -- of a start and some more, one that ends the earliest
  abbrev pub soonest : Start → List Start → Start
  soonest x xs = best_of (λ y z. ltb (end_of y) (end_of z)) x xs

  -- time moves to the earliest end among those that run, and every task ending then ends; where none runs, nothing happens
  abbrev pub pass : Progress → List Start → Progress
  pass p [] = p
  pass p (x ∷ xs) =
      let e = end_of (soonest x xs) in
      record {
        moment = e;
        starts = p.starts;
        ended = p.ended ++ begun (filter (λ y. nat_eq (end_of y) e) (x ∷ xs));
      }

  -- the first of the ready tasks starts on the first of the free cores; without such a task or core, time passes
  abbrev pub event : Progress → List ℕ → List ℕ → Progress
  event p [] ts = pass p (running p)
  event p (c ∷ cs) [] = pass p (running p)
  event p (c ∷ cs) (t ∷ ts) =
      record {
        moment = p.moment;
        starts = p.starts ++ (record { task = foremost t ts; at = p.moment; core = c } ∷ []);
        ended = p.ended;
      }

  -- when the last of some starts ends
  abbrev pub last_end : List Start → ℕ
  last_end [] = 0
  last_end (x ∷ xs) = max (end_of x) (last_end xs)

module _ (cores : ℕ) (s : Segment) where
  abbrev pub next : Progress → Progress
  next p = event s p (free_cores cores p) (ready_tasks s p)

  -- the schedule after so many events
  abbrev pub after : ℕ → Progress
  after zero = record { moment = 0; starts = []; ended = [] }
  after (suc n) = next (after n)

  -- each task starts once and ends once
  abbrev pub canonical : List Start
  canonical = (after (2 * length s.tasks)).starts

  -- the tasks in the order of their starts
  abbrev pub order : List ℕ
  order = begun canonical

  -- the start at a place of the order
  abbrev pub nth : ℕ → Start
  nth k = slice_index_or canonical k no_start

  abbrev pub length_of : ℕ
  length_of = last_end s canonical
