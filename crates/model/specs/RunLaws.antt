-- What holds after every run.
use Rattle.std.specs.Prelude.{◌≡◌, ℕ, ◌<◌, ◌≤◌, true, false, List, [], ◌∷◌, ◌++◌, map, length, take}
use Rattle.model.specs.Accepting.{Accepted}
use Rattle.model.specs.Calls.{Answer, started, ended, entered, refused, Call, start, end, choose, History, AcceptedCall}
use Rattle.model.specs.Due.{start_due, choice_due, exits, finished, answer, Run}
use Rattle.model.specs.Graph.{Graph}
use Rattle.model.specs.Histories.{Job, clock, busy, tasks_of, cores_of, path, here, begun_here, tasks_started}
use Rattle.model.specs.Ladders.{Sound}
use Rattle.model.specs.Lists.{In}
use Rattle.model.specs.Places.{task_of}
use Rattle.model.specs.Policies.{Rule, Ranged}
use Rattle.model.specs.Times.{order_of, latest_start, latest_end}

-- the segments before the last
abbrev pub all_but_last : List ℕ → List ℕ
all_but_last [] = []
all_but_last (s ∷ ss) = ss

module _ (g : Graph) where
  -- after the history h: a start is well made where its predecessors are over, its core is idle and one of the plan's,
  -- it is not after the latest start, and its promise is by the latest end
  pub record StartsWell (h : History) (t c q : ℕ) : Type 0 where
    pub prepared : (u : ℕ) → In u (task_of g (here h) t).predecessors → In u (begun_here h) × (In u (tasks_of (busy h)) → ⊥)
    pub own_core : c < g.cores
    pub idle_core : In c (cores_of (busy h)) → ⊥
    pub not_late : clock h ≤ latest_start g (here h) t
    pub by_end : q ≤ latest_end g (here h) t

  -- an accepted start is well made, and an accepted end report is neither before the clock nor after its task's latest end
  abbrev pub InTime : History → Call → Answer → Type 0
  InTime h (start speeds rule) (started t c l q) = StartsWell h t c q
  InTime h (start speeds rule) (ended t) = Unit {0}
  InTime h (start speeds rule) (entered s) = Unit {0}
  InTime h (start speeds rule) (refused f) = Unit {0}
  InTime h (end c n) (ended t) = (clock h ≤ n) × (n ≤ latest_end g (here h) t)
  InTime h (end c n) (started t d l q) = Unit {0}
  InTime h (end c n) (entered s) = Unit {0}
  InTime h (end c n) (refused f) = Unit {0}
  InTime h (choose i) a = Unit {0}

  abbrev pub AlwaysInTime : History → Type 0
  AlwaysInTime [] = Unit {0}
  AlwaysInTime (e ∷ h) = InTime h e.call e.answer × AlwaysInTime h

  -- a segment's tasks in canonical order
  abbrev pub ordered : ℕ → List (ℕ × ℕ)
  ordered s = map (λ t. (s, t)) (order_of g s)

  -- the canonical orders of some segments, the newest first, joined from the oldest on
  abbrev pub orders_joined : List ℕ → List (ℕ × ℕ)
  orders_joined [] = []
  orders_joined (s ∷ ss) = orders_joined ss ++ ordered s

  -- no task started late, no end was accepted late, and the clock is within the deadline
  pub record OnTime (h : History) : Type 0 where
    pub always : AlwaysInTime h
    pub in_deadline : clock h ≤ g.deadline

  -- the tasks started are the canonical orders of the segments taken, joined, and only the last may be cut short;
  -- a finished frame has started all of it
  pub record InOrder (h : History) : Type 0 where
    pub cut : ℕ
    pub joined : tasks_started h ≡ orders_joined (all_but_last (path h)) ++ take cut (ordered (here h))
    pub whole : finished g h ≡ true → tasks_started h ≡ orders_joined (path h)

  -- a due start is accepted, whatever its ladder and policy; a due choice exactly where the exit exists; where neither
  -- is due in an unfinished frame some core has the earliest promise, and where no start is due the end report of any
  -- such core, made at that promise, is accepted
  pub record NeverStuck (h : History) : Type 0 where
    pub start_goes : start_due g h ≡ true → (speeds : List ℕ) (rule : Rule) → Sound speeds → Ranged rule → AcceptedCall (answer g h (start speeds rule))
    pub choice_goes : choice_due g h ≡ true → (i : ℕ) → (i < length (exits g h) → AcceptedCall (answer g h (choose i))) × (AcceptedCall (answer g h (choose i)) → i < length (exits g h))
    pub some_busy : finished g h ≡ false → start_due g h ≡ false → choice_due g h ≡ false → (j : Job) × In j (busy h) × ((k : Job) → In k (busy h) → j.promise ≤ k.promise)
    pub end_goes : start_due g h ≡ false → (j : Job) → In j (busy h) → ((k : Job) → In k (busy h) → j.promise ≤ k.promise) → AcceptedCall (answer g h (end j.core j.promise))

  pub record Kept (h : History) : Type 0 where
    pub on_time : OnTime h
    pub in_order : InOrder h
    pub never_stuck : NeverStuck h

-- after every run on an accepted plan
abbrev pub EveryRunKeeps : Type 0
EveryRunKeeps = (g : Graph) → Accepted g → (h : History) → Run g h → Kept g h
