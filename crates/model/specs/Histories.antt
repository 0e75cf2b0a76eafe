-- What the calls and their answers tell: the clock, the busy cores, the segments taken, the tasks begun.
use Rattle.std.specs.Prelude.{ℕ, not, List, [], ◌∷◌, ◌++◌, map, filter, ◌==◌, slice_index}
use Rattle.model.specs.Calls.{Answer, started, ended, entered, refused, Call, start, end, choose, History}

-- what a core is busy with
pub record Job : Type 0 where
  pub core : ℕ
  pub task : ℕ
  pub promise : ℕ

-- the time of the last accepted end report
abbrev pub ticks : Call → Answer → ℕ → ℕ
ticks (end c n) (ended t) now = n
ticks (end c n) (started t d l q) now = now
ticks (end c n) (entered s) now = now
ticks (end c n) (refused f) now = now
ticks (start speeds rule) a now = now
ticks (choose i) a now = now

abbrev pub clock : History → ℕ
clock [] = 0
clock (e ∷ h) = ticks e.call e.answer (clock h)

-- the jobs but that of a core
abbrev pub without : ℕ → List Job → List Job
without c js = filter (λ (j : Job). not (j.core == c)) js

-- a core is busy from the accepted start that answers it to the next accepted end report that names it
abbrev pub boards : Call → Answer → List Job → List Job
boards (start speeds rule) (started t c l q) js = record { core = c; task = t; promise = q } ∷ js
boards (start speeds rule) (ended t) js = js
boards (start speeds rule) (entered s) js = js
boards (start speeds rule) (refused f) js = js
boards (end c n) (ended t) js = without c js
boards (end c n) (started t d l q) js = js
boards (end c n) (entered s) js = js
boards (end c n) (refused f) js = js
boards (choose i) a js = js

abbrev pub busy : History → List Job
busy [] = []
busy (e ∷ h) = boards e.call e.answer (busy h)

abbrev pub tasks_of : List Job → List ℕ
tasks_of js = map (λ (j : Job). j.task) js

abbrev pub cores_of : List Job → List ℕ
cores_of js = map (λ (j : Job). j.core) js

-- the segments taken, the newest first
abbrev pub enters : Call → Answer → List ℕ → List ℕ
enters (choose i) (entered s) ss = s ∷ ss
enters (choose i) (started t c l q) ss = ss
enters (choose i) (ended t) ss = ss
enters (choose i) (refused f) ss = ss
enters (start speeds rule) a ss = ss
enters (end c n) a ss = ss

abbrev pub path : History → List ℕ
path [] = 0 ∷ []
path (e ∷ h) = enters e.call e.answer (path h)

-- the present segment
abbrev pub here : History → ℕ
here h = slice_index (path h) 0

-- the tasks started in the present segment, in order
abbrev pub begins : Call → Answer → List ℕ → List ℕ
begins (start speeds rule) (started t c l q) ts = ts ++ (t ∷ [])
begins (start speeds rule) (ended t) ts = ts
begins (start speeds rule) (entered s) ts = ts
begins (start speeds rule) (refused f) ts = ts
begins (choose i) (entered s) ts = []
begins (choose i) (started t c l q) ts = ts
begins (choose i) (ended t) ts = ts
begins (choose i) (refused f) ts = ts
begins (end c n) a ts = ts

abbrev pub begun_here : History → List ℕ
begun_here [] = []
begun_here (e ∷ h) = begins e.call e.answer (begun_here h)

-- all tasks started, in order, each with its segment
abbrev pub adds : ℕ → Call → Answer → List (ℕ × ℕ) → List (ℕ × ℕ)
adds s (start speeds rule) (started t c l q) ts = ts ++ ((s, t) ∷ [])
adds s (start speeds rule) (ended t) ts = ts
adds s (start speeds rule) (entered e) ts = ts
adds s (start speeds rule) (refused f) ts = ts
adds s (end c n) a ts = ts
adds s (choose i) a ts = ts

abbrev pub tasks_started : History → List (ℕ × ℕ)
tasks_started [] = []
tasks_started (e ∷ h) = adds (here h) e.call e.answer (tasks_started h)
