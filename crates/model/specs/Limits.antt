-- The limits of a plan and of a ladder. A tick is a microsecond.
use Rattle.std.specs.Prelude.{ℕ}

abbrev pub most_cores : ℕ
most_cores = 8

-- in ticks
abbrev pub most_deadline : ℕ
most_deadline = 1000000000

abbrev pub most_segments : ℕ
most_segments = 32

-- of the whole plan
abbrev pub most_tasks : ℕ
most_tasks = 256

-- of the whole plan
abbrev pub most_predecessors : ℕ
most_predecessors = 1024

-- of a segment
abbrev pub most_exits : ℕ
most_exits = 31

-- in bytes
abbrev pub most_name : ℕ
most_name = 16

-- in ticks
abbrev pub most_worst : ℕ
most_worst = 1000000

-- of a ladder
abbrev pub most_speed : ℕ
most_speed = 10000

-- of a ladder of any kind
abbrev pub most_levels : ℕ
most_levels = 64
