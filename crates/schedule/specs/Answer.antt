-- What the scheduler answers.
use Rattle.std.specs.Prelude.{ℕ, cond, List, map, Ok, Err, Result, nat_lt}
use Rattle.fault.specs.Card.{fault}
use Rattle.fault.specs.declared.kind.Fault.{Fault}
use Rattle.fault.specs.declared.kind.Kind.TheVariants.{TooSmall}
use Rattle.model.specs.Accepting.{tasks_of_largest}
use Rattle.model.specs.Graph.{Graph}
use Rattle.schedule.specs.Meaning.{Plan, planned}

-- the schedule of each segment, or how many cells are needed: ready ones, then running ones
-- (`accepting` of the model makes the same two tests, and goes on to the deadline, with a graph in place of schedules)
abbrev pub schedules : Graph → ℕ → ℕ → Result (List Plan) Fault
schedules g ready running =
    cond (nat_lt ready (tasks_of_largest g.segments)) (Err (fault TooSmall (tasks_of_largest g.segments)))
    (cond (nat_lt running g.cores) (Err (fault TooSmall g.cores))
    (Ok (map (planned g.cores) g.segments)))
