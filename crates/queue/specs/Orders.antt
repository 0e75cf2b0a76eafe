-- Which of two entries comes before the other.
use Rattle.std.specs.Prelude.{Bool, ◌&&◌, ◌||◌, ◌==◌, nat_lt}
use Rattle.queue.specs.declared.kinds.Ready.{Ready}
use Rattle.queue.specs.declared.kinds.Running.{Running}

-- the larger worst, then the lower task
abbrev pub ready_before : Ready → Ready → Bool
ready_before x y = nat_lt y.worst x.worst || (x.worst == y.worst && nat_lt x.task y.task)

-- the earlier end, then the lower core, then the lower task
abbrev pub running_before : Running → Running → Bool
running_before x y = nat_lt x.end y.end || (x.end == y.end && (nat_lt x.core y.core || (x.core == y.core && nat_lt x.task y.task)))
