-- What the tables of a plan say.
use Rattle.std.specs.Prelude.{ℕ, List, map}
use Rattle.schedule.specs.declared.parts.Timeline.{Timeline}

-- the length of each timeline
abbrev pub lengths_of : List Timeline → List ℕ
lengths_of ts = map (λ (t : Timeline). t.length) ts
