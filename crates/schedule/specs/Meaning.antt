-- What starts and timelines mean.
use Rattle.std.specs.Prelude.{ℕ, List, map, vec_items}
use Rattle.model.specs.Canonical as canon
use Rattle.model.specs.Graph.{Segment}
use Rattle.schedule.specs.declared.parts.Start.{Start}
use Rattle.schedule.specs.declared.parts.Timeline.{Timeline}

abbrev pub start_of : Start → canon.Start
start_of x = record { task = x.task; at = x.at; core = x.core }

-- starts in order, and when the last of them ends
pub record Plan : Type 0 where
  pub starts : List canon.Start
  pub length : ℕ

abbrev pub timeline_of : Timeline → Plan
timeline_of t = record { starts = map start_of (vec_items t.starts); length = t.length }

-- the canonical schedule of a segment
abbrev pub planned : ℕ → Segment → Plan
planned cores s = record { starts = canon.canonical cores s; length = canon.length_of cores s }
