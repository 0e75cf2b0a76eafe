-- A layout stands for a progress of the model.
use Rattle.std.specs.Prelude.{◌≡◌, ℕ, List, ◌∷◌, map, vec_items}
use Rattle.model.specs.Canonical as canon
use Rattle.model.specs.Graph.{Segment}
use Rattle.graph.specs.Meaning.{segment_of}
use Rattle.queue.specs.Held.{held}
use Rattle.queue.specs.declared.kinds.Ready.{Ready}
use Rattle.queue.specs.declared.kinds.Running.{Running}
use Rattle.schedule.specs.Meaning.{start_of}
use Rattle.schedule_laws.specs.Passing.{Passing}
use Rattle.schedule_laws.specs.Standing.{Standing, begin}
use Rattle.schedule.specs.declared.layouts.Layout.{Layout}

-- what is laid out, and on how many cores, stays
pub record SameWork (l l' : Layout) : Type 0 where
  pub cores : l'.cores ≡ l.cores
  pub segment : l'.segment ≡ l.segment

-- with these entries of the ready tasks and of the running ones
pub record StandsWith (p : canon.Progress) (ready : List Ready) (runs : List Running) (l : Layout) : Type 0 where
  pub moment : l.moment ≡ p.moment
  pub starts : map start_of (vec_items l.starts) ≡ p.starts
  pub standing : Standing l.cores (segment_of l.segment.now) p ready runs (vec_items l.waiting) l.taken

abbrev pub Stands : canon.Progress → Layout → Type 0
Stands p l = StandsWith p (held l.ready) (held l.running) l

-- it stands for some progress
abbrev pub Sound : Layout → Type 0
Sound l = (p : canon.Progress) × Stands p l

-- the layout moves on as the model's progress does
pub record Moves (move : ℕ → Segment → canon.Progress → canon.Progress) (l l' : Layout) : Type 0 where
  pub same : SameWork l l'
  pub stands : (p : canon.Progress) → Stands p l → Stands (move l.cores (segment_of l.segment.now) p) l'

-- a ready task, whose entry was taken out, began on a core
pub record Begun (first : Ready) (core : ℕ) (l l' : Layout) : Type 0 where
  pub same : SameWork l l'
  pub stands : (p : canon.Progress) → StandsWith p (first ∷ held l.ready) (held l.running) l → Stands (begin p first.task core) l'

-- the progress p passes to the layout's moment; so far `over` have ended, and these entries run
pub record Passes (p : canon.Progress) (over : List ℕ) (runs : List Running) (l : Layout) : Type 0 where
  pub starts : map start_of (vec_items l.starts) ≡ p.starts
  pub passing : Passing l.cores (segment_of l.segment.now) p l.moment over (held l.ready) runs (vec_items l.waiting) l.taken
