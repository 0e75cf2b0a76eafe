-- Bytes laid over a run.
use Rattle.std.specs.Prelude.{◌≡◌, ℕ, ◌+◌, ◌^◌, ◌<◌, List, length}
use Rattle.model.specs.Runs.{Laid}
use Rattle.writer.specs.declared.run.Run.{Run}

-- the places of the bytes can be counted
abbrev pub Countable : Run → List ℕ → Type 0
Countable run bs = run.at + length bs < 2 ^ 64

-- the bytes were laid over the same run from its place on, which then stands after them
pub record Lays (bs : List ℕ) (before after : Run) : Type 0 where
  pub same_reference : after.out.ghost_name ≡ before.out.ghost_name
  pub laid : Laid bs before.at before.out.now after.at after.out.now
