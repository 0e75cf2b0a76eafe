-- The one line that a fault prints.
use Rattle.std.specs.Prelude.{ℕ, List, ◌++◌, codes, decimal}
use Rattle.fault.specs.declared.kind.Fault.{Fault}
use Rattle.fault.specs.declared.kind.Layer.{Layer}
use Rattle.fault.specs.declared.kind.Layer.TheVariants.{Bytes, Plan, Ladder, Frame}
use Rattle.fault.specs.Card.{number, layer}

abbrev pub name : Layer → List ℕ
name Bytes = codes "bytes"
name Plan = codes "plan"
name Ladder = codes "ladder"
name Frame = codes "frame"

-- refused, number, layer and place, parted by blanks
abbrev pub refusal : Fault → List ℕ
refusal f = codes "refused " ++ (decimal (number f.kind) ++ (codes " " ++ (name (layer f.kind) ++ (codes " " ++ decimal f.place))))
