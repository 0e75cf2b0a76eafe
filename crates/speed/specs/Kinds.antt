-- What the ladders of each kind mean.
use Rattle.std.specs.Prelude.{ℕ, List, take}
use Rattle.model.specs.Making.{even_speeds}
use Rattle.speed.specs.declared.even.Even.{Even}
use Rattle.speed.specs.declared.listed.Listed.{Listed}

-- the first of the table
abbrev pub listed_speeds : Listed → List ℕ
listed_speeds x = take x.count x.table

abbrev pub even_of : Even → List ℕ
even_of x = let s = x.steps in even_speeds s.lowest s.step s.count
