-- The bytes that groups hold.
use Rattle.std.specs.Prelude.{ℕ, List, take}
use Rattle.number.specs.declared.form.Groups.{Groups}

abbrev pub bytes_of : Groups → List ℕ
bytes_of g = take g.len g.bytes
