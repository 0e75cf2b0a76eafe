-- A Vec of Vecs as a list of lists.
use Rattle.std.specs.Prelude.{List, map, vec_items, Vec}

abbrev pub lists : {X Y Z : Type 0} → Vec (Vec X Y) Z → List (List X)
lists v = map vec_items (vec_items v)
