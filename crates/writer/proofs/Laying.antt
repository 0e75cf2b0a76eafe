-- Bytes laid one part after the other, and counted.
use Rattle.std.proofs.Common.{◌≡◌, ℕ, List, [], ◌∷◌, ◌++◌, map, length, vec_items, sym, refl, ap, ◌∙◌, arith, append_assoc, length-append}
use Rattle.std.proofs.lemmas.List.{length-map}
use Rattle.std.specs.List.{flat_map}
use Rattle.graph.specs.Meaning.{task_of}
use Rattle.graph.specs.declared.parts.Task.{Task}
use Rattle.model.proofs.Runs.{laid_then}
use Rattle.model.specs.Numbers.{number_bytes}
use Rattle.model.specs.Writing.{listed, task_bytes}
use Rattle.writer.specs.Laid.{Lays, Countable}
use Rattle.writer.specs.declared.run.Run.{Run}

module _ (xs bs : List ℕ) (run : Run) (count : Countable run (xs ++ bs)) where
  pub count_first : Countable run xs
  count_first = omega (arith, count, length-append xs bs)

  pub count_rest : (after : Run) → Lays xs run after → Countable after bs
  count_rest after one = omega (arith, count, one.laid.ended, length-append xs bs)

-- one part after another
pub lays_then : {xs ys : List ℕ} {run mid after : Run} → Lays xs run mid → Lays ys mid after → Lays (xs ++ ys) run after
lays_then one two = record { same_reference = two.same_reference ∙ one.same_reference; laid = laid_then one.laid two.laid }

-- a byte is its own bytes
pub each_byte : (bs : List ℕ) → flat_map (λ b. b ∷ []) bs ≡ bs
each_byte [] = refl
each_byte (b ∷ bs) = ap (λ l. b ∷ l) (each_byte bs)

-- a list by what its elements mean
joined-map : {X Y : Type 0} (g : Y → List ℕ) (f : X → Y) (xs : List X) → flat_map g (map f xs) ≡ flat_map (λ x. g (f x)) xs
joined-map g f [] = refl
joined-map g f (x ∷ xs) = ap (λ l. g (f x) ++ l) (joined-map g f xs)

pub listed-map : {X Y : Type 0} (g : Y → List ℕ) (f : X → Y) (xs : List X) → listed (λ x. g (f x)) xs ≡ listed g (map f xs)
listed-map g f xs = ap (λ n. number_bytes n ++ flat_map (λ x. g (f x)) xs) (sym (length-map xs f)) ∙ ap (λ l. number_bytes (length (map f xs)) ++ l) (sym (joined-map g f xs))

-- the bytes of a task, as they are put
pub task_parts : (t : Task) → listed (λ b. b ∷ []) (vec_items t.name) ++ (number_bytes t.worst ++ listed number_bytes (vec_items t.predecessors)) ≡ task_bytes (task_of t)
task_parts t =
    let rest = number_bytes t.worst ++ listed number_bytes (vec_items t.predecessors) in
    append_assoc (number_bytes (length (vec_items t.name))) (flat_map (λ b. b ∷ []) (vec_items t.name)) rest
    ∙ ap (λ l. number_bytes (length (vec_items t.name)) ++ (l ++ rest)) (each_byte (vec_items t.name))
