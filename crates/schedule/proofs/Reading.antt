-- Tasks of a segment, and lists in a Vec, by their places.
use Rattle.std.proofs.Common.{◌≡◌, ℕ, ◌<◌, [], length, get_or, vec_items, vec_len, Vec, sym, ap, ◌∙◌, arith}
use Rattle.std.proofs.lemmas.List.{length-map, length-take, get_or-map}
use Rattle.model.specs.Places.{no_task, task}
use Rattle.graph.specs.Meaning.{task_of, segment_of}
use Rattle.graph.specs.declared.parts.Segment.{Segment}
use Rattle.graph.specs.declared.parts.Task.{Task}
use Rattle.queue.specs.Held.{cells_of, count, held}
use Rattle.queue.specs.declared.cells.Queue.{Queue}
use Rattle.queue.specs.declared.order.Entry as entry
use Rattle.schedule.specs.Vecs.{lists}

pub length-lists : {X Y Z : Type 0} (v : Vec (Vec X Y) Z) → length (lists v) ≡ vec_len v
length-lists v = length-map (vec_items v) vec_items ∙ sym v.ok.0

pub read_list : {X Y Z : Type 0} (v : Vec (Vec X Y) Z) (i : ℕ) (x : Vec X Y) → i < vec_len v → x ≡ get_or (vec_items v) i x → get_or (lists v) i [] ≡ vec_items x
read_list v i x inside is = get_or-map vec_items (vec_items v) i x [] (omega (arith, v.ok.0)) ∙ ap vec_items (sym is)

pub length-tasks : (s : Segment) → length (segment_of s).tasks ≡ vec_len s.tasks
length-tasks s = length-map (vec_items s.tasks) task_of ∙ sym s.tasks.ok.0

pub read_task : (s : Segment) (i : ℕ) (x : Task) → i < vec_len s.tasks → x ≡ get_or (vec_items s.tasks) i x → task (segment_of s) i ≡ task_of x
read_task s i x inside is = get_or-map task_of (vec_items s.tasks) i x no_task (omega (arith, s.tasks.ok.0)) ∙ ap task_of (sym is)

pub held_count : {E : Type 0} {o : entry.Ghosts E} (q : Queue E o) → length (held q) ≡ count q
held_count q = omega (arith, length-take (count q) (cells_of q), q.fits)
