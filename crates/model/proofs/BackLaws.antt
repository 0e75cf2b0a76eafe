-- The bytes of a well-formed graph are read back; cut short they end inside, and bytes after them are refused.
use Rattle.std.proofs.Common.{◌≡◌, ℕ, zero, suc, pred, ◌+◌, ◌-◌, ◌<◌, ◌≤◌, true, ltb, leb, List, [], ◌∷◌, ◌++◌, length, take, Ok, sym, refl, subst, append_assoc, append-nil, arith, length-append}
use Rattle.std.specs.List.{flat_map}
use Rattle.std.proofs.lemmas.Bool.{and_parts, le-leb, lt-leb, ltb-true}
use Rattle.std.proofs.lemmas.List.{length-take-le, take_at, drop_at}
use Rattle.fault.specs.declared.kind.Kind.{Kind}
use Rattle.fault.specs.declared.kind.Kind.TheVariants.{NotRising, OutOfRange}
use Rattle.model.specs.Bytes.{Read, then, at, string, several}
use Rattle.model.specs.Formed.{rises, all_entered}
use Rattle.model.specs.Graph.{Graph, Segment, Task, predecessors_of, tasks_in, predecessors_in, entered}
use Rattle.model.specs.Lists.{each, past}
use Rattle.model.specs.Numbers.{number_bytes}
use Rattle.model.specs.Reading.{ranged, next_rising, next_task, next_segment, numbers, entries, reading}
use Rattle.model.specs.Writing.{listed, task_bytes, segment_bytes, graph_bytes}
use Rattle.model.specs.Laws.{GraphsReadBack, PlansCutShortEndInside, BytesAfterAPlanAreRefused}
use Rattle.model.proofs.Fits.{within_parts, within_from, task_parts, segment_parts, tasks_fit, formed_numbered, TaskFits, SegmentFits, Numbered}
use Rattle.model.proofs.GraphLaws.{reading_sound}
use Rattle.model.proofs.Along.{Along, along_both, each_along, affords_each}
use Rattle.model.proofs.NumberLaws.{numbers_read_back, numbers_cut_short}
use Rattle.model.proofs.Taken.{Takes, takes_none, then_takes, several-take}

-- a number from low to high, a number that may follow those before it, and the next bytes
pub ranged_takes : (low high n : ℕ) → low ≤ n → n ≤ high → high < 4294967296 → Takes (λ count. ranged count low high) n (number_bytes n)
ranged_takes low high n l h u =
    record {
      reads = λ count rest. rw (numbers_read_back n count rest (omega arith), within_from low high n l h);
      ends = λ count k c. rw (numbers_cut_short n count k c);
    }

pub rising_takes : (over : Kind) (least top : ℕ) (before : List ℕ) (n : ℕ) → rises least top before n ≡ true → top ≤ 4294967296
    → Takes (λ count. next_rising count over least top before) n (number_bytes n)
rising_takes over least top before n r h =
    let p = and_parts (ltb n top) (leb (past least before) n) r in
    record {
      reads = λ count rest. rw (numbers_read_back n count rest (omega (arith, ltb-true n top p.0)), p.0, p.1);
      ends = λ count k l. rw (numbers_cut_short n count k l);
    }

pub string_takes : (name : List ℕ) → Takes (λ count. string count (length name)) name name
string_takes name =
    record {
      reads = λ count rest. rw (le-leb (length name) (length (name ++ rest)) (omega (arith, length-append name rest)), take_at name rest (length name) refl, drop_at name rest (length name) refl);
      ends = λ count k l. rw (lt-leb (length name) (length (take k name)) (omega (arith, length-take-le k name (omega arith))));
    }

-- how many, and then each, and then what follows
module _ {X Y : Type 0} (item : ℕ → ℕ → List X → List ℕ → Read X) (bytes : X → List ℕ) (P : List X → X → Type 0) (next : List X → ℕ → List ℕ → Read Y)
    (low high : ℕ) (xs : List X) where
  pub listed-take : (y : Y) (rest : List ℕ) → ((done : List X) (x : X) → P done x → Takes (λ count. item (length xs) count done) x (bytes x))
      → low ≤ length xs → length xs ≤ high → high < 4294967296 → Along P [] xs → Takes (next xs) y rest
      → Takes (λ count bs. then (ranged count low high bs) (λ many after. then (several (item many count) many [] after) (λ ys behind. next ys count behind))) y (listed bytes xs ++ rest)
  listed-take y rest own l h u a n =
      rw append_assoc
      (then_takes (λ count. ranged count low high) (λ many count after. then (several (item many count) many [] after) (λ ys behind. next ys count behind))
      (length xs) y (number_bytes (length xs)) (flat_map bytes xs ++ rest)
      (ranged_takes low high (length xs) l h u)
      (then_takes (λ count. several (item (length xs) count) (length xs) []) next xs y (flat_map bytes xs) rest (several-take (item (length xs)) bytes P own [] xs a) n))

-- how many, and then each, and then no more
module _ {X Y : Type 0} (item : ℕ → ℕ → List X → List ℕ → Read X) (bytes : X → List ℕ) (P : List X → X → Type 0) (made : List X → Y) (low high : ℕ) (xs : List X) where
  pub listed_last : ((done : List X) (x : X) → P done x → Takes (λ count. item (length xs) count done) x (bytes x))
      → low ≤ length xs → length xs ≤ high → high < 4294967296 → Along P [] xs
      → Takes (λ count bs. then (ranged count low high bs) (λ many after. then (several (item many count) many [] after) (λ ys rest. Ok (made ys, rest)))) (made xs) (listed bytes xs)
  listed_last own l h u a =
      rw (← append-nil (listed bytes xs)) (listed-take item bytes P (λ ys count rest. Ok (made ys, rest)) low high xs (made xs) [] own l h u a (takes_none (made xs)))

-- numbers that rise, and then no more
module _ {Y : Type 0} (over : Kind) (least top : ℕ) (made : List ℕ → Y) (high : ℕ) (ns : List ℕ) where
  pub rising_listed : top ≤ 4294967296 → length ns ≤ high → high < 4294967296 → each (rises least top) [] ns ≡ true
      → Takes (λ count bs. then (ranged count 0 high bs) (λ many after. then (several (next_rising count over least top) many [] after) (λ ys rest. Ok (made ys, rest)))) (made ns) (listed number_bytes ns)
  rising_listed t h u e =
      listed_last (λ many count. next_rising count over least top) number_bytes (λ done n. rises least top done n ≡ true) made 0 high ns
      (λ done n r. rising_takes over least top done n r t) (omega arith) h u (each_along (rises least top) [] ns e)

-- a task, a segment and the numbers of a graph
pub task_takes : (left : ℕ) (before : List Task) (t : Task) → left ≤ 1024 → length before < 256 → TaskFits left before t
    → Takes (λ count. next_task count left before) t (task_bytes t)
task_takes left before t h l f =
    let p = task_parts before t f.0 in
    then_takes (λ count. ranged count 0 16) _ (length t.name) t (number_bytes (length t.name)) _ (ranged_takes 0 16 (length t.name) (omega arith) p.0 (omega arith))
    (then_takes (λ count. string count (length t.name)) _ t.name t t.name _ (string_takes t.name)
    (then_takes (λ count. ranged count 0 1000000) _ t.worst t (number_bytes t.worst) _ (ranged_takes 0 1000000 t.worst (omega arith) p.1 (omega arith))
    (rising_listed NotRising 0 (length before) (λ predecessors. record { name = t.name; worst = t.worst; predecessors = predecessors }) (left - predecessors_of before) t.predecessors
    (omega arith) f.1 (omega arith) p.2)))

pub segment_takes : (segments : ℕ) (before : List Segment) (s : Segment) → segments ≤ 32 → SegmentFits segments before s
    → Takes (λ count. next_segment count segments before) s (segment_bytes s)
segment_takes segments before s h f =
    let p = segment_parts segments before s f.0 in
    let left = 1024 - predecessors_in before in
    let tasks =
    along_both (TaskFits left) (λ d t. 1 ≤ 256 - length d) [] s.tasks (tasks_fit left s.tasks p.1 f.1.1)
    (affords_each (λ (t : Task). 1) length refl (λ t more. omega arith) 256 [] s.tasks (omega arith)) in
    listed-take (λ many count. next_task count left) task_bytes (λ d t. TaskFits left d t × (1 ≤ 256 - length d)) _ 1 (256 - tasks_in before) s.tasks
    s (listed number_bytes s.exits) (λ d t q. task_takes left d t (omega arith) (omega arith) q.0) p.0 f.1.0 (omega arith) tasks
    (rising_listed OutOfRange (length before + 1) segments (λ exits. record { tasks = s.tasks; exits = exits }) 31 s.exits (omega arith) p.2 (omega arith) p.3)

pub numbers-take : (g : Graph) → Numbered g → Takes numbers g (graph_bytes g)
numbers-take g n =
    let c = within_parts 1 8 g.cores n.0 in
    let d = within_parts 0 1000000000 g.deadline n.1 in
    let s = within_parts 1 32 (length g.segments) n.2 in
    then_takes (λ count. ranged count 1 8) _ g.cores g (number_bytes g.cores) _ (ranged_takes 1 8 g.cores c.0 c.1 (omega arith))
    (then_takes (λ count. ranged count 0 1000000000) _ g.deadline g (number_bytes g.deadline) _ (ranged_takes 0 1000000000 g.deadline d.0 d.1 (omega arith))
    (listed_last (λ many count. next_segment count many) segment_bytes (SegmentFits (length g.segments))
    (λ segments. record { cores = g.cores; deadline = g.deadline; segments = segments }) 1 32 g.segments
    (λ done x f. segment_takes (length g.segments) done x s.1 f) s.0 s.1 (omega arith) n.3))

-- each segment from k on, n of them, is an exit
pub entries_read : (g : Graph) (k n : ℕ) → all_entered g.segments k n ≡ true → entries g k n ≡ Ok g
entries_read g k zero e = refl
entries_read g k (suc n) e =
    let p = and_parts (entered g.segments k) (all_entered g.segments (k + 1) n) e in
    rw p.0 (entries_read g (k + 1) n p.1)

pub graphs_read_back : GraphsReadBack
graphs_read_back g e =
    let f = formed_numbered g e in
    let r : numbers (length (graph_bytes g)) (graph_bytes g) ≡ Ok (g, []) = rw (append-nil (graph_bytes g)) at ((numbers-take g f.0).reads (length (graph_bytes g)) []) in
    rw r (entries_read g 1 (pred (length g.segments)) f.1)

-- bytes that read without fault are taken whatever follows
pub plan_takes : (g : Graph) (bs : List ℕ) → reading bs ≡ Ok g → Takes numbers g bs
plan_takes g bs e = let r = reading_sound g bs e in subst (λ (w : List ℕ). Takes numbers g w) (sym r.2) (numbers-take g r.0)

pub plans_cut_short_end_inside : PlansCutShortEndInside
plans_cut_short_end_inside g bs k e h = rw ((plan_takes g bs e).ends (length (take k bs)) k h, length-take-le k bs (omega arith))

pub bytes_after_a_plan_are_refused : BytesAfterAPlanAreRefused
bytes_after_a_plan_are_refused g bs more b e =
    let place : at (length (bs ++ (b ∷ more))) (b ∷ more) ≡ length bs = omega (arith, length-append bs (b ∷ more)) in
    rw ((plan_takes g bs e).reads (length (bs ++ (b ∷ more))) (b ∷ more), place)
