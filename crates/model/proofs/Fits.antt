-- What a well-formed graph asks of each task and each segment, told those before it: as a reader can see it.
use Rattle.std.proofs.Common.{◌≡◌, ℕ, pred, ◌+◌, ◌-◌, ◌≤◌, true, ◌&&◌, leb, List, [], length, refl, arith}
use Rattle.std.proofs.lemmas.Bool.{and_parts, and_from, leb-true, le-leb}
use Rattle.model.specs.Formed.{within, rises, task_formed, segment_formed, all_entered, well_formed}
use Rattle.model.specs.Graph.{Graph, Segment, Task, predecessors_of, tasks_in, predecessors_in}
use Rattle.model.specs.Lists.{each}
use Rattle.model.proofs.Along.{Along, along_weaker, along_both, each_along, along_each, affords_each, affords_all}

-- a number in a range
pub within_parts : (low high n : ℕ) → within low high n ≡ true → (low ≤ n) × (n ≤ high)
within_parts low high n e = let p = and_parts (leb low n) (leb n high) e in (leb-true low n p.0, leb-true n high p.1)

pub within_from : (low high n : ℕ) → low ≤ n → n ≤ high → within low high n ≡ true
within_from low high n l h = and_from (leb low n) (leb n high) (le-leb low n l) (le-leb n high h)

-- what the tests of a task and of a segment say
pub task_parts : (before : List Task) (t : Task) → task_formed before t ≡ true
    → (length t.name ≤ 16) × (t.worst ≤ 1000000) × (each (rises 0 (length before)) [] t.predecessors ≡ true)
task_parts before t e =
    let a = and_parts (leb (length t.name) 16) (leb t.worst 1000000 && each (rises 0 (length before)) [] t.predecessors) e in
    let b = and_parts (leb t.worst 1000000) (each (rises 0 (length before)) [] t.predecessors) a.1 in
    (leb-true (length t.name) 16 a.0, leb-true t.worst 1000000 b.0, b.1)

pub task_from : (before : List Task) (t : Task)
    → length t.name ≤ 16 → t.worst ≤ 1000000 → each (rises 0 (length before)) [] t.predecessors ≡ true → task_formed before t ≡ true
task_from before t n w r = and_from _ _ (le-leb (length t.name) 16 n) (and_from _ _ (le-leb t.worst 1000000 w) r)

pub segment_parts : (segments : ℕ) (before : List Segment) (s : Segment) → segment_formed segments before s ≡ true
    → (1 ≤ length s.tasks) × (each task_formed [] s.tasks ≡ true) × (length s.exits ≤ 31) × (each (rises (length before + 1) segments) [] s.exits ≡ true)
segment_parts segments before s e =
    let a = and_parts (leb 1 (length s.tasks)) (each task_formed [] s.tasks && (leb (length s.exits) 31 && each (rises (length before + 1) segments) [] s.exits)) e in
    let b = and_parts (each task_formed [] s.tasks) (leb (length s.exits) 31 && each (rises (length before + 1) segments) [] s.exits) a.1 in
    let c = and_parts (leb (length s.exits) 31) (each (rises (length before + 1) segments) [] s.exits) b.1 in
    (leb-true 1 (length s.tasks) a.0, b.0, leb-true (length s.exits) 31 c.0, c.1)

pub segment_from : (segments : ℕ) (before : List Segment) (s : Segment)
    → 1 ≤ length s.tasks → each task_formed [] s.tasks ≡ true → length s.exits ≤ 31 → each (rises (length before + 1) segments) [] s.exits ≡ true
    → segment_formed segments before s ≡ true
segment_from segments before s t f x r = and_from _ _ (le-leb 1 (length s.tasks) t) (and_from _ _ f (and_from _ _ (le-leb (length s.exits) 31 x) r))

-- a task fits the tasks of its segment before it, where `left` predecessors were left to the plan at the first
abbrev pub TaskFits : ℕ → List Task → Task → Type 0
TaskFits left before t = (task_formed before t ≡ true) × (length t.predecessors ≤ left - predecessors_of before)

-- a segment of a plan of `segments` fits the segments before it
abbrev pub SegmentFits : ℕ → List Segment → Segment → Type 0
SegmentFits segments before s =
    (segment_formed segments before s ≡ true)
    × ((length s.tasks ≤ 256 - tasks_in before) × (predecessors_of s.tasks ≤ 1024 - predecessors_in before))

-- all that a graph has to keep but that its segments are entered
abbrev pub Numbered : Graph → Type 0
Numbered g =
    (within 1 8 g.cores ≡ true)
    × (within 0 1000000000 g.deadline ≡ true)
    × (within 1 32 (length g.segments) ≡ true)
    × Along (SegmentFits (length g.segments)) [] g.segments

abbrev pub AllEntered : Graph → Type 0
AllEntered g = all_entered g.segments 1 (pred (length g.segments)) ≡ true

-- each fits where all are formed and few enough, and back
module _ (left : ℕ) (ts : List Task) where
  pub tasks_fit : each task_formed [] ts ≡ true → predecessors_of ts ≤ left → Along (TaskFits left) [] ts
  tasks_fit e h =
      along_both (λ d t. task_formed d t ≡ true) (λ d t. length t.predecessors ≤ left - predecessors_of d) [] ts
      (each_along task_formed [] ts e)
      (affords_each (λ (t : Task). length t.predecessors) predecessors_of refl (λ t more. refl) left [] ts (omega arith))

  pub tasks_formed : Along (TaskFits left) [] ts → (each task_formed [] ts ≡ true) × (predecessors_of ts ≤ left)
  tasks_formed a =
      let few =
      affords_all (λ (t : Task). length t.predecessors) predecessors_of refl (λ t more. refl) left [] ts
      (along_weaker (TaskFits left) (λ d t. length t.predecessors ≤ left - predecessors_of d) (λ d t f. f.1) [] ts a) in
      (along_each task_formed [] ts (along_weaker (TaskFits left) (λ d t. task_formed d t ≡ true) (λ d t f. f.0) [] ts a), omega (arith, few))

module _ (segments : ℕ) (ss : List Segment) where
  abbrev FewTasks : List Segment → Segment → Type 0
  FewTasks d s = length s.tasks ≤ 256 - tasks_in d

  abbrev FewPredecessors : List Segment → Segment → Type 0
  FewPredecessors d s = predecessors_of s.tasks ≤ 1024 - predecessors_in d

  pub segments_fit : each (segment_formed segments) [] ss ≡ true → tasks_in ss ≤ 256 → predecessors_in ss ≤ 1024 → Along (SegmentFits segments) [] ss
  segments_fit e h k =
      along_both (λ d s. segment_formed segments d s ≡ true) (λ d s. FewTasks d s × FewPredecessors d s) [] ss
      (each_along (segment_formed segments) [] ss e)
      (along_both FewTasks FewPredecessors [] ss
      (affords_each (λ (s : Segment). length s.tasks) tasks_in refl (λ s more. refl) 256 [] ss (omega arith))
      (affords_each (λ (s : Segment). predecessors_of s.tasks) predecessors_in refl (λ s more. refl) 1024 [] ss (omega arith)))

  pub segments_formed : Along (SegmentFits segments) [] ss → (each (segment_formed segments) [] ss ≡ true) × (tasks_in ss ≤ 256) × (predecessors_in ss ≤ 1024)
  segments_formed a =
      let tasks =
      affords_all (λ (s : Segment). length s.tasks) tasks_in refl (λ s more. refl) 256 [] ss
      (along_weaker (SegmentFits segments) FewTasks (λ d s f. f.1.0) [] ss a) in
      let predecessors =
      affords_all (λ (s : Segment). predecessors_of s.tasks) predecessors_in refl (λ s more. refl) 1024 [] ss
      (along_weaker (SegmentFits segments) FewPredecessors (λ d s f. f.1.1) [] ss a) in (
        along_each (segment_formed segments) [] ss (along_weaker (SegmentFits segments) (λ d s. segment_formed segments d s ≡ true) (λ d s f. f.0) [] ss a),
        omega (arith, tasks),
        omega (arith, predecessors),
      )

-- a graph is well-formed where its numbers keep their limits and each segment but 0 is an exit
pub formed_numbered : (g : Graph) → well_formed g ≡ true → Numbered g × AllEntered g
formed_numbered g e =
    let ss = g.segments in
    let a = and_parts _ _ e in
    let b = and_parts _ _ a.1 in
    let c = and_parts _ _ b.1 in
    let d = and_parts _ _ c.1 in
    let f = and_parts _ _ d.1 in
    let k = and_parts _ _ f.1 in
    ((a.0, b.0, c.0, segments_fit (length ss) ss k.0 (leb-true (tasks_in ss) 256 d.0) (leb-true (predecessors_in ss) 1024 f.0)), k.1)

pub numbered_formed : (g : Graph) → Numbered g → AllEntered g → well_formed g ≡ true
numbered_formed g n e =
    let ss = g.segments in
    let f = segments_formed (length ss) ss n.3 in
    and_from _ _ n.0 (and_from _ _ n.1 (and_from _ _ n.2
    (and_from _ _ (le-leb (tasks_in ss) 256 f.1) (and_from _ _ (le-leb (predecessors_in ss) 1024 f.2) (and_from _ _ f.0 e)))))
