-- What the end of a task asks for, from what stands.
use Rattle.std.proofs.Common.{◌≡◌, ℕ, ◌+◌, ◌<◌, ◌≤◌, List, [], ◌∷◌, length, get_or, vec_items, vec_len, sym, ap, ◌∙◌, subst, arith}
use Rattle.model.specs.Canonical.{Progress}
use Rattle.model.specs.Graph.{Segment}
use Rattle.graph.specs.Meaning.{segment_of}
use Rattle.queue.specs.Held.{cells_of, count, held}
use Rattle.queue.specs.declared.kinds.Running.{Running}
use Rattle.schedule_laws.proofs.Ending.{own, core_known, waits_fit, followers_room}
use Rattle.schedule_laws.proofs.Passing.{pass_to}
use Rattle.schedule_laws.specs.Counting.{times}
use Rattle.schedule_laws.specs.Passing.{time_passed}
use Rattle.schedule_laws.specs.Standing.{Standing, followers}
use Rattle.schedule.specs.Stands.{StandsWith, Passes}
use Rattle.schedule.specs.Vecs.{lists}
use Rattle.schedule.specs.declared.layouts.Layout.{Layout}
use Rattle.schedule.proofs.Reading.{length-lists, held_count}

module _ (l : Layout) (p : Progress) (e : Running) (U : List Running) (h : Standing l.cores (segment_of l.segment.now) p (held l.ready) (e ∷ U) (vec_items l.waiting) l.taken) where
  pub known : e.core < 8
  known = core_known l.cores (segment_of l.segment.now) l.bounded p (held l.ready) U (vec_items l.waiting) l.taken e h

  task_low : e.task < length (segment_of l.segment.now).tasks
  task_low = h.begun_low e.task (own l.cores (segment_of l.segment.now) l.bounded p (held l.ready) U (vec_items l.waiting) l.taken e h).0

  pub has_followers : e.task < vec_len l.followers
  has_followers = omega (arith, task_low, l.follows.long, length-lists l.followers)

  -- the followers that are read
  module _ (fs : List ℕ) (is : get_or (lists l.followers) e.task [] ≡ fs) where
    pub follows : fs ≡ followers (segment_of l.segment.now) e.task
    follows = sym is ∙ l.follows.each e.task task_low

    pub waits : (t : ℕ) → times (λ u. u) t fs ≤ get_or (vec_items l.waiting) t 0
    waits = subst (λ v. (t : ℕ) → times (λ u. u) t v ≤ get_or (vec_items l.waiting) t 0) (sym follows) (waits_fit l.cores (segment_of l.segment.now) l.bounded p (held l.ready) U (vec_items l.waiting) l.taken e h)

    pub cells : count l.ready + length fs ≤ length (cells_of l.ready)
    cells = omega (arith, followers_room l.cores (segment_of l.segment.now) l.bounded p (held l.ready) U (vec_items l.waiting) l.taken e h, ap length follows, held_count l.ready, l.ready_room)

-- all that end at the moment have ended, and these entries run
pub passed_on : (l : Layout) (p : Progress) (over : List ℕ) (U : List Running) → Passes p over U l
    → (U' : List Running) → Standing l.cores (segment_of l.segment.now) (time_passed (segment_of l.segment.now) p) (held l.ready) U' (vec_items l.waiting) l.taken
    → (s : Segment) → segment_of l.segment.now ≡ s → StandsWith (time_passed s p) (held l.ready) U' l
passed_on l p over U h U' new s is =
    let to = pass_to l.cores (segment_of l.segment.now) p l.moment over (held l.ready) U (vec_items l.waiting) l.taken h.passing in
    subst (λ t. StandsWith (time_passed t p) (held l.ready) U' l) is (record { moment = sym to.0; starts = h.starts ∙ sym to.1; standing = new })
