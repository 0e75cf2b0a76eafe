-- Time passes: it moves to the earliest end, and the tasks that end then end one by one, in whatever order.
use Rattle.std.proofs.Common.{◌≡◌, ℕ, ◌≤◌, Bool, true, false, not, ◌&&◌, ◌||◌, eqb, ltb, List, ◌∷◌, ◌++◌, length, set, filter, sym, refl, ap, ◌∙◌, subst, inl, inr, ⊎_elim, arith}
use Rattle.std.proofs.ByRecursion.{All-weaker, all_shuffled}
use Rattle.std.proofs.lemmas.Bool.{cases_Bool, or_cases, or_right, or_parts, eqb-true, eq-eqb, ltb-false, not_from_false}
use Rattle.std.specs.List.Sorted.{IsPermutation}
use Rattle.std.specs.List.{AllByRecursion}
use Rattle.model.specs.Canonical.{Start, Progress, begun, running, end_of}
use Rattle.model.specs.Graph.{Segment}
use Rattle.model.specs.Lists.{In, has}
use Rattle.model.specs.Places.{task}
use Rattle.model.proofs.Events.{pass_is}
use Rattle.model.proofs.Kept.{kept_in, in_kept, in_map, map-in}
use Rattle.model.proofs.Members.{in_front, in_back, in_either, in_has, has_in}
use Rattle.queue.specs.Orders.{running_before}
use Rattle.queue.specs.declared.kinds.Ready.{Ready}
use Rattle.queue.specs.declared.kinds.Running.{Running}
use Rattle.schedule_laws.specs.Counting.{one}
use Rattle.schedule_laws.specs.Bounds.{Bounded}
use Rattle.schedule_laws.specs.Passing.{Passing, passed, time_passed}
use Rattle.schedule_laws.specs.Released.{Released}
use Rattle.schedule_laws.specs.Standing.{Standing, over, followers}
use Rattle.schedule_laws.proofs.Ending.{ends}
use Rattle.schedule_laws.proofs.Entries.{entry_for, start_for, running_moved}
use Rattle.schedule_laws.proofs.Members.{same_test, all_in_list}
use Rattle.schedule_laws.proofs.Waiting.{missing_same, all_in_same}

-- in which order the tasks have ended does not matter
pub standing_same : (cores : ℕ) (s : Segment) (p : Progress) (m : ℕ) (xs ys : List ℕ) (R : List Ready) (U : List Running) (W : List ℕ) (T : List Bool)
    → ((t : ℕ) → has xs t ≡ has ys t) → Standing cores s (passed p m xs) R U W T → Standing cores s (passed p m ys) R U W T
standing_same cores s p m xs ys R U W T same h = record {
  counted = h.counted;
  counts = λ t l. h.counts t l ∙ missing_same xs ys same (task s t).predecessors;
  ready_once = λ t. h.ready_once t ∙ ap (λ v. one (ltb t (length s.tasks) && (not (has (begun p.starts) t) && v))) (all_in_same xs ys same (task s t).predecessors);
  worsts = h.worsts;
  running_once = λ t. h.running_once t ∙ ap (λ v. one (has (begun p.starts) t && not v)) (same t);
  started = h.started;
  cores_known = h.cores_known;
  core_once = h.core_once;
  core_low = h.core_low;
  begun_once = h.begun_once;
  begun_low = h.begun_low;
  awaited = λ t i. sym (missing_same xs ys same (task s t).predecessors) ∙ h.awaited t i;
  ended_begun = λ t i. h.ended_begun t (same t ∙ i);
  near = h.near;
  ends_near = h.ends_near;
}

-- an entry that does not come before another does not end before it
no_earlier : (u e : Running) → running_before u e ≡ false → e.end ≤ u.end
no_earlier u e f = ltb-false u.end e.end (or_parts (ltb u.end e.end) (eqb u.end e.end && (ltb u.core e.core || (eqb u.core e.core && ltb u.task e.task))) f).0

module _ (cores : ℕ) (s : Segment) (p : Progress) (R : List Ready) (W : List ℕ) (T : List Bool) where
  -- the earliest entry is taken
  pub pass_begins : (U U' : List Running) (e : Running) → Standing cores s p R U W T → IsPermutation U (e ∷ U') → AllByRecursion (λ x. running_before x e ≡ false) U → Passing cores s p e.end p.ended R (e ∷ U') W T
  pass_begins U U' e h moved first =
      let h' = running_moved cores s p R U W T h (e ∷ U') moved in
      let late : AllByRecursion (λ (u : Running). e.end ≤ u.end) U = All-weaker (λ (x : Running). running_before x e ≡ false) (λ (u : Running). e.end ≤ u.end) (λ x f. no_earlier x e f) U first in
      let o = start_for cores s p R (e ∷ U') W T h' e (inl refl) in
      let known = kept_in (λ (y : Start). not (has p.ended y.task)) p.starts o.0 o.1 in
      record {
        standing = record {
          counted = h'.counted;
          counts = h'.counts;
          ready_once = h'.ready_once;
          worsts = h'.worsts;
          running_once = h'.running_once;
          started = h'.started;
          cores_known = h'.cores_known;
          core_once = h'.core_once;
          core_low = h'.core_low;
          begun_once = h'.begun_once;
          begun_low = h'.begun_low;
          awaited = h'.awaited;
          ended_begun = h'.ended_begun;
          near = omega (arith, h'.ends_near o.0 known.0, o.4);
          ends_near = h'.ends_near;
        };
        keeps = λ t i. i;
        only = λ t i. inl i;
        one_ends = (o.0, o.1, o.4);
        none_earlier = λ x i.
            let u = entry_for cores s p R U W T h x i in
            omega (arith, u.4, all_in_list (λ (v : Running). e.end ≤ v.end) U u.0 late u.1);
        later = all_shuffled (λ (u : Running). e.end ≤ u.end) U (e ∷ U') moved late;
      }

module _ (cores : ℕ) (s : Segment) (p : Progress) (m : ℕ) (ended : List ℕ) (R : List Ready) (U : List Running) (W : List ℕ) (T : List Bool) where
  -- another entry is taken, or put back
  pub pass_moved : (U' : List Running) → IsPermutation U U' → Passing cores s p m ended R U W T → Passing cores s p m ended R U' W T
  pass_moved U' moved h = record {
    standing = running_moved cores s (passed p m ended) R U W T h.standing U' moved;
    keeps = h.keeps;
    only = h.only;
    one_ends = h.one_ends;
    none_earlier = h.none_earlier;
    later = all_shuffled (λ (u : Running). m ≤ u.end) U U' moved h.later;
  }

  -- one more ends
  pub pass_more : (e : Running) (R' : List Ready) (W' : List ℕ) (T' : List Bool) → e.end ≡ m → Passing cores s p m ended R (e ∷ U) W T
      → Standing cores s (over (passed p m ended) e.task) R' U W' T' → Passing cores s p m (e.task ∷ ended) R' U W' T'
  pass_more e R' W' T' now h h' = record {
    standing = h';
    keeps = λ t i. or_right (eqb t e.task) (has ended t) (h.keeps t i);
    only = λ t i. ⊎_elim
        (λ q. let o = h.standing.started.0 in inr (o.0, o.1, o.2 ∙ sym (eqb-true t e.task q), o.4 ∙ now))
        (λ q. h.only t q)
        (or_cases (eqb t e.task) (has ended t) i);
    one_ends = h.one_ends;
    none_earlier = h.none_earlier;
    later = h.later.1;
  }

  -- one more ends, and its followers are released
  pub pass_ended : (e : Running) (R' : List Ready) (W' : List ℕ) → Bounded cores s → e.end ≡ m → Passing cores s p m ended R (e ∷ U) W T → Released s (followers s e.task) W W' R R'
      → Passing cores s p m (e.task ∷ ended) R' U W' (set T e.core false)
  pass_ended e R' W' b now h rel = pass_more e R' W' (set T e.core false) now h (ends cores s b (passed p m ended) R U W T e h.standing W' R' rel)

  -- none is left that ends now
  module _ (h : Passing cores s p m ended R U W T) (none : (u : Running) → In u U → u.end ≡ m → ⊥) where
    abbrev ending : List Start
    ending = filter (λ (z : Start). eqb (end_of s z) m) (running p)

    abbrev open' : Start → Bool
    open' x = not (has p.ended x.task)

    same : (t : ℕ) → has ended t ≡ has (p.ended ++ begun ending) t
    same t =
        same_test (has ended t) (has (p.ended ++ begun ending) t)
        (λ i.
        let old : has p.ended t ≡ true → has (p.ended ++ begun ending) t ≡ true = λ q. in_has (p.ended ++ begun ending) t (in_front t p.ended (begun ending) (has_in p.ended t q)) in
        ⊎_elim old
        (λ x.
        ⊎_elim old
        (λ f.
        let k = in_kept open' p.starts x.0 x.1 (ap (λ v. not (has p.ended v)) x.2 ∙ not_from_false (has p.ended t) f) in
        let l = in_kept (λ (z : Start). eqb (end_of s z) m) (running p) x.0 k (eq-eqb (end_of s x.0) m x.3) in
        in_has (p.ended ++ begun ending) t (in_back t p.ended (begun ending) (subst (λ v. In v (begun ending)) x.2 (in_map (λ (z : Start). z.task) x.0 ending l))))
        (cases_Bool (has p.ended t)))
        (h.only t i))
        (λ i.
        ⊎_elim
        (λ j. h.keeps t (in_has p.ended t j))
        (λ j.
        let x = map-in (λ (z : Start). z.task) t ending j in
        let k = kept_in (λ (z : Start). eqb (end_of s z) m) (running p) x.0 x.1 in
        let l = kept_in open' p.starts x.0 k.0 in
        ⊎_elim (λ y. y)
        (λ (f : has ended t ≡ false).
        let r = in_kept (λ (z : Start). not (has ended z.task)) p.starts x.0 l.0 (ap (λ v. not (has ended v)) x.2 ∙ not_from_false (has ended t) f) in
        let u = entry_for cores s (passed p m ended) R U W T h.standing x.0 r in
        absurd (none u.0 u.1 (u.4 ∙ eqb-true (end_of s x.0) m k.1)))
        (cases_Bool (has ended t)))
        (in_either t p.ended (begun ending) (has_in (p.ended ++ begun ending) t i)))

    pub pass_all : Standing cores s (time_passed s p) R U W T
    pass_all =
        let o = h.one_ends in
        subst (λ q. Standing cores s q R U W T) (sym (pass_is s p (running p) m o.0 o.1 o.2 h.none_earlier))
        (standing_same cores s p m ended (p.ended ++ begun ending) R U W T same h.standing)

-- the entry that comes first ends later, so all that are left do
pub pass_over : (cores : ℕ) (s : Segment) (p : Progress) (m : ℕ) (ended : List ℕ) (R : List Ready) (U : List Running) (W : List ℕ) (T : List Bool) (e : Running)
    → Passing cores s p m ended R (e ∷ U) W T → (e.end ≡ m → ⊥) → AllByRecursion (λ x. running_before x e ≡ false) (e ∷ U) → Standing cores s (time_passed s p) R (e ∷ U) W T
pass_over cores s p m ended R U W T e h over' first = pass_all cores s p m ended R (e ∷ U) W T h (λ u i q.
    let l = no_earlier u e (all_in_list (λ (x : Running). running_before x e ≡ false) (e ∷ U) u first i) in
    let n = h.later.0 in
    over' (omega arith))

-- where time has passed to
pub pass_to : (cores : ℕ) (s : Segment) (p : Progress) (m : ℕ) (ended : List ℕ) (R : List Ready) (U : List Running) (W : List ℕ) (T : List Bool)
    → Passing cores s p m ended R U W T → ((time_passed s p).moment ≡ m) × ((time_passed s p).starts ≡ p.starts)
pass_to cores s p m ended R U W T h =
    let o = h.one_ends in
    let is = pass_is s p (running p) m o.0 o.1 o.2 h.none_earlier in
    (ap (λ (q : Progress). q.moment) is, ap (λ (q : Progress). q.starts) is)
