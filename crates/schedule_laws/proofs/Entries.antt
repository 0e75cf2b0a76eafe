-- Entries and starts: each running start has its entry, and each entry its start.
use Rattle.std.proofs.Common.{◌≡◌, ℕ, Bool, true, false, not, ◌&&◌, List, get_or, sym, refl, ap, ◌∙◌, subst, arith}
use Rattle.std.proofs.ByRecursion.{all_shuffled}
use Rattle.std.proofs.lemmas.Bool.{and_parts, and_from}
use Rattle.std.specs.List.Sorted.{IsPermutation}
use Rattle.model.specs.Canonical.{Start, Progress, begun, running, taken, lasts, end_of}
use Rattle.model.specs.Graph.{Segment}
use Rattle.model.specs.Lists.{In, has}
use Rattle.model.proofs.Kept.{kept_in, in_kept, in_map, map-in, apart_same}
use Rattle.model.proofs.Members.{in_has, has_in}
use Rattle.queue.specs.declared.kinds.Ready.{Ready}
use Rattle.queue.specs.declared.kinds.Running.{Running}
use Rattle.schedule_laws.specs.Counting.{one}
use Rattle.schedule_laws.specs.Standing.{Standing, EntryOf}
use Rattle.schedule_laws.proofs.Members.{times_in, in_times, times_shuffled, same_test, all_in_list}
use Rattle.schedule_laws.proofs.Ones.{one_true}

module _ (cores : ℕ) (s : Segment) (p : Progress) (R : List Ready) (U : List Running) (W : List ℕ) (T : List Bool) (h : Standing cores s p R U W T) where
  abbrev test : Start → Bool
  test x = not (has p.ended x.task)

  pub entry_for : (x : Start) → In x (running p) → (u : Running) × In u U × (u.task ≡ x.task) × (u.core ≡ x.core) × (u.end ≡ end_of s x)
  entry_for x i =
      let k = kept_in test p.starts x i in
      let b : has (begun p.starts) x.task ≡ true = in_has (begun p.starts) x.task (in_map (λ (y : Start). y.task) x p.starts k.0) in
      let both = ap one (and_from (has (begun p.starts) x.task) (test x) b k.1) in
      let r = times_in (λ (u : Running). u.task) x.task U (omega (arith, h.running_once x.task, both)) in
      let u = r.0 in
      let o : EntryOf s p.starts u = all_in_list (EntryOf s p.starts) U u h.started r.1 in
      let same : o.0 ≡ x = apart_same (λ (y : Start). y.task) p.starts h.begun_once o.0 x o.1 k.0 (o.2 ∙ r.2) in
      (u, r.1, r.2, sym o.3 ∙ ap (λ (y : Start). y.core) same, sym o.4 ∙ ap (end_of s) same)

  pub start_for : (u : Running) → In u U → (x : Start) × In x (running p) × (x.task ≡ u.task) × (x.core ≡ u.core) × (end_of s x ≡ u.end)
  start_for u i =
      let o : EntryOf s p.starts u = all_in_list (EntryOf s p.starts) U u h.started i in
      let a = has (begun p.starts) u.task in
      let b = not (has p.ended u.task) in
      let t = and_parts a b (one_true (a && b) (omega (arith, h.running_once u.task, in_times (λ (v : Running). v.task) u.task U u i refl))) in
      (o.0, in_kept test p.starts o.0 o.1 (ap (λ v. not (has p.ended v)) o.2 ∙ t.1), o.2, o.3, o.4)

  -- the cores that are taken
  pub taken_is : (c : ℕ) → has (taken (running p)) c ≡ get_or T c false
  taken_is c =
      same_test (has (taken (running p)) c) (get_or T c false)
      (λ t.
      let r = map-in (λ (x : Start). x.core) c (running p) (has_in (taken (running p)) c t) in
      let u = entry_for r.0 r.1 in
      one_true (get_or T c false) (omega (arith, h.core_once c, in_times (λ (v : Running). v.core) c U u.0 u.1 (u.3 ∙ r.2))))
      (λ t.
      let r = times_in (λ (v : Running). v.core) c U (omega (arith, h.core_once c, ap one t)) in
      let x = start_for r.0 r.1 in
      in_has (taken (running p)) c (subst (λ k. In k (taken (running p))) (x.3 ∙ r.2) (in_map (λ (y : Start). y.core) x.0 (running p) x.1)))

  pub ready_moved : (R' : List Ready) → IsPermutation R R' → Standing cores s p R' U W T
  ready_moved R' m = record {
    counted = h.counted;
    counts = h.counts;
    ready_once = λ t. times_shuffled (λ (e : Ready). e.task) t R R' m ∙ h.ready_once t;
    worsts = all_shuffled (λ (e : Ready). e.worst ≡ lasts s e.task) R R' m h.worsts;
    running_once = h.running_once;
    started = h.started;
    cores_known = h.cores_known;
    core_once = h.core_once;
    core_low = h.core_low;
    begun_once = h.begun_once;
    begun_low = h.begun_low;
    awaited = h.awaited;
    ended_begun = h.ended_begun;
    near = h.near;
    ends_near = h.ends_near;
  }

  pub running_moved : (U' : List Running) → IsPermutation U U' → Standing cores s p R U' W T
  running_moved U' m = record {
    counted = h.counted;
    counts = h.counts;
    ready_once = h.ready_once;
    worsts = h.worsts;
    running_once = λ t. times_shuffled (λ (e : Running). e.task) t U U' m ∙ h.running_once t;
    started = all_shuffled (EntryOf s p.starts) U U' m h.started;
    cores_known = h.cores_known;
    core_once = λ c. times_shuffled (λ (e : Running). e.core) c U U' m ∙ h.core_once c;
    core_low = h.core_low;
    begun_once = h.begun_once;
    begun_low = h.begun_low;
    awaited = h.awaited;
    ended_begun = h.ended_begun;
    near = h.near;
    ends_near = h.ends_near;
  }
