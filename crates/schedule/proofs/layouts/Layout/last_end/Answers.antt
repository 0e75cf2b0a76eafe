use Rattle.std.proofs.Common.{◌≡◌, ◌<◌, ◌≤◌, length, vec_items, unwrap_or, sym, ap, ◌∙◌, subst, rules, tests, arith}
use Rattle.std.proofs.lemmas.Iterator.{YieldsList-from_slice, YieldsList-from_map}
use Rattle.std.proofs.lemmas.Iterator.Adapters.{serves_from_places}
use Rattle.std.proofs.lemmas.Iterator.Consumers.{reduce_from_yields_List}
use Rattle.std.proofs.lemmas.List.Folds.{max_of_map}
use Rattle.graph.specs.Meaning.{segment_of}
use Rattle.model.specs.Canonical as canon
use Rattle.model.specs.Lists.{In}
use Rattle.model.proofs.Kept.{in_map}
use Rattle.model.proofs.Members.{at_place, in_has}
use Rattle.queue.specs.Held.{held}
use Rattle.schedule_laws.proofs.Rooms.{starts_few}
use Rattle.schedule.specs.Meaning.{start_of}
use Rattle.schedule.specs.Stands.{Sound}
use Rattle.schedule.specs.declared.layouts.Layout.{Layout}
use Rattle.schedule.specs.declared.parts.Start.{Start}
use Rattle.schedule.proofs.Largest.{last_end_is}
use Rattle.schedule.proofs.layouts.Layout.last_end.Goals as goal

-- it is of one of the tasks, and ends in time
abbrev Within : Layout → Start → Type 0
Within l x = (x.task < length (segment_of l.segment.now).tasks) × (canon.end_of (segment_of l.segment.now) (start_of x) ≤ 256000000)

known : (l : Layout) → Sound l → (x : Start) → In x (vec_items l.starts) → Within l x
known l w x i =
    let p = w.0 in
    let st = w.1.standing in
    let j : In (start_of x) p.starts = subst (λ v. In (start_of x) v) w.1.starts (in_map start_of x (vec_items l.starts) i) in (
      st.begun_low x.task (in_has (canon.begun p.starts) x.task (in_map (λ (y : canon.Start). y.task) (start_of x) p.starts j)),
      omega (arith, st.ends_near (start_of x) j, starts_few l.cores (segment_of l.segment.now) p (held l.ready) (held l.running) (vec_items l.waiting) l.taken st, l.bounded.few_tasks),
    )

pub max-requires-clause-can : goal.max-requires-clause-can
max-requires-clause-can c =
    let l = c.args.self.now in
    let xs = vec_items l.starts in
    let same : l ≡ c.map.result.f.0.now = sym (ap (λ f. f.0.now) c.map.ensures.closure) in (
      tt,
      serves_from_places (YieldsList-from_slice xs cc) (λ x q k. search (rules, tests)) (λ x k inside is.
          let r = subst (λ m. Within m x.now) same (known l c.requires x.now (subst (λ y. In y xs) (sym is) (at_place x.now xs k inside))) in
          λ _ _ _ _ _. (r.0, omega (arith, r.1))),
    )

pub returns : goal.returns
returns c =
    let l = c.args.self.now in
    let xs = vec_items l.starts in
    let s = segment_of l.segment.now in
    let end = λ (x : Start). canon.end_of s (start_of x) in
    c.unwrap_or.ensures
    ∙ ap (λ o. unwrap_or o 0) (reduce_from_yields_List _ c.map.result _ c.max.ensures.ran (YieldsList-from_map _ end (YieldsList-from_slice xs cc) c.map.ensures.closure (λ x b q k. search (rules, tests))))
    ∙ max_of_map end xs
    ∙ last_end_is s xs
