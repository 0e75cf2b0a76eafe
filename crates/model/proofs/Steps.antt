-- What holds after every call of a run on a graph with timetables, by induction over the calls.
use Rattle.std.proofs.Common.{◌≡◌, ℕ, ◌+◌, ◌-◌, ◌<◌, ◌≤◌, true, false, not, eqb, ltb, List, [], ◌∷◌, ◌++◌, map, length, get_or, sym, refl, ap, ◌∙◌, subst, inl, arith}
use Rattle.std.proofs.lemmas.List.{append-nil, append_assoc, map_push, take_all}
use Rattle.std.proofs.lemmas.Bool.{cond_both, ltb-true, ltb-false, and_parts, not-true}
use Rattle.fault.specs.declared.kind.Fault.{Fault}
use Rattle.model.specs.Calls.{Call, start, end, choose, Answer, started, entered, refused, History}
use Rattle.model.specs.Canonical.{lasts}
use Rattle.model.specs.Due.{any, left, head, idle, start_due, at_rest, exits, choice_due, level_of, job_of, earliest, judged, answer, Proper, Run}
use Rattle.model.specs.Graph.{Graph}
use Rattle.model.specs.Histories.{Job, clock, busy, cores_of, path, here, begun_here, tasks_started}
use Rattle.model.specs.Ladders.{Sound, time}
use Rattle.model.specs.Lists.{In}
use Rattle.model.specs.Places.{segment, task_of}
use Rattle.model.specs.Policies.{Rule, Ranged}
use Rattle.model.specs.RunLaws.{all_but_last, StartsWell, AlwaysInTime, ordered, orders_joined}
use Rattle.model.specs.Times.{order_of, latest_start, latest_end}
use Rattle.model.specs.Timetables.{Fits, Timetabled}
use Rattle.model.proofs.Dues.{any_some, any_none, left_some, left_none, head_is, idle_in, all_over_each, start_parts, none_due_parts}
use Rattle.model.proofs.Jobs.{earliest_each}
use Rattle.model.proofs.Kept.{kept_in}
use Rattle.model.proofs.Levels.{level_in_window}
use Rattle.model.proofs.Members.{at_place}
use Rattle.model.proofs.Within.{Within, Waits, within_entry, within_start, within_end}

module _ (g : Graph) (tables : Timetabled g) where
  -- a run over the segments of a way, the newest first, with the tasks begun in the newest and all that started
  pub record Stands (way : List ℕ) (now : ℕ) (jobs : List Job) (begun : List ℕ) (all : List (ℕ × ℕ)) : Type 0 where
    pub fits : Fits g (get_or way 0 0)
    pub some : way ≡ get_or way 0 0 ∷ all_but_last way
    pub within : Within g tables (get_or way 0 0) now jobs begun
    pub told : all ≡ orders_joined g (all_but_last way) ++ map (λ t. (get_or way 0 0, t)) begun

  pub record Standing (h : History) : Type 0 where
    pub stands : Stands (path h) (clock h) (busy h) (begun_here h) (tasks_started h)
    pub always : AlwaysInTime g h

  standing_open : Standing []
  standing_open =
      record {
        stands = record { fits = tables.first; some = refl; within = within_entry g tables 0 0 (omega arith); told = refl };
        always = tt;
      }

  module _ (h : History) (standing : Standing h) where
    abbrev s : ℕ
    s = here h

    abbrev begun : List ℕ
    begun = begun_here h

    abbrev within : Within g tables s (clock h) (busy h) begun
    within = standing.stands.within

    -- a refused call changes nothing
    same : (c : Call) (f : Fault) → Standing (record { call = c; answer = refused f } ∷ h)
    same (start speeds rule) f = record { stands = standing.stands; always = (tt, standing.always) }
    same (end c n) f = record { stands = standing.stands; always = (tt, standing.always) }
    same (choose i) f = record { stands = standing.stands; always = (tt, standing.always) }

    -- a start
    module _ (speeds : List ℕ) (rule : Rule) (sound : Sound speeds) (ranged : Ranged rule) (due : start_due g h ≡ true) where
      abbrev level : ℕ
      level = level_of g h speeds rule

      abbrev promise : ℕ
      promise = clock h + time speeds (lasts (segment g s) (head g h)) level

      some_left : length begun < length (order_of g s)
      some_left = left_some g h (start_parts g h due).0

      core : (get_or (idle g h) 0 0 < g.cores) × (In (get_or (idle g h) 0 0) (cores_of (busy h)) → ⊥)
      core = idle_in g h (get_or (idle g h) 0 0) (at_place 0 (idle g h) 0 (any_some (idle g h) (start_parts g h due).2))

      head_in_time : clock h ≤ latest_start g s (head g h)
      head_in_time = rw (head_is g h) (within.in_time some_left)

      promise_in_time : promise ≤ latest_end g s (head g h)
      promise_in_time =
          let ends = (tables.table s).lasts (head g h) in
          let work = lasts (segment g s) (head g h) in
          let window = latest_end g s (head g h) - clock h in
          omega (arith, head_in_time, ends, level_in_window speeds sound rule ranged work window (omega (arith, head_in_time, ends)) (head g h) (clock h))

      starts_well : StartsWell g h (head g h) (get_or (idle g h) 0 0) promise
      starts_well =
          record {
            prepared = all_over_each g h (task_of g s (head g h)).predecessors (start_parts g h due).1;
            own_core = core.0;
            idle_core = core.1;
            not_late = head_in_time;
            by_end = promise_in_time;
          }

      standing_start : Standing (record { call = start speeds rule; answer = started (head g h) (get_or (idle g h) 0 0) level promise } ∷ h)
      standing_start =
          let by_end = subst (λ (t : ℕ). promise ≤ latest_end g s t) (head_is g h) promise_in_time in
          record {
            stands = record {
              fits = standing.stands.fits;
              some = standing.stands.some;
              within =
                  subst (λ (t : ℕ). Within g tables s (clock h) (record { core = get_or (idle g h) 0 0; task = t; promise = promise } ∷ busy h) (begun ++ (t ∷ []))) (sym (head_is g h))
                  (within_start g tables s (clock h) (busy h) begun within some_left (get_or (idle g h) 0 0) promise core.0 core.1 by_end (omega arith));
              told =
                  ap {B = List (ℕ × ℕ)} (λ ts. ts ++ ((s, head g h) ∷ [])) standing.stands.told
                  ∙ append_assoc (orders_joined g (all_but_last (path h))) (map (λ t. (s, t)) begun) ((s, head g h) ∷ [])
                  ∙ ap {B = List (ℕ × ℕ)} (λ ts. orders_joined g (all_but_last (path h)) ++ ts) (sym (map_push (λ t. (s, t)) begun (head g h)));
            };
            always = (starts_well, standing.always);
          }

    -- why no start is due
    pub waits : start_due g h ≡ false → length begun < length (order_of g s) → Waits g tables s (clock h) (busy h) begun within
    waits none_due l = rw (head_is g h) at (none_due_parts g h none_due l)

    -- an end report
    judged_step : (c n : ℕ) → start_due g h ≡ false → (js ks : List Job) → ((j : Job) → In j js → In j (busy h)) → ks ≡ busy h
        → Standing (record { call = end c n; answer = judged g h c n js ks } ∷ h)
    judged_step c n none_due [] ks own all = same (end c n) _
    judged_step c n none_due (j ∷ js) [] own all = same (end c n) _
    judged_step c n none_due (j ∷ js) (k ∷ ks) own all =
        let e = earliest k ks in
        cond_both (ltb n (clock h)) _ _ (λ a. Standing (record { call = end c n; answer = a } ∷ h))
        (λ early. same (end c n) _)
        (λ not_early. cond_both (ltb e.promise n) _ _ (λ a. Standing (record { call = end c n; answer = a } ∷ h))
        (λ late. same (end c n) _)
        (λ not_late.
        let in_busy = own j (inl refl) in
        let soon : (i : Job) → In i (busy h) → n ≤ i.promise =
        λ i v. omega (arith, ltb-false e.promise n not_late, earliest_each k ks i (subst (λ (l : List Job). In i l) (sym all) v)) in
        record {
          stands = record {
            fits = standing.stands.fits;
            some = standing.stands.some;
            within = within_end g tables s (clock h) (busy h) begun within c n j in_busy soon (waits none_due);
            told = standing.stands.told;
          };
          always = ((ltb-false n (clock h) not_early, omega (arith, soon j in_busy, (within.keeps j in_busy).by_end)), standing.always);
        }))

    -- at rest no core is busy, and all tasks of the segments taken have started
    none_busy : at_rest g h ≡ true → busy h ≡ []
    none_busy rest = any_none (busy h) (not-true (any (busy h)) (and_parts (not (any (left g h))) (not (any (busy h))) rest).1)

    pub whole_at_rest : at_rest g h ≡ true → tasks_started h ≡ orders_joined g (path h)
    whole_at_rest rest =
        let none = left_none g h (not-true (any (left g h)) (and_parts (not (any (left g h))) (not (any (busy h))) rest).0) in
        let whole : begun ≡ order_of g s = within.front ∙ take_all (length begun) (order_of g s) none in
        let joins : orders_joined g (path h) ≡ orders_joined g (all_but_last (path h)) ++ ordered g s = ap (orders_joined g) standing.stands.some in
        standing.stands.told ∙ ap {B = List (ℕ × ℕ)} (λ ts. orders_joined g (all_but_last (path h)) ++ map (λ t. (s, t)) ts) whole ∙ sym joins

    -- a choice
    standing_enter : (i : ℕ) → choice_due g h ≡ true → i < length (exits g h) → Standing (record { call = choose i; answer = entered (get_or (exits g h) i 0) } ∷ h)
    standing_enter i due l =
        let e = get_or (exits g h) i 0 in
        let rest = (and_parts (at_rest g h) (any (exits g h)) due).0 in
        let next = tables.onward s i standing.stands.fits l in
        let entry = within_entry g tables e (clock h) (omega (arith, within.in_close, next.1)) in
        record {
          stands = record {
            fits = next.0;
            some = refl;
            within = subst (λ (js : List Job). Within g tables e (clock h) js []) (sym (none_busy rest)) entry;
            told = whole_at_rest rest ∙ sym (append-nil (orders_joined g (path h)));
          };
          always = (tt, standing.always);
        }

    -- a call
    standing_step : (c : Call) → Proper c → Standing (record { call = c; answer = answer g h c } ∷ h)
    standing_step (start speeds rule) proper =
        cond_both (start_due g h) _ _ (λ a. Standing (record { call = start speeds rule; answer = a } ∷ h))
        (λ due. standing_start speeds rule proper.0 proper.1 due)
        (λ none_due. same (start speeds rule) _)
    standing_step (end c n) proper =
        cond_both (start_due g h) _ _ (λ a. Standing (record { call = end c n; answer = a } ∷ h))
        (λ due. same (end c n) _)
        (λ none_due. judged_step c n none_due (job_of c (busy h)) (busy h) (λ j i. (kept_in (λ (k : Job). eqb k.core c) (busy h) j i).0) refl)
    standing_step (choose i) proper =
        cond_both (choice_due g h) _ _ (λ a. Standing (record { call = choose i; answer = a } ∷ h))
        (λ due. cond_both (ltb i (length (exits g h))) _ _ (λ a. Standing (record { call = choose i; answer = a } ∷ h))
        (λ l. standing_enter i due (ltb-true i (length (exits g h)) l))
        (λ l. same (choose i) _))
        (λ none_due. same (choose i) _)

  pub every_run_stands : (h : History) → Run g h → Standing h
  every_run_stands [] run = standing_open
  every_run_stands (e ∷ h) run =
      subst (λ (a : Answer). Standing (record { call = e.call; answer = a } ∷ h)) (sym run.1)
      (standing_step h (every_run_stands h run.2) e.call run.0)
