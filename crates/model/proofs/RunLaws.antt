-- The promises are kept after every run on an accepted plan.
use Rattle.std.proofs.Common.{◌≡◌, ℕ, ◌<◌, ◌≤◌, true, false, not, eqb, ltb, List, [], ◌∷◌, ◌++◌, map, length, sym, refl, ap, ◌∙◌, ⊎_elim, arith}
use Rattle.std.proofs.lemmas.List.{drop_all, take-map}
use Rattle.std.proofs.lemmas.Bool.{cases_lt, cases_Bool, cond_both, eq-eqb, ltb-true, lt-ltb, le-ltb, and_parts, and_cases, and_from, both_ways, not-false, not_from_false}
use Rattle.model.specs.Calls.{end, choose, History, AcceptedCall}
use Rattle.model.specs.Due.{any, left, start_due, at_rest, exits, choice_due, finished, job_of, earliest, judged, answer}
use Rattle.model.specs.Graph.{Graph}
use Rattle.model.specs.Histories.{Job, clock, busy, path, here, begun_here}
use Rattle.model.specs.Lists.{In}
use Rattle.model.specs.RunLaws.{all_but_last, orders_joined, OnTime, InOrder, Kept, EveryRunKeeps}
use Rattle.model.specs.Times.{order_of}
use Rattle.model.specs.Timetables.{Timetabled}
use Rattle.model.proofs.Dues.{any_member}
use Rattle.model.proofs.Jobs.{earliest_in, earliest_each}
use Rattle.model.proofs.Kept.{in_kept}
use Rattle.model.proofs.Steps.{Standing, every_run_stands, waits, whole_at_rest}
use Rattle.model.proofs.Timetables.{accepted_plans_have_timetables}
use Rattle.model.proofs.Within.{some_in_time}

module _ (g : Graph) (tables : Timetabled g) (h : History) (st : Standing g tables h) where
  abbrev s : ℕ
  s = here h

  on_time : OnTime g h
  on_time =
      record {
        always = st.always;
        in_deadline = omega (arith, st.stands.within.in_close, tables.in_deadline s st.stands.fits);
      }

  in_order : InOrder g h
  in_order =
      let cut = length (begun_here h) in
      let before = orders_joined g (all_but_last (path h)) in
      record {
        cut = cut;
        joined =
            st.stands.told
            ∙ ap {B = List (ℕ × ℕ)} (λ ts. before ++ map (λ t. (s, t)) ts) st.stands.within.front
            ∙ ap {B = List (ℕ × ℕ)} (λ ts. before ++ ts) (sym (take-map (λ t. (s, t)) cut (order_of g s)));
        whole = λ done. whole_at_rest g tables h st (and_parts (at_rest g h) (not (any (exits g h))) done).0;
      }

  choice_goes : choice_due g h ≡ true → (i : ℕ) → (i < length (exits g h) → AcceptedCall (answer g h (choose i))) × (AcceptedCall (answer g h (choose i)) → i < length (exits g h))
  choice_goes due i =
      rw due (
        λ l. rw (lt-ltb i (length (exits g h)) l) tt,
        cond_both (ltb i (length (exits g h))) _ _ (λ a. AcceptedCall a → i < length (exits g h))
            (λ e ok. ltb-true i (length (exits g h)) e)
            (λ e ok. absurd ok),
      )

  -- of some jobs one is promised no later than the others
  first_of_some : (js : List Job) (j : Job) → In j js → (k : Job) × In k js × ((l : Job) → In l js → k.promise ≤ l.promise)
  first_of_some [] j i = absurd i
  first_of_some (k ∷ ks) j i = (earliest k ks, earliest_in k ks, earliest_each k ks)

  -- with a task left some job is promised by its latest start; else the frame is at rest or some core is busy
  some_busy : finished g h ≡ false → start_due g h ≡ false → choice_due g h ≡ false → (j : Job) × In j (busy h) × ((k : Job) → In k (busy h) → j.promise ≤ k.promise)
  some_busy not_done none_due no-choice =
      ⊎_elim
      (λ l. let r = some_in_time g tables s (clock h) (busy h) (begun_here h) st.stands.within l (waits g tables h st none_due l) in first_of_some (busy h) r.0 r.1)
      (λ l. ⊎_elim (λ e. let r = any_member (busy h) e in first_of_some (busy h) r.0 r.1) (λ e. absurd (rests l e)) (cases_Bool (any (busy h))))
      (cases_lt (length (begun_here h)) (length (order_of g s)))
    where
      rests : length (order_of g s) ≤ length (begun_here h) → any (busy h) ≡ false → ⊥
      rests l e =
          let none_left : any (left g h) ≡ false = ap any (drop_all (length (begun_here h)) (order_of g s) l) in
          let rest = and_from (not (any (left g h))) (not (any (busy h))) (not_from_false (any (left g h)) none_left) (not_from_false (any (busy h)) e) in
          ⊎_elim
          (λ f. both_ways (at_rest g h) f rest)
          (λ f. both_ways (choice_due g h) no-choice (and_from (at_rest g h) (any (exits g h)) rest (not-false (any (exits g h)) f)))
          (and_cases (at_rest g h) (not (any (exits g h))) not_done)

  -- an end report is accepted from the clock on where no job is promised before it
  judged_accepts : (c n : ℕ) (js ks : List Job) (j : Job) → In j js → In j ks → clock h ≤ n → ((k : Job) → In k ks → n ≤ k.promise) → AcceptedCall (judged g h c n js ks)
  judged_accepts c n [] ks j own i late soon = absurd own
  judged_accepts c n (x ∷ js) [] j own i late soon = absurd i
  judged_accepts c n (x ∷ js) (k ∷ ks) j own i late soon =
      let e = earliest k ks in
      rw (le-ltb n (clock h) late, le-ltb e.promise n (soon e (earliest_in k ks))) tt

  end_goes : start_due g h ≡ false → (j : Job) → In j (busy h) → ((k : Job) → In k (busy h) → j.promise ≤ k.promise) → AcceptedCall (answer g h (end j.core j.promise))
  end_goes none_due j i first =
      let own = in_kept (λ (k : Job). eqb k.core j.core) (busy h) j i (eq-eqb j.core j.core refl) in
      rw none_due (judged_accepts j.core j.promise (job_of j.core (busy h)) (busy h) j own i (st.stands.within.keeps j i).ahead first)

  kept : Kept g h
  kept =
      record {
        on_time = on_time;
        in_order = in_order;
        never_stuck = record {
          start_goes = λ due speeds rule sound ranged. rw due tt;
          choice_goes = choice_goes;
          some_busy = some_busy;
          end_goes = end_goes;
        };
      }

pub every_run_keeps : EveryRunKeeps
every_run_keeps g accepted h run =
    let tables = accepted_plans_have_timetables g accepted in
    kept g tables h (every_run_stands g tables h run)
