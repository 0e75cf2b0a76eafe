-- The readers of a plan's numbers are steady.
use Rattle.std.proofs.Common.{◌≡◌, ℕ, ◌+◌, ◌-◌, true, false, cond, ◌&&◌, ltb, leb, ◌⊎◌, List, [], ◌++◌, length, take, drop, Some, None, Ok, Err, Option, sym, refl, ap, ◌∙◌, subst, inl, inr, ⊎_elim}
use Rattle.std.proofs.lemmas.Bool.{cases_Bool, cond_both}
use Rattle.fault.specs.declared.kind.Fault.{Fault}
use Rattle.fault.specs.declared.kind.Kind.{Kind}
use Rattle.fault.specs.declared.kind.Kind.TheVariants.{BytesEnd, NumberForm, OutOfRange, NotRising}
use Rattle.fault.specs.Card.{fault}
use Rattle.model.specs.Bytes.{Read, then, at, string, several}
use Rattle.model.specs.Formed.{within}
use Rattle.model.specs.Graph.{Segment, Task, predecessors_of, tasks_in, predecessors_in}
use Rattle.model.specs.Laws.{OfANumber}
use Rattle.model.specs.Lists.{past}
use Rattle.model.specs.Numbers.{groups, value, fewest, judged, number, number_bytes}
use Rattle.model.specs.Reading.{ranged, next_rising, next_task, next_segment, numbers}
use Rattle.model.proofs.BackLaws.{string_takes}
use Rattle.model.proofs.GraphLaws.{string_sound}
use Rattle.model.proofs.ListReading.{then_ok, then_err, ok_is, err_is, ok_not_err}
use Rattle.model.proofs.NumberLaws.{grouped, grouped_reads, grouped_cut, number_grouped, numbers_read_back, numbers_cut_short, numbers_take_their_bytes}
use Rattle.model.proofs.SteadyReading.{Taken, Stopped, Steady, steady_none, stopped_too, then_steady, several_steady}
use Rattle.model.proofs.Taken.{Takes}

-- bytes that are no number: they end first, or are refused at their first byte
number_refused : (count : ℕ) (bs : List ℕ) (f : Fault) → number count bs ≡ Err f → (f ≡ fault BytesEnd count) ⊎ Stopped number f count bs
unfolding number
number_refused count bs f e = judged_refused (groups bs) refl e
  where
    judged_refused : (o : Option (List ℕ × List ℕ)) → groups bs ≡ o → judged count (at count bs) o ≡ Err f → (f ≡ fault BytesEnd count) ⊎ Stopped number f count bs
    judged_refused None are j = inl (cc)
    judged_refused (Some x) are j =
        let own = grouped bs x are in
        cond_both (fewest x.0 && ltb (value x.0) 4294967296) (Ok (value x.0, x.1)) (Err (fault NumberForm (at count bs)))
        (λ r. r ≡ Err f → (f ≡ fault BytesEnd count) ⊎ Stopped number f count bs)
        (λ t q. ok_not_err _ _ q)
        (λ t q.
        inr (subst (λ (d : Fault). Stopped number d count bs) (err_is _ _ q)
        record {
          front = [];
          number = x.0;
          rest = x.1;
          of_it = inl refl;
          is = own.0;
          grouped = grouped_reads x.0 x.1 own.1;
          place = ap (λ r. at count r) own.0;
          refuses = λ total more. rw (grouped_reads x.0 more own.1, t);
          ends = λ total k h. rw (grouped_cut x.0 k own.1 h);
        }))
        j

-- a number and then a test of it, which refuses it at its first byte
module _ (answer : ℕ → List ℕ → ℕ → Read ℕ) where
  abbrev tested : ℕ → List ℕ → Read ℕ
  tested count bs = then (number count bs) (λ n rest. answer n rest (at count bs))

  abbrev Decides : ℕ → Type 0
  Decides n =
      ((rest : List ℕ) (place : ℕ) → answer n rest place ≡ Ok (n, rest))
      ⊎ ((k : Kind) × OfANumber k × ((rest : List ℕ) (place : ℕ) → answer n rest place ≡ Err (fault k place)))

  tested_steady : ((n : ℕ) → Decides n) → Steady tested
  tested_steady decides =
      record {
        accepted = λ count bs y rest e.
            then_ok (number count bs) _ _ e (λ n after is answered.
            let own = numbers_take_their_bytes n count bs after is in
            ⊎_elim
            (λ ok.
            subst (λ (r : ℕ × List ℕ). Taken tested r.0 bs r.1) (ok_is (n, after) (y, rest) (sym (ok after (at count bs)) ∙ answered))
            record {
              bytes = number_bytes n;
              is = own.1;
              takes = record {
                reads = λ total more. rw (numbers_read_back n total more own.0) (ok more (at total (number_bytes n ++ more)));
                ends = λ total k h. rw (numbers_cut_short n total k h);
              };
            })
            (λ out. ok_not_err (y, rest) _ (sym answered ∙ out.2 after (at count bs)))
            (decides n));
        refused = λ count bs f e.
            then_err (number count bs) _ _ e
            (λ first. ⊎_elim (λ d. inl d) (λ s. inr (stopped_too number tested (λ total more d r. rw r) f count bs s)) (number_refused count bs f first))
            (λ n after is answered.
            let own = numbers_take_their_bytes n count bs after is in
            ⊎_elim
            (λ ok. ok_not_err (n, after) f (sym (ok after (at count bs)) ∙ answered))
            (λ out.
            inr (subst (λ (d : Fault). Stopped tested d count bs) (err_is _ f (sym (out.2 after (at count bs)) ∙ answered))
            record {
              front = [];
              number = number_bytes n;
              rest = after;
              of_it = out.1;
              is = own.1;
              grouped = number_grouped n after own.0;
              place = ap (λ r. at count r) own.1;
              refuses = λ total more. rw (numbers_read_back n total more own.0) (out.2 more (at total (number_bytes n ++ more)));
              ends = λ total k h. rw (numbers_cut_short n total k h);
            }))
            (decides n));
      }

ranged_steady : (low high : ℕ) → Steady (λ count. ranged count low high)
ranged_steady low high =
    tested_steady (λ n rest place. cond (within low high n) (Ok (n, rest)) (Err (fault OutOfRange place)))
    (λ n. ⊎_elim (λ t. inl (λ rest place. rw t)) (λ t. inr (OutOfRange, inr (inl refl), λ rest place. rw t)) (cases_Bool (within low high n)))

rising_steady : (over : Kind) → OfANumber over → (least top : ℕ) (before : List ℕ) → Steady (λ count. next_rising count over least top before)
rising_steady over of_it least top before =
    tested_steady (λ n rest place. cond (ltb n top) (cond (leb (past least before) n) (Ok (n, rest)) (Err (fault NotRising place))) (Err (fault over place)))
    (λ n.
    ⊎_elim
    (λ (t : ltb n top ≡ true).
    ⊎_elim
    (λ (u : leb (past least before) n ≡ true). inl (λ rest place. rw (t, u)))
    (λ (u : leb (past least before) n ≡ false). inr (NotRising, inr (inr refl), λ rest place. rw (t, u)))
    (cases_Bool (leb (past least before) n)))
    (λ t. inr (over, of_it, λ rest place. rw t))
    (cases_Bool (ltb n top)))

-- the next bytes
string_steady : (size : ℕ) → Steady (λ count. string count size)
string_steady size =
    record {
      accepted = λ count bs name rest e.
          let own = string_sound count size bs name rest e in
          record { bytes = name; is = own.1; takes = subst (λ (n : ℕ). Takes (λ total. string total n) name name) own.0 (string_takes name) };
      refused = λ count bs f.
          cond_both (leb size (length bs)) (Ok (take size bs, drop size bs)) (Err (fault BytesEnd count))
          (λ r. r ≡ Err f → (f ≡ fault BytesEnd count) ⊎ Stopped (λ total. string total size) f count bs)
          (λ t q. ok_not_err _ _ q)
          (λ t q. inl (sym (err_is _ _ q)));
    }

-- a task, a segment and the numbers of a graph
task_steady : (left : ℕ) (before : List Task) → Steady (λ count. next_task count left before)
task_steady left before =
    then_steady (λ count. ranged count 0 16) _ (ranged_steady 0 16) (λ size.
    then_steady (λ count. string count size) _ (string_steady size) (λ name.
    then_steady (λ count. ranged count 0 1000000) _ (ranged_steady 0 1000000) (λ worst.
    then_steady (λ count. ranged count 0 (left - predecessors_of before)) _ (ranged_steady 0 (left - predecessors_of before)) (λ many.
    then_steady (λ count. several (next_rising count NotRising 0 (length before)) many []) _
    (several_steady (λ count. next_rising count NotRising 0 (length before)) (rising_steady NotRising (inr (inr refl)) 0 (length before)) many []) (λ predecessors.
    steady_none record { name = name; worst = worst; predecessors = predecessors })))))

segment_steady : (segments : ℕ) (before : List Segment) → Steady (λ count. next_segment count segments before)
segment_steady segments before =
    let left = 1024 - predecessors_in before in
    then_steady (λ count. ranged count 1 (256 - tasks_in before)) _ (ranged_steady 1 (256 - tasks_in before)) (λ many.
    then_steady (λ count. several (next_task count left) many []) _ (several_steady (λ count. next_task count left) (task_steady left) many []) (λ tasks.
    then_steady (λ count. ranged count 0 31) _ (ranged_steady 0 31) (λ ways.
    then_steady (λ count. several (next_rising count OutOfRange (length before + 1) segments) ways []) _
    (several_steady (λ count. next_rising count OutOfRange (length before + 1) segments) (rising_steady OutOfRange (inr (inl refl)) (length before + 1) segments) ways []) (λ exits.
    steady_none record { tasks = tasks; exits = exits }))))

pub numbers_steady : Steady numbers
numbers_steady =
    then_steady (λ count. ranged count 1 8) _ (ranged_steady 1 8) (λ cores.
    then_steady (λ count. ranged count 0 1000000000) _ (ranged_steady 0 1000000000) (λ deadline.
    then_steady (λ count. ranged count 1 32) _ (ranged_steady 1 32) (λ many.
    then_steady (λ count. several (next_segment count many) many []) _ (several_steady (λ count. next_segment count many) (segment_steady many) many []) (λ segments.
    steady_none record { cores = cores; deadline = deadline; segments = segments }))))
