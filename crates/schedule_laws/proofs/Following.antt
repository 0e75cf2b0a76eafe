-- The followers of each task, collected task by task.
use Rattle.std.proofs.Common.{◌≡◌, ℕ, ◌+◌, ◌<◌, Bool, true, false, cond, eqb, List, [], ◌∷◌, ◌++◌, length, get_or, take, set, replicate, filter, sym, refl, ap, ◌∙◌, ⊎_elim, arith}
use Rattle.std.proofs.lemmas.List.FromFn.{filter_of_map_range_with_len_more}
use Rattle.std.proofs.lemmas.List.{append-nil, append_assoc, map-id, length-set, get_or-set_same, get_or-set_other, replicate_more}
use Rattle.std.proofs.lemmas.Bool.{cases_eq, eq-eqb, ne_eqb}
use Rattle.std.specs.List.{range_with_len}
use Rattle.model.specs.Graph.{Segment}
use Rattle.model.specs.Lists.{Apart, has}
use Rattle.model.specs.Places.{task}
use Rattle.schedule_laws.specs.Counting.{one, times}
use Rattle.schedule_laws.specs.Following.{Followed, Following}
use Rattle.schedule_laws.proofs.Members.{times_more, apart_times}

pub followed_none : (number : ℕ) (fs : List (List ℕ)) → Followed number [] fs fs
followed_none number fs = record { long = refl; gains = λ q l. sym (append-nil (get_or fs q [])) }

pub followed_more : (number : ℕ) (ps : List ℕ) (fs gs : List (List ℕ)) (i p : ℕ) → i < length ps → p ≡ get_or ps i p → p < length fs
    → Followed number (take i ps) fs gs → Followed number (take (i + 1) ps) fs (set gs p (get_or gs p [] ++ (number ∷ [])))
followed_more number ps fs gs i p turn is inside h =
    let more : (k : ℕ) → times (λ u. u) k (take (i + 1) ps) ≡ times (λ u. u) k (take i ps) + one (eqb p k) =
    λ k. times_more (λ u. u) k ps i p turn is in
    let new = get_or gs p [] ++ (number ∷ []) in
    record {
      long = length-set gs p new ∙ h.long;
      gains = λ q l. ⊎_elim
          (λ (e : p ≡ q).
          let n = times (λ u. u) q (take i ps) in
          let count : times (λ u. u) q (take (i + 1) ps) ≡ n + 1 = more q ∙ ap (λ v. n + one v) (eq-eqb p q e) in
          ap (λ v. get_or (set gs p new) v []) (sym e) ∙ get_or-set_same gs p new [] (omega (arith, h.long, inside))
          ∙ ap (λ v. get_or gs v [] ++ (number ∷ [])) e ∙ ap (λ v. v ++ (number ∷ [])) (h.gains q l)
          ∙ append_assoc (get_or fs q []) (replicate n number) (number ∷ [])
          ∙ ap (λ v. get_or fs q [] ++ v) (replicate_more n number ∙ ap (λ v. replicate v number) (sym count)))
          (λ (d : p ≡ q → ⊥).
          let n = times (λ u. u) q (take i ps) in
          let count : times (λ u. u) q (take (i + 1) ps) ≡ n = omega (arith, more q, ap one (ne_eqb p q d)) in
          get_or-set_other gs p q new [] (λ e. d (sym e)) ∙ h.gains q l ∙ ap (λ v. get_or fs q [] ++ replicate v number) (sym count))
          (cases_eq p q);
    }

pub following_none : (s : Segment) (fs : List (List ℕ)) → length fs ≡ length s.tasks → ((q : ℕ) → q < length fs → get_or fs q [] ≡ []) → Following s 0 fs
following_none s fs long empty = record { long = long; each = λ q l. empty q (omega (arith, long)) }

pub following_more : (s : Segment) (i : ℕ) (fs gs : List (List ℕ)) → Apart (task s i).predecessors → Followed i (task s i).predecessors fs gs → Following s i fs → Following s (i + 1) gs
following_more s i fs gs apart f h =
    let ps = (task s i).predecessors in
    record {
      long = f.long ∙ h.long;
      each = λ q l.
          let test : ℕ → Bool = λ t. has (task s t).predecessors q in
          let rep : (b : Bool) → replicate (one b) i ≡ cond b (i ∷ []) [] = λ b. elim b as (λ v. replicate (one v) i ≡ cond v (i ∷ []) []) [ true ↦ refl | false ↦ refl ] in
          f.gains q (omega (arith, h.long))
          ∙ ap (λ v. v ++ replicate (times (λ u. u) q ps) i) (h.each q l)
          ∙ ap (λ v. filter test (range_with_len 0 i) ++ v) (ap (λ v. replicate v i) (apart_times ps apart q) ∙ rep (has ps q))
          ∙ sym (rw (map-id (range_with_len 0 (i + 1)), map-id (range_with_len 0 i)) at (filter_of_map_range_with_len_more test (λ u. u) 0 i i (omega arith)));
    }
