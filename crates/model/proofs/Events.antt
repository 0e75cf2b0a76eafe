-- The events of a schedule, and that they keep it steady.
use Rattle.std.proofs.Common.{◌≡◌, ℕ, zero, suc, ◌<◌, ◌≤◌, false, not, eqb, ◌⊎◌, List, [], ◌∷◌, ◌++◌, filter, sym, refl, ap, ◌∙◌, inl, inr, arith}
use Rattle.std.proofs.lemmas.Bool.{not_from_true}
use Rattle.model.specs.Canonical.{Start, Progress, begun, running, taken, free_cores, end_of, ready_tasks, before, soonest, pass, event, next, after}
use Rattle.model.specs.Graph.{Segment}
use Rattle.model.specs.Lists.{has, In}
use Rattle.model.proofs.Counted.{kept_first}
use Rattle.model.proofs.First.{first_is, soonest_in, soonest_each}
use Rattle.model.proofs.Members.{in_has}
use Rattle.model.proofs.Passed.{steady_pass}
use Rattle.model.proofs.Started.{steady_start}
use Rattle.model.proofs.Steady.{Steady, out_true}

-- the lowest free core: no running task takes it, and each lower one is taken
pub lowest_free : (cores : ℕ) (q : Progress) (c : ℕ) → c < cores → (In c (taken (running q)) → ⊥) → ((d : ℕ) → d < c → In d (taken (running q)))
    → (cs : List ℕ) × (free_cores cores q ≡ c ∷ cs)
lowest_free cores q c h n lower =
    kept_first (λ (d : ℕ). not (has (taken (running q)) d)) 0 cores c (omega arith) (omega arith) (out_true (taken (running q)) c n)
    (λ d l b. not_from_true (has (taken (running q)) d) (in_has (taken (running q)) d (lower d b)))

-- time passes to e where a running task ends at e, and none before
pub pass_is : (s : Segment) (q : Progress) (r : List Start) (e : ℕ) (y : Start) → In y r → end_of s y ≡ e → ((z : Start) → In z r → e ≤ end_of s z)
    → pass s q r ≡ record { moment = e; starts = q.starts; ended = q.ended ++ begun (filter (λ z. eqb (end_of s z) e) r) }
pass_is s q [] e y i own least = absurd i
pass_is s q (x ∷ xs) e y i own least =
    let soon : end_of s (soonest s x xs) ≡ e = omega (arith, own, least (soonest s x xs) (soonest_in s x xs), soonest_each s x xs y i) in
    ap {B = Progress} (λ m. record { moment = m; starts = q.starts; ended = q.ended ++ begun (filter (λ z. eqb (end_of s z) m) (x ∷ xs)) }) soon

module _ (cores : ℕ) (s : Segment) (q : Progress) where
  -- a core is free, and the task u is ready with none before it: it starts
  pub next_starts : (c : ℕ) (cs : List ℕ) (u : ℕ) → free_cores cores q ≡ c ∷ cs → In u (ready_tasks s q) → ((v : ℕ) → In v (ready_tasks s q) → before s v u ≡ false)
      → next cores s q ≡ record { moment = q.moment; starts = q.starts ++ (record { task = u; at = q.moment; core = c } ∷ []); ended = q.ended }
  next_starts c cs u free i none = ap (λ (l : List ℕ). event s q l (ready_tasks s q)) free ∙ starts (ready_tasks s q) i none
    where
      starts : (ts : List ℕ) → In u ts → ((v : ℕ) → In v ts → before s v u ≡ false)
          → event s q (c ∷ cs) ts ≡ record { moment = q.moment; starts = q.starts ++ (record { task = u; at = q.moment; core = c } ∷ []); ended = q.ended }
      starts [] j least = absurd j
      starts (t ∷ ts) j least =
          ap {B = Progress} (λ v. record { moment = q.moment; starts = q.starts ++ (record { task = v; at = q.moment; core = c } ∷ []); ended = q.ended }) (first_is s t ts u j least)

  -- no core is free or no task is ready: time passes
  pub next_passes : (free_cores cores q ≡ []) ⊎ (ready_tasks s q ≡ []) → next cores s q ≡ pass s q (running q)
  next_passes (inl none) = ap (λ (l : List ℕ). event s q l (ready_tasks s q)) none
  next_passes (inr none) = ap (λ (l : List ℕ). event s q (free_cores cores q) l) none ∙ passes (free_cores cores q)
    where
      passes : (cs : List ℕ) → event s q cs [] ≡ pass s q (running q)
      passes [] = refl
      passes (c ∷ cs) = refl

  module _ (steady : Steady cores s q) where
    pass_steady : (r : List Start) → r ≡ running q → (free_cores cores q ≡ []) ⊎ (ready_tasks s q ≡ []) → Steady cores s (pass s q r)
    pass_steady [] are wait = steady
    pass_steady (x ∷ xs) are wait = steady_pass cores s q steady x xs are wait

    event_steady : (cs ts : List ℕ) → cs ≡ free_cores cores q → ts ≡ ready_tasks s q → Steady cores s (event s q cs ts)
    event_steady [] ts are_free are_ready = pass_steady (running q) refl (inl (sym are_free))
    event_steady (c ∷ cs) [] are_free are_ready = pass_steady (running q) refl (inr (sym are_ready))
    event_steady (c ∷ cs) (t ∷ ts) are_free are_ready = steady_start cores s q steady c cs are_free t ts are_ready

    pub steady_next : Steady cores s (next cores s q)
    steady_next = event_steady (free_cores cores q) (ready_tasks s q) refl refl

pub steady_after : (cores : ℕ) (s : Segment) (n : ℕ) → Steady cores s (after cores s n)
steady_after cores s zero =
    record {
      once = tt;
      only = λ y i. absurd i;
      own = λ y i. absurd i;
      past = λ y i. absurd i;
      known = λ t i. absurd i;
      over = λ y i. absurd i;
      going = λ y i. absurd i;
      parted = tt;
      placed = tt;
      busy = λ u m below early. absurd (omega (arith, early));
    }
steady_after cores s (suc n) = steady_next cores s (after cores s n) (steady_after cores s n)
