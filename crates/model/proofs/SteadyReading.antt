-- A reader that goes on byte by byte: what it reads it takes, and where it stops it stops at a number.
use Rattle.std.proofs.Common.{◌≡◌, ℕ, zero, suc, ◌⊎◌, List, [], ◌∷◌, ◌++◌, Some, Ok, Err, sym, refl, ap, ◌∙◌, subst, inl, inr, ⊎_elim, append_assoc}
use Rattle.fault.specs.declared.kind.Fault.{Fault}
use Rattle.fault.specs.declared.kind.Kind.TheVariants.{BytesEnd}
use Rattle.fault.specs.Card.{fault}
use Rattle.model.specs.Bytes.{Read, then, at, several}
use Rattle.model.specs.Laws.{OfANumber}
use Rattle.model.specs.Numbers.{groups}
use Rattle.model.proofs.ListReading.{then_ok, then_err, ok_is, ok_not_err}
use Rattle.model.proofs.Taken.{Ends, Takes, takes_none, then_ends, then_takes}

module _ {X : Type 0} (p : ℕ → List ℕ → Read X) where
  -- what was read has bytes of its own
  pub record Taken (x : X) (bs rest : List ℕ) : Type 0 where
    pub bytes : List ℕ
    pub is : bs ≡ bytes ++ rest
    pub takes : Takes p x bytes

  -- what is refused is refused at a number, whatever follows it, and with no fault before its last byte
  pub record Stopped (f : Fault) (count : ℕ) (bs : List ℕ) : Type 0 where
    pub front : List ℕ
    pub number : List ℕ
    pub rest : List ℕ
    pub of_it : OfANumber f.kind
    pub is : bs ≡ front ++ (number ++ rest)
    pub grouped : groups (number ++ rest) ≡ Some (number, rest)
    pub place : f.place ≡ at count (number ++ rest)
    pub refuses : (total : ℕ) (more : List ℕ) → p total (front ++ (number ++ more)) ≡ Err (fault f.kind (at total (number ++ more)))
    pub ends : Ends p (front ++ number)

  pub record Steady : Type 0 where
    pub accepted : (count : ℕ) (bs : List ℕ) (x : X) (rest : List ℕ) → p count bs ≡ Ok (x, rest) → Taken x bs rest
    pub refused : (count : ℕ) (bs : List ℕ) (f : Fault) → p count bs ≡ Err f → (f ≡ fault BytesEnd count) ⊎ Stopped f count bs

module _ {X : Type 0} where
  pub steady_none : (x : X) → Steady (λ count rest. Ok (x, rest))
  steady_none x =
      record {
        accepted = λ count bs y rest e.
            subst (λ (r : X × List ℕ). Taken (λ total more. Ok (x, more)) r.0 bs r.1) (ok_is (x, bs) (y, rest) e) record { bytes = []; is = refl; takes = takes_none x };
        refused = λ count bs f e. ok_not_err (x, bs) f e;
      }

-- a reader that answers every fault of another stops where that stops
module _ {X Y : Type 0} (p : ℕ → List ℕ → Read X) (q : ℕ → List ℕ → Read Y)
    (answers : (count : ℕ) (bs : List ℕ) (f : Fault) → p count bs ≡ Err f → q count bs ≡ Err f) where
  pub stopped_too : (f : Fault) (count : ℕ) (bs : List ℕ) → Stopped p f count bs → Stopped q f count bs
  stopped_too f count bs s =
      record {
        front = s.front;
        number = s.number;
        rest = s.rest;
        of_it = s.of_it;
        is = s.is;
        grouped = s.grouped;
        place = s.place;
        refuses = λ total more. answers total _ _ (s.refuses total more);
        ends = λ total k h. answers total _ _ (s.ends total k h);
      }

-- one thing and then another
module _ {X Y : Type 0} (p : ℕ → List ℕ → Read X) (q : X → ℕ → List ℕ → Read Y) where
  abbrev both : ℕ → List ℕ → Read Y
  both count bs = then (p count bs) (λ a after. q a count after)

  stopped_second : (x : X) (f : Fault) (count : ℕ) (bs rest : List ℕ) → Taken p x bs rest → Stopped (q x) f count rest → Stopped both f count bs
  stopped_second x f count bs rest t s =
      record {
        front = t.bytes ++ s.front;
        number = s.number;
        rest = s.rest;
        of_it = s.of_it;
        is = t.is ∙ ap (λ after. t.bytes ++ after) s.is ∙ sym (append_assoc t.bytes s.front (s.number ++ s.rest));
        grouped = s.grouped;
        place = s.place;
        refuses = λ total more. rw (append_assoc t.bytes s.front (s.number ++ more), t.takes.reads total (s.front ++ (s.number ++ more))) (s.refuses total more);
        ends = rw (append_assoc t.bytes s.front s.number) (then_ends p q x t.bytes (s.front ++ s.number) t.takes s.ends);
      }

  pub then_steady : Steady p → ((x : X) → Steady (q x)) → Steady both
  then_steady one other =
      record {
        accepted = λ count bs y rest e.
            then_ok (p count bs) _ _ e (λ x after first_read second_read.
            let a = one.accepted count bs x after first_read in
            let b = (other x).accepted count after y rest second_read in
            record {
              bytes = a.bytes ++ b.bytes;
              is = a.is ∙ ap (λ t. a.bytes ++ t) b.is ∙ sym (append_assoc a.bytes b.bytes rest);
              takes = then_takes p q x y a.bytes b.bytes a.takes b.takes;
            });
        refused = λ count bs f e.
            then_err (p count bs) _ _ e
            (λ first. ⊎_elim (λ d. inl d) (λ s. inr (stopped_too p both (λ total more d r. rw r) f count bs s)) (one.refused count bs f first))
            (λ x after first_read second.
            ⊎_elim (λ d. inl d) (λ s. inr (stopped_second x f count bs after (one.accepted count bs x after first_read) s)) ((other x).refused count after f second));
      }

module _ {X : Type 0} (item : ℕ → List X → List ℕ → Read X) where
  pub several_steady : ((done : List X) → Steady (λ count. item count done)) → (n : ℕ) (done : List X) → Steady (λ count. several (item count) n done)
  several_steady own zero done = steady_none done
  several_steady own (suc n) done =
      then_steady (λ count. item count done) (λ x count. several (item count) n (done ++ (x ∷ []))) (own done) (λ x. several_steady own n (done ++ (x ∷ [])))
