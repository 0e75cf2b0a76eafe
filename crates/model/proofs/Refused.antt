-- How a plan is refused.
use Rattle.std.proofs.Common.{◌≡◌, ℕ, zero, suc, pred, ◌+◌, ◌<◌, ◌≤◌, true, false, List, [], ◌∷◌, length, Ok, Err, sym, refl, ap, subst, inl, inr, ⊎_elim, arith}
use Rattle.std.proofs.lemmas.Bool.{cases_Bool, cases_eq}
use Rattle.fault.specs.declared.kind.Fault.{Fault}
use Rattle.fault.specs.declared.kind.Kind.{Kind}
use Rattle.fault.specs.declared.kind.Kind.TheVariants.{BytesEnd, TrailingBytes, NoEntry}
use Rattle.fault.specs.Card.{fault, number}
use Rattle.model.specs.Graph.{Graph, entered}
use Rattle.model.specs.Laws.{OfANumber}
use Rattle.model.specs.Reading.{numbers, nothing_left, entries, reading}
use Rattle.model.proofs.GraphLaws.{end_sound}
use Rattle.model.proofs.ListReading.{then_err, err_is, ok_not_err}
use Rattle.model.proofs.Readers.{numbers_steady}
use Rattle.model.proofs.SteadyReading.{Stopped}

-- the first from k on, of n, that is not entered
pub record FirstNotEntered (g : Graph) (k n e : ℕ) : Type 0 where
  pub from : k ≤ e
  pub below : e < k + n
  pub not_entered : entered g.segments e ≡ false
  pub before : (j : ℕ) → k ≤ j → j < e → entered g.segments j ≡ true

pub entries_refused : (g : Graph) (k n : ℕ) (f : Fault) → entries g k n ≡ Err f → (f.kind ≡ NoEntry) × FirstNotEntered g k n f.place
entries_refused g k zero f q = ok_not_err g f q
entries_refused g k (suc n) f q =
    ⊎_elim
    (λ (t : entered g.segments k ≡ true).
    let r = entries_refused g (k + 1) n f (rw t at q) in
    let s = r.1 in (
      r.0,
      record {
        from = omega arith;
        below = omega arith;
        not_entered = s.not_entered;
        before = λ j l h. ⊎_elim (λ (same : j ≡ k). rw same t) (λ other. s.before j (omega arith) h) (cases_eq j k);
      },
    ))
    (λ (t : entered g.segments k ≡ false).
    subst (λ (d : Fault). (d.kind ≡ NoEntry) × FirstNotEntered g k (suc n) d.place) (err_is (fault NoEntry k) f (rw t at q))
    (refl, record { from = omega arith; below = omega arith; not_entered = t; before = λ j l h. absurd (omega arith) }))
    (cases_Bool (entered g.segments k))

pub entries_refuse : (g : Graph) (k n e : ℕ) → FirstNotEntered g k n e → entries g k n ≡ Err (fault NoEntry e)
entries_refuse g k zero e s = absurd (omega arith)
entries_refuse g k (suc n) e s =
    ⊎_elim
    (λ (same : k ≡ e). rw (same, s.not_entered))
    (λ other.
    rw (s.before k (omega arith) (omega arith))
    (entries_refuse g (k + 1) n e record { from = omega arith; below = omega arith; not_entered = s.not_entered; before = λ j l h. s.before j (omega arith) h }))
    (cases_eq k e)

-- the ways to be refused: the bytes end, a number is at fault, bytes follow, or a segment is nobody's exit
pub data Refused (f : Fault) (bs : List ℕ) : Type 0 where
  bytes_end : f.kind ≡ BytesEnd → Refused f bs
  at_a_number : Stopped numbers f (length bs) bs → Refused f bs
  bytes_follow : f.kind ≡ TrailingBytes → Refused f bs
  no_entry : (g : Graph) → numbers (length bs) bs ≡ Ok (g, []) → f.kind ≡ NoEntry → FirstNotEntered g 1 (pred (length g.segments)) f.place → Refused f bs

end_refused : (count : ℕ) (bs : List ℕ) (f : Fault) → nothing_left count bs ≡ Err f → f.kind ≡ TrailingBytes
end_refused count [] f q = ok_not_err (tt, []) f q
end_refused count (b ∷ bs) f q = sym (ap (λ (d : Fault). d.kind) (err_is _ f q))

pub reading_refused : (f : Fault) (bs : List ℕ) → reading bs ≡ Err f → Refused f bs
reading_refused f bs q =
    then_err (numbers (length bs) bs) _ f q
    (λ first. ⊎_elim (λ d. bytes_end (ap (λ (x : Fault). x.kind) d)) (λ s. at_a_number s) (numbers_steady.refused (length bs) bs f first))
    (λ g rest is second.
    then_err (nothing_left (length bs) rest) _ f second
    (λ left. bytes_follow (end_refused (length bs) rest f left))
    (λ done after end third.
    let none = end_sound (length bs) rest done after end in
    let r = entries_refused g 1 (pred (length g.segments)) f third in
    no_entry g (rw none at is) r.0 r.1))

-- the card numbers these kinds 2, 3 and 4
pub between : (k : Kind) → OfANumber k → (2 ≤ number k) × (number k ≤ 4)
between k (inl e) = rw e (omega arith, omega arith)
between k (inr (inl e)) = rw e (omega arith, omega arith)
between k (inr (inr e)) = rw e (omega arith, omega arith)
