-- A fault stands at its number.
use Rattle.std.proofs.Common.{◌≡◌, ℕ, ◌+◌, ◌≤◌, List, ◌++◌, length, take, drop, Err, sym, refl, ap, ◌∙◌, append_assoc, arith, length-append, take_at, drop_at}
use lib.Seq.{take-append-le}
use Rattle.std.proofs.lemmas.List.{length-take-le}
use Rattle.fault.specs.declared.kind.Fault.{Fault}
use Rattle.fault.specs.declared.kind.Kind.TheVariants.{BytesEnd}
use Rattle.fault.specs.Card.{fault, number}
use Rattle.model.specs.Bytes.{at}
use Rattle.model.specs.Laws.{AtItsNumber, FaultsStandAtTheirNumbers}
use Rattle.model.specs.Reading.{numbers, reading}
use Rattle.model.proofs.NumberLaws.{grouped, grouped_some}
use Rattle.model.proofs.Refused.{Refused, bytes_end, at_a_number, bytes_follow, no_entry, reading_refused, between}
use Rattle.model.proofs.SteadyReading.{Stopped}

-- a refusal by the numbers is one by the reading
refuses_too : (bs : List ℕ) (f : Fault) → numbers (length bs) bs ≡ Err f → reading bs ≡ Err f
refuses_too bs f e = rw e

stopped_at : (f : Fault) (bs : List ℕ) → Stopped numbers f (length bs) bs → AtItsNumber f bs
stopped_at f bs s =
    let upto = s.front ++ s.number in
    let size = simp length-append at (ap length s.is) in
    let long = length-append s.front s.number in
    let place : f.place ≡ length s.front = omega (arith, s.place, size, length-append s.number s.rest) in
    let all : bs ≡ upto ++ s.rest = s.is ∙ sym (append_assoc s.front s.number s.rest) in
    let behind : drop f.place bs ≡ s.number ++ s.rest = rw s.is (drop_at s.front (s.number ++ s.rest) f.place (sym place)) in
    let some = grouped_some s.number (grouped (s.number ++ s.rest) (s.number, s.rest) s.grouped).1 in
    record {
      number = s.number;
      rest = s.rest;
      end = f.place + length s.number;
      there = rw behind s.grouped;
      ends = refl;
      some_byte = omega (arith, some);
      inside = omega (arith, size, place);
      first = λ k h.
          let short : k ≤ length upto = omega (arith, place, long) in
          let cut : take k bs ≡ take k upto = rw all (take-append-le k upto s.rest short) in
          rw cut (refuses_too (take k upto) (fault BytesEnd k)
          (s.ends (length (take k upto)) k (omega (arith, place, long)) ∙ ap (λ n. Err (fault BytesEnd n)) (length-take-le k upto short)));
      settled = λ more.
          let begin : take (f.place + length s.number) bs ≡ upto = rw all (take_at upto s.rest (f.place + length s.number) (omega (arith, place, long))) in
          let run = s.front ++ (s.number ++ more) in
          let same : at (length run) (s.number ++ more) ≡ f.place = omega (arith, place, length-append s.front (s.number ++ more)) in
          rw (begin, append_assoc s.front s.number more)
          (refuses_too run f (s.refuses (length run) more ∙ ap (λ n. Err (fault f.kind n)) same));
    }

pub faults_stand_at_their_numbers : FaultsStandAtTheirNumbers
faults_stand_at_their_numbers f bs of_it e = at_its_number (reading_refused f bs e)
  where
    at_its_number : Refused f bs → AtItsNumber f bs
    at_its_number (bytes_end is) = let b = between f.kind of_it in absurd (omega (arith, b, ap number is))
    at_its_number (at_a_number s) = stopped_at f bs s
    at_its_number (bytes_follow is) = let b = between f.kind of_it in absurd (omega (arith, b, ap number is))
    at_its_number (no_entry g read is first) = let b = between f.kind of_it in absurd (omega (arith, b, ap number is))
