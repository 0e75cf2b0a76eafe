-- The reading of a whole plan, from the readings of its parts.
use Rattle.std.proofs.Common.{◌≡◌, ℕ, pred, ◌-◌, List, [], length, Ok, Result, sym, refl, ap, ◌∙◌, zero-add, sub-one}
use Rattle.fault.specs.declared.kind.Fault.{Fault}
use Rattle.model.specs.Bytes.{Read, several}
use Rattle.model.specs.Graph.{Segment}
use Rattle.model.specs.Reading.{ranged, next_segment, numbers, nothing_left, entries, reading}
use Rattle.reader.specs.Answers.{Takes, leaving, passing}
use Rattle.reader.specs.declared.input.Input.{Input}
use Rattle.reader.proofs.Several.{several-length}

-- what is read from a run of so many
from_run : {X : Type 0} (read : ℕ → List ℕ → Read X) (count : ℕ) (before : Input) (r : Result X Fault) (after : Input) → before.count ≡ count → Takes (read before.count) before r after → (after.count ≡ count) × (leaving r after ≡ read count before.rest.now)
from_run read count before r after same took = (took.same_run ∙ same, took.answer ∙ ap (λ k. read k before.rest.now) same)

module _ (bs : List ℕ) (begun after_cores after_deadline after_many after_segments : Input) (cores deadline many : ℕ) (segments : List Segment)
    (begins : (begun.count ≡ length bs) × (begun.rest.now ≡ bs))
    (read_cores : Takes (ranged begun.count 1 8) begun (Ok cores) after_cores)
    (read_deadline : Takes (ranged after_cores.count 0 1000000000) after_cores (Ok deadline) after_deadline)
    (read_many : Takes (ranged after_deadline.count 1 32) after_deadline (Ok many) after_many)
    (same_run : after_segments.count ≡ after_many.count)
    (read_segments : several (next_segment after_many.count many) many [] after_many.rest.now ≡ Ok (segments, after_segments.rest.now)) where
  one : (after_cores.count ≡ length bs) × (Ok (cores, after_cores.rest.now) ≡ ranged (length bs) 1 8 begun.rest.now)
  one = from_run (λ k. ranged k 1 8) (length bs) begun (Ok cores) after_cores begins.0 read_cores

  two : (after_deadline.count ≡ length bs) × (Ok (deadline, after_deadline.rest.now) ≡ ranged (length bs) 0 1000000000 after_cores.rest.now)
  two = from_run (λ k. ranged k 0 1000000000) (length bs) after_cores (Ok deadline) after_deadline one.0 read_deadline

  three : (after_many.count ≡ length bs) × (Ok (many, after_many.rest.now) ≡ ranged (length bs) 1 32 after_deadline.rest.now)
  three = from_run (λ k. ranged k 1 32) (length bs) after_deadline (Ok many) after_many two.0 read_many

  read_numbers : numbers (length bs) bs ≡ Ok (record { cores = cores; deadline = deadline; segments = segments }, after_segments.rest.now)
  read_numbers =
      let first = ap (ranged (length bs) 1 8) (sym begins.1) ∙ sym one.1 in
      let last = ap (λ k. several (next_segment k many) many [] after_many.rest.now) (sym three.0) ∙ read_segments in
      rw first (rw (sym two.1) (rw (sym three.1) (rw last refl)))

  -- where nothing is left, the entries decide
  pub read_whole : (r : Result (Unit {0}) Fault) → nothing_left after_segments.count after_segments.rest.now ≡ Ok (tt, [])
      → entries (record { cores = cores; deadline = deadline; segments = segments }) 1 (many - 1) ≡ passing r (record { cores = cores; deadline = deadline; segments = segments })
      → reading bs ≡ passing r (record { cores = cores; deadline = deadline; segments = segments })
  read_whole r none entered =
      let n : pred (length segments) ≡ many - 1 = sym (sub-one (length segments)) ∙ ap (λ k. k - 1) (several-length (next_segment after_many.count many) many [] after_many.rest.now segments after_segments.rest.now read_segments ∙ zero-add many) in
      let done = ap (λ k. nothing_left k after_segments.rest.now) (sym (same_run ∙ three.0)) ∙ none in
      rw read_numbers (rw done (rw n entered))
