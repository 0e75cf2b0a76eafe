-- A refusal for want of an entry names the lowest segment that is nobody's exit.
use Rattle.std.proofs.Common.{◌≡◌, ℕ, pred, List, [], length, Ok, Err, ap, arith}
use Rattle.fault.specs.declared.kind.Kind.TheVariants.{NoEntry}
use Rattle.fault.specs.Card.{fault, number}
use Rattle.model.specs.Graph.{Graph}
use Rattle.model.specs.Laws.{LowestNotEntered, NoEntryNamesTheLowest}
use Rattle.model.specs.Reading.{numbers, reading}
use Rattle.model.proofs.Refused.{Refused, bytes_end, at_a_number, bytes_follow, no_entry, reading_refused, entries_refuse, between}

module _ (bs : List ℕ) (e : ℕ) where
  lowest : Refused (fault NoEntry e) bs → (g : Graph) × (numbers (length bs) bs ≡ Ok (g, [])) × LowestNotEntered g e
  lowest (bytes_end is) = absurd (omega (arith, ap number is))
  lowest (at_a_number s) = absurd (omega (arith, between NoEntry s.of_it))
  lowest (bytes_follow is) = absurd (omega (arith, ap number is))
  lowest (no_entry g read is first) =
      (g, read, record { some_segment = first.from; of_the_plan = omega (arith, first); not_entered = first.not_entered; entered_below = first.before })

  refused : (g : Graph) → numbers (length bs) bs ≡ Ok (g, []) → LowestNotEntered g e → reading bs ≡ Err (fault NoEntry e)
  refused g read low =
      rw read
      (entries_refuse g 1 (pred (length g.segments)) e
      record { from = low.some_segment; below = omega arith; not_entered = low.not_entered; before = low.entered_below })

pub no_entry_names_the_lowest : NoEntryNamesTheLowest
no_entry_names_the_lowest bs e = (λ q. lowest bs e (reading_refused (fault NoEntry e) bs q), refused bs e)
