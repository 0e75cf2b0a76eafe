-- The laws over plan bytes, one name each.
use Rattle.std.specs.Prelude.{◌≡◌, ℕ, ◌+◌, ◌<◌, ◌≤◌, true, false, ◌⊎◌, List, [], ◌∷◌, ◌++◌, length, take, drop, Some, Ok, Err}
use Rattle.fault.specs.declared.kind.Fault.{Fault}
use Rattle.fault.specs.declared.kind.Kind.{Kind}
use Rattle.fault.specs.declared.kind.Kind.TheVariants.{BytesEnd, NumberForm, OutOfRange, NotRising, TrailingBytes, NoEntry}
use Rattle.fault.specs.Card.{fault, OnCard}
use Rattle.model.specs.Formed.{well_formed}
use Rattle.model.specs.Graph.{Graph, entered}
use Rattle.model.specs.Numbers.{groups, number, number_bytes}
use Rattle.model.specs.Reading.{numbers, reading}
use Rattle.model.specs.Writing.{graph_bytes}

-- a number written and read back is itself, and the bytes after it are untouched
abbrev pub NumbersReadBack : Type 0
NumbersReadBack = (n count : ℕ) (rest : List ℕ) → n < 4294967296 → number count (number_bytes n ++ rest) ≡ Ok (n, rest)

-- what is read takes exactly the bytes that would be written for it
abbrev pub NumbersTakeTheirBytes : Type 0
NumbersTakeTheirBytes = (n count : ℕ) (bs rest : List ℕ) → number count bs ≡ Ok (n, rest) → (n < 4294967296) × (bs ≡ number_bytes n ++ rest)

-- the bytes of a well-formed graph read back to it
abbrev pub GraphsReadBack : Type 0
GraphsReadBack = (g : Graph) → well_formed g ≡ true → reading (graph_bytes g) ≡ Ok g

-- a graph that is read is well-formed
abbrev pub GraphsReadAreFormed : Type 0
GraphsReadAreFormed = (g : Graph) (bs : List ℕ) → reading bs ≡ Ok g → well_formed g ≡ true

-- bytes that read without fault are the bytes of their graph
abbrev pub GraphsTakeTheirBytes : Type 0
GraphsTakeTheirBytes = (g : Graph) (bs : List ℕ) → reading bs ≡ Ok g → bs ≡ graph_bytes g

-- a refusal carries a place that the card allows
abbrev pub RefusalsAreOnTheCard : Type 0
RefusalsAreOnTheCard = (f : Fault) (bs : List ℕ) → reading bs ≡ Err f → OnCard f

-- a plan cut short ends inside: every shorter beginning of its bytes is refused with the count of bytes that are left
abbrev pub PlansCutShortEndInside : Type 0
PlansCutShortEndInside = (g : Graph) (bs : List ℕ) (k : ℕ) → reading bs ≡ Ok g → k < length bs → reading (take k bs) ≡ Err (fault BytesEnd k)

-- bytes after a plan are refused at the first of them
abbrev pub BytesAfterAPlanAreRefused : Type 0
BytesAfterAPlanAreRefused = (g : Graph) (bs more : List ℕ) (b : ℕ) → reading bs ≡ Ok g → reading (bs ++ b ∷ more) ≡ Err (fault TrailingBytes (length bs))

-- the kinds of fault that a number of a plan can have
abbrev pub OfANumber : Kind → Type 0
OfANumber k = (k ≡ NumberForm) ⊎ ((k ≡ OutOfRange) ⊎ (k ≡ NotRising))

-- a refusal stands at the first byte of a number, and is known just when the number's last byte is
pub record AtItsNumber (f : Fault) (bs : List ℕ) : Type 0 where
  pub number : List ℕ
  pub rest : List ℕ
  pub end : ℕ
  -- the number that begins at the place ends before `end`
  pub there : groups (drop f.place bs) ≡ Some (number, rest)
  pub ends : end ≡ f.place + length number
  pub some_byte : f.place < end
  pub inside : end ≤ length bs
  -- nothing before it is at fault, and a part of it is not yet
  pub first : (k : ℕ) → k < end → reading (take k bs) ≡ Err (fault BytesEnd k)
  -- what follows it does not matter
  pub settled : (more : List ℕ) → reading (take end bs ++ more) ≡ Err f

-- a fault stands at its number: the first number of the plan that is at fault
abbrev pub FaultsStandAtTheirNumbers : Type 0
FaultsStandAtTheirNumbers = (f : Fault) (bs : List ℕ) → OfANumber f.kind → reading bs ≡ Err f → AtItsNumber f bs

-- the segment is the lowest but 0 that is nobody's exit
pub record LowestNotEntered (g : Graph) (e : ℕ) : Type 0 where
  pub some_segment : 1 ≤ e
  pub of_the_plan : e < length g.segments
  pub not_entered : entered g.segments e ≡ false
  pub entered_below : (k : ℕ) → 1 ≤ k → k < e → entered g.segments k ≡ true

-- bytes are refused for want of an entry exactly where their numbers are those of a graph, and at its lowest segment that is nobody's exit
abbrev pub NoEntryNamesTheLowest : Type 0
NoEntryNamesTheLowest =
    (bs : List ℕ) (e : ℕ)
    → (reading bs ≡ Err (fault NoEntry e) → (g : Graph) × (numbers (length bs) bs ≡ Ok (g, [])) × LowestNotEntered g e)
    × ((g : Graph) → numbers (length bs) bs ≡ Ok (g, []) → LowestNotEntered g e → reading bs ≡ Err (fault NoEntry e))
