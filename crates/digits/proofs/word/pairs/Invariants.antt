use Rattle.std.proofs.Common.{◌≡◌, ◌%◌, length, vec_items}
use Rattle.std.specs.Slice.Iter.{chunks_exact_rest, chunks_exact_size}
use Rattle.digits.specs.Hex.{bytes_of}
use Rattle.digits.proofs.Onward.{onto}
use Rattle.digits.proofs.word.pairs.Given as goal

-- the bytes of what is left end the work, and a digit is left over of it where one is of the text
abbrev pub invariant-loop-pair : goal.invariant-loop-pair
invariant-loop-pair l =
    (onto (vec_items l.bytes) (bytes_of l.letters (chunks_exact_rest l.pair-iterator)) ≡ bytes_of l.letters l.text)
    × (chunks_exact_size l.pair-iterator ≡ 2)
    × (length (chunks_exact_rest l.pair-iterator) % 2 ≡ length l.text % 2)
