use Rattle.std.proofs.Common.{length, vec_items, ap, sym, ◌∙◌, rules, arith, length-append}
use Rattle.std.specs.Slice.Iter.{chunks_exact_rest}
use Rattle.digits.specs.Hex.{bytes_of}
use Rattle.digits.proofs.Onward.{onto, pair_more}
use Rattle.digits.proofs.word.pairs.Goals as goal

pub loop-pair-preserved : goal.loop-pair-preserved
loop-pair-preserved c =
    let steps = c.in-Some.ensures.steps in (
      rw c.in_ok-push.ensures.items
          (pair_more c.args.letters (vec_items c.loop-pair.bytes) c.in-Some-byte_of.byte c.in-Some.pair.now _ (search rules) c.in-Some-byte_of.ensures
          ∙ ap (λ l. onto (vec_items c.loop-pair.bytes) (bytes_of c.args.letters l)) (sym steps.1.0)
          ∙ c.loop-pair.invariant.0),
      steps.0 ∙ c.loop-pair.invariant.1,
      omega (arith, length-append c.in-Some.pair.now (chunks_exact_rest c.next.new.self), ap length steps.1.0, steps.1.1, c.loop-pair.invariant),
    )
