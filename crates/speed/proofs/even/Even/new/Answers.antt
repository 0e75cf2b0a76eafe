use Rattle.std.proofs.Common.{sym, arith}
use Rattle.model.specs.Making.{even_speeds}
use Rattle.model.proofs.MakingLaws.{sound_speeds_make_a_ladder}
use Rattle.model.proofs.EvenSpeeds.{even_count, even_some, even_least, even_last, even_rises}
use Rattle.speed.proofs.even.Even.new.Goals as goal

pub invariant_of-result : goal.invariant_of-result
invariant_of-result c =
    let low = c.args.lowest in
    let step = c.args.step in
    let n = c.args.count in
    let xs = even_speeds low step n in
    let passed = (sound_speeds_make_a_ladder 64 xs).1 xs (sym c.in_ok-check.ensures.answer) in
    let sound = passed.1 in
    record {
      some = even_some low step n sound;
      few = omega (arith, passed.2, even_count low step n);
      least = even_least low step n sound;
      most = even_last low step n sound;
      rises = even_rises low step n sound;
    }
