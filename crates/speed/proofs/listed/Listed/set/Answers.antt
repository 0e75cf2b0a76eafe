use Rattle.std.proofs.Common.{length, sym, ap, arith, length-append, length-drop}
use Rattle.model.proofs.MakingLaws.{sound_speeds_make_a_ladder}
use Rattle.speed.proofs.Table.{table_least, table_most, table_rises}
use Rattle.speed.proofs.listed.Listed.set.Goals as goal

pub invariant_of-self : goal.invariant_of-self
invariant_of-self c =
    let xs = c.args.speeds.now in
    let passed = (sound_speeds_make_a_ladder 16 xs).1 xs (sym c.in_ok-check.ensures.answer) in
    let same = c.copy_from_slice.ensures.after in
    record {
      whole = simp (length-append, length-drop) (omega (arith, ap length same, passed.2));
      some = passed.1.some_level;
      few = passed.2;
      least = table_least xs _ _ same passed.1;
      most = table_most xs _ _ same passed.1;
      rises = table_rises xs _ _ same passed.1;
    }
