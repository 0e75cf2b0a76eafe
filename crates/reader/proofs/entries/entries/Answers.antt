use Rattle.std.proofs.Common.{Err, sym, ap, ◌∙◌}
use Rattle.std.proofs.lemmas.Bool.{cond-true, cond-false}
use Rattle.fault.specs.declared.kind.Kind.TheVariants.{NoEntry}
use Rattle.fault.specs.Card.{fault}
use Rattle.model.specs.Graph.{entered}
use Rattle.reader.proofs.Exits.{entries_more}
use Rattle.reader.proofs.entries.entries.Goals as goal

pub returns-then-not-entered : goal.returns-then-not-entered
returns-then-not-entered c g same =
    let found = ap (λ ss. entered ss c.loop-number.number) same ∙ sym c.if-not-entered.ensures in
    c.loop-number.invariant g same ∙ (entries_more g c.loop-number.number c.args.many c.loop-number-test.true ∙ (cond-false _ _ _ found ∙ ap Err (sym (c.at.ensures ∙ ap (fault NoEntry) c.from.ensures))))

pub loop-number-preserved : goal.loop-number-preserved
loop-number-preserved c g same =
    let found = ap (λ ss. entered ss c.loop-number.number) same ∙ sym c.if-not-entered.ensures in
    c.loop-number.invariant g same ∙ (entries_more g c.loop-number.number c.args.many c.loop-number-test.true ∙ cond-true _ _ _ found)
