use Rattle.std.proofs.Common.{vec_items, ◌∙◌, rules}
use Rattle.std.proofs.lemmas.Iterator.{YieldsList-from_slice}
use Rattle.std.proofs.lemmas.Iterator.Search.{any_from_yields_List}
use Rattle.model.specs.Lists.{has}
use Rattle.reader.proofs.Exits.{entered_any}
use Rattle.reader.proofs.entries.entered.Goals as goal

pub returns : goal.returns
returns c =
    any_from_yields_List (λ s. has (vec_items s.exits) c.args.number) _ _ _ c.any.ensures.ran (YieldsList-from_slice c.args.segments.now (search rules)) (λ x b q k. search rules)
    ∙ entered_any c.args.segments.now c.args.number
