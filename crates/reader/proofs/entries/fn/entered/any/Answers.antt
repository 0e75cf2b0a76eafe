use Rattle.std.proofs.Common.{ap, ◌∙◌}
use Rattle.model.specs.Lists.{has}
use Rattle.reader.proofs.Exits.{contains_has}
use Rattle.reader.proofs.entries.fn.entered.any.Goals as goal

pub returns : goal.returns
returns c = contains_has _ _ _ c.contains.ensures.cases ∙ ap (λ xs. has xs c.captures.number) c.as_slice.ensures.value
