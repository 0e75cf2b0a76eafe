use Rattle.model.proofs.no_entry_names_the_lowest.Goals as goal
use Rattle.model.proofs.EntryLaws.{no_entry_names_the_lowest}

pub returns : goal.returns
returns c = no_entry_names_the_lowest
