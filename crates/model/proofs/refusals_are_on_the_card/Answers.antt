use Rattle.model.proofs.refusals_are_on_the_card.Goals as goal
use Rattle.model.proofs.CardLaws.{refusals_are_on_the_card}

pub returns : goal.returns
returns c = refusals_are_on_the_card
