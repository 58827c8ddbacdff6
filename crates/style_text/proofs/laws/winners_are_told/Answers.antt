use Rattle.style_text.proofs.Told.{told}
use Rattle.style_text.proofs.laws.winners_are_told.Goals as goal

pub returns : goal.returns
returns c = told c.texts_differ.ensures
