use Rattle.selector_text_laws.proofs.Together.{together_ends_alike, together_stands}
use Rattle.selector_text_laws.proofs.laws.tokens_stand_together.Goals as goal

pub returns : goal.returns
returns c = record { ends = together_ends_alike; stands = together_stands }
