use Rattle.css_tokens.proofs.LawLemmas.{parts_join}
use Rattle.css_tokens.proofs.laws.parts_join.Goals as goal

pub returns : goal.returns
returns c = parts_join
