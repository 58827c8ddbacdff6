use Rattle.css_tokens.proofs.LawLemmas.{tokens_cover}
use Rattle.css_tokens.proofs.laws.tokens_cover.Goals as goal

pub returns : goal.returns
returns c = tokens_cover
