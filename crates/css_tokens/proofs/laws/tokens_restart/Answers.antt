use Rattle.css_tokens.proofs.RestartLemmas.{tokens_restart}
use Rattle.css_tokens.proofs.laws.tokens_restart.Goals as goal

pub returns : goal.returns
returns c = tokens_restart
