use Rattle.css_tokens.proofs.RunLemmas.{runs_are_longest}
use Rattle.css_tokens.proofs.laws.runs_are_longest.Goals as goal

pub returns : goal.returns
returns c = runs_are_longest
