use Rattle.selector_laws.proofs.KeptTerms.{read_keeps}
use Rattle.selector_laws.proofs.laws.read_selectors_keep_the_limits.Goals as goal

pub returns : goal.returns
returns c = read_keeps
