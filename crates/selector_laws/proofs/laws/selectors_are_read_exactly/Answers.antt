use Rattle.std.proofs.Common.{map}
use Rattle.css_model.specs.Selectors.Terms.{terms}
use Rattle.css_model.specs.Text.Kept.{solid}
use Rattle.selector_laws.proofs.DerivedStates.{derived}
use Rattle.selector_laws.proofs.KeptTerms.{read_keeps}
use Rattle.selector_laws.proofs.ReadStates.{read}
use Rattle.selector_laws.proofs.laws.selectors_are_read_exactly.Goals as goal

pub returns : goal.returns
returns c source part selector = (
  λ reads. (derived (terms (map (solid source) part)) selector reads, read_keeps source part selector reads),
  λ both. read (terms (map (solid source) part)) selector both.0 both.1,
)
