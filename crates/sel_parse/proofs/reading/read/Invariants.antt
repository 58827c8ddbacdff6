use Rattle.std.proofs.Common.{◌≡◌, ◌+◌, ◌≤◌, length}
use Rattle.css_model.specs.Selectors.Reading.{read_from, selector_of_terms}
use Rattle.css_model.specs.Selectors.Terms.{terms_from}
use Rattle.sel_parse.proofs.reading.read.Given as goal

-- what is still to be read, and how many positions can be counted
abbrev pub invariant-terms : goal.invariant-terms
invariant-terms l = record {
  read : read_from l.state l.gap l.left l.rest ≡ selector_of_terms (terms_from 0 0 l.tokens);
  few : l.state.stepped + length l.rest ≤ length l.tokens;
}

abbrev pub decreases-terms : goal.decreases-terms
decreases-terms l = length l.rest
