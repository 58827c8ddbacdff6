-- All hints of a pair.
use Rattle.cnf.specs.Cnf.{Cnf}
use Rattle.css_model.specs.Documents.SelectorParts.{SelectorParts}
use Rattle.formula_laws.specs.Counts.{Names, when}
use Rattle.formula_laws.specs.Distances.{with_distance_hints}
use Rattle.formula_laws.specs.Hints.{with_asked_hints}
use Rattle.formula_laws.specs.Refused.{with_refused_hints}
use Rattle.grid_laws.specs.Solved.{numbers_asked}

-- where a test of one of two selectors looks at a number of siblings
abbrev pub with_hints : SelectorParts → SelectorParts → Names → Cnf → Cnf
with_hints x y names = when (numbers_asked x y) (λ f. with_distance_hints x y names (with_refused_hints x y names (with_asked_hints x y names f)))
