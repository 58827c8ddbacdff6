-- All hints of a pair, where some test looks at a number of siblings.
use Rattle.cnf.specs.Cnf.{Cnf}
use Rattle.css_model.specs.Documents.SelectorParts.{SelectorParts}
use Rattle.formula_laws.specs.Counts.{Names}
use Rattle.formula_laws.specs.Distances.{with_distance_hints}
use Rattle.formula_laws.specs.Hints.{with_asked_hints}
use Rattle.formula_laws.specs.Refused.{with_refused_hints}

-- one kind of hints after the other
abbrev pub all_hints : SelectorParts → SelectorParts → Names → Cnf → Cnf
all_hints x y names f = with_distance_hints x y names (with_refused_hints x y names (with_asked_hints x y names f))
