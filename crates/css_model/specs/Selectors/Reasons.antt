-- The numbers by which the reasons are shown for which a selector text is outside the profile (own).
use Rattle.std.specs.Prelude.{ℕ}
use Rattle.css_model.specs.declared.reason.Reason.{Reason}
use Rattle.css_model.specs.declared.reason.Reason.TheVariants as reason

abbrev pub number_of : Reason → ℕ
number_of reason.PseudoClass = 1
number_of reason.PseudoElement = 2
number_of reason.Namespace = 3
number_of reason.CaseFlag = 4
number_of reason.IdTest = 5
number_of reason.TooManyCompounds = 6
number_of reason.TooManySimples = 7
number_of reason.PositionOutOfRange = 8
number_of reason.TooManyStepped = 9
number_of reason.NotAllowed = 10
