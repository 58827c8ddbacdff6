-- What each selector of the profile keeps to.
use Rattle.css_model.specs.Documents.SelectorParts.{SelectorParts}
use Rattle.css_model.specs.Selectors.Profile.{IsInProfile}
use Rattle.selector_laws.specs.Limits.{KeepsLimits}

abbrev pub ProfileKeepsTheLimits : Type 0
ProfileKeepsTheLimits = (x : SelectorParts) → IsInProfile x → KeepsLimits x
