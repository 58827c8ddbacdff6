-- The two forms of matching agree (Selectors 3).
use Rattle.std.specs.Prelude.{◌↔◌, ℕ, IsTrue, List}
use Rattle.css_model.specs.declared.selector.Op.{Op}
use Rattle.css_model.specs.Documents.Attribute.{Passes, passes}
use Rattle.css_model.specs.Documents.Document.{Document, Target}
use Rattle.css_model.specs.Documents.Matching.{Matches, matches}
use Rattle.css_model.specs.Documents.SelectorParts.{SelectorParts}

-- the two forms of the attribute tests agree
abbrev pub PassingIsDecided : Type 0
PassingIsDecided = (op : Op) (v value : List ℕ) → IsTrue (passes op v value) ↔ Passes op v value

-- the two forms of matching agree
abbrev pub MatchingIsDecided : Type 0
MatchingIsDecided = (doc : Document) (target : Target) (selector : SelectorParts) → IsTrue (matches doc target selector) ↔ Matches doc target selector
