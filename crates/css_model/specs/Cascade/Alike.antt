-- Lists of items that apply alike, and that win alike.
use Rattle.std.specs.Prelude.{◌≡◌, List, [], ◌∷◌, map}
use Rattle.css_model.specs.declared.sheet.Item.{Item}
use Rattle.css_model.specs.declared.sheet.Item.TheVariants.{Rule, KeptRule, KeptBlock}
use Rattle.css_model.specs.Cascade.Winner.{Declared, Understood, applied, outcome, winner}
use Rattle.css_model.specs.Documents.Document.{Document, Target}
use Rattle.css_model.specs.Sheets.StyleRule.{style_rule}

-- Two lists of items apply the same to every target of every document, legal or not, up to places,
-- whatever the kept items mean. The kept items of both are taken to mean the same, one by one: that
-- they are the same has to be shown apart.
abbrev pub ApplyAlike : List Item → List Item → Type 0
ApplyAlike items items' = (doc : Document) (target : Target) (meanings : List (List Declared)) →
    map outcome (applied doc target meanings items) ≡ map outcome (applied doc target meanings items')

-- Two lists of items have the same winners, whatever the kept items mean and whatever is understood.
abbrev pub WinAlike : List Item → List Item → Type 0
WinAlike items items' = (doc : Document) (target : Target) (meanings : List (List Declared)) (us : List Understood) →
    winner doc target meanings items us ≡ winner doc target meanings items' us

-- the same rules, and kept items of the same kinds between them, whatever these are
abbrev pub SameButPieces : List Item → List Item → Type 0
SameButPieces [] [] = Unit {0}
SameButPieces (Rule r ∷ items) (Rule r' ∷ items') = (style_rule r ≡ style_rule r') × SameButPieces items items'
SameButPieces (KeptRule k ∷ items) (KeptRule k' ∷ items') = SameButPieces items items'
SameButPieces (KeptBlock p ∷ items) (KeptBlock p' ∷ items') = SameButPieces items items'
SameButPieces _ _ = ⊥
