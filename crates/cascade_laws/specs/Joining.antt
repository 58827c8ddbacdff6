-- What keeps every winner.
use Rattle.std.specs.Prelude.{◌≡◌, List, ◌∷◌, ◌++◌, map}
use Rattle.css_model.specs.declared.sheet.Item.{Item}
use Rattle.css_model.specs.declared.sheet.Item.TheVariants.{Rule}
use Rattle.css_model.specs.Cascade.Winner.{Declared, applied, Understood, outcome, winner}
use Rattle.css_model.specs.Documents.Document.{Document, Target}
use Rattle.css_model.specs.Sheets.RuleParts.{RuleParts}
use Rattle.css_model.specs.Sheets.StyleRule.{selectors_of, HaveSameSelectors, joined}
use Rattle.css_model.specs.Cascade.Alike.{SameButPieces, ApplyAlike, WinAlike}

-- The winner depends on what applies and on its order of appearance alone: the same entries in the
-- same order, at whatever places, have the same winner.
abbrev pub OrderDecidesWinner : Type 0
OrderDecidesWinner = (doc doc' : Document) (target target' : Target) (meanings meanings' : List (List Declared)) (items items' : List Item) (us : List Understood) →
    map outcome (applied doc target meanings items) ≡ map outcome (applied doc' target' meanings' items') →
    winner doc target meanings items us ≡ winner doc' target' meanings' items' us

-- so what applies alike wins alike
abbrev pub AlikeWinsAlike : Type 0
AlikeWinsAlike = (items items' : List Item) → ApplyAlike items items' → WinAlike items items'

-- an item before both lists changes nothing: with the law of joining this serves an induction over a sheet
abbrev pub AlikeBehindAnItem : Type 0
AlikeBehindAnItem = (item : Item) (items items' : List Item) → ApplyAlike items items' → ApplyAlike (item ∷ items) (item ∷ items')

-- so pieces of a source change nothing; what kept items mean is given beside them
abbrev pub PiecesDoNotCount : Type 0
PiecesDoNotCount = (items items' : List Item) → SameButPieces items items' → ApplyAlike items items'

-- two neighbouring rules with equal selectors apply the same when they are joined
abbrev pub JoiningAppliesAlike : Type 0
JoiningAppliesAlike = (before after : List Item) (upper lower : RuleParts) → selectors_of upper ≡ selectors_of lower →
    ApplyAlike (before ++ Rule upper ∷ Rule lower ∷ after) (before ++ Rule (joined upper lower) ∷ after)

-- so joining them keeps every winner
abbrev pub JoiningKeepsWinners : Type 0
JoiningKeepsWinners = (before after : List Item) (upper lower : RuleParts) → selectors_of upper ≡ selectors_of lower →
    WinAlike (before ++ Rule upper ∷ Rule lower ∷ after) (before ++ Rule (joined upper lower) ∷ after)

-- joining two neighbours with the same set of selectors keeps every winner
abbrev pub JoiningASetKeepsWinners : Type 0
JoiningASetKeepsWinners = (before after : List Item) (upper lower : RuleParts) → HaveSameSelectors upper lower →
    WinAlike (before ++ Rule upper ∷ Rule lower ∷ after) (before ++ Rule (joined upper lower) ∷ after)
