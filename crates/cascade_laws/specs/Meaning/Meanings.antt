-- What kept items mean, by the winner of each alone.
use Rattle.std.specs.Prelude.{◌≡◌, List, [], ◌∷◌, map, Option}
use Rattle.std.specs.List.{filter}
use Rattle.std.specs.Option.{option_map}
use Rattle.css_model.specs.declared.sheet.Item.{Item}
use Rattle.css_model.specs.Cascade.Winner.{Declared, AppliedDeclaration, applied_by_kept, applied, greatest, Understood, is_understood, Winner, outcome, winner}
use Rattle.css_model.specs.Documents.Document.{Document, Target}

-- The winner of what one kept item means (own): the cascade over its list alone, in which a later entry
-- stands behind an earlier one.
abbrev pub winner_of : List Understood → List Declared → Option Winner
winner_of us meaning = option_map outcome (greatest (filter (is_understood us) (applied_by_kept 0 0 meaning)))

-- As many lists, each with the same winner as the other one in its place (own).
abbrev pub MeanAlike : List Understood → List (List Declared) → List (List Declared) → Type 0
MeanAlike us [] [] = Unit {0}
MeanAlike us [] (m' ∷ meanings') = ⊥
MeanAlike us (m ∷ meanings) [] = ⊥
MeanAlike us (m ∷ meanings) (m' ∷ meanings') = (winner_of us m ≡ winner_of us m') × MeanAlike us meanings meanings'

-- So a kept item counts by its winner alone: where each list is replaced by one with the same winner for
-- what is understood, the winner of the sheet stays.
abbrev pub MeaningsCountByWinners : Type 0
MeaningsCountByWinners = (doc : Document) (target : Target) (items : List Item) (us : List Understood) (meanings meanings' : List (List Declared)) →
    MeanAlike us meanings meanings' → winner doc target meanings items us ≡ winner doc target meanings' items us

-- an applied declaration without its place (own)
abbrev pub without_place : AppliedDeclaration → Declared
without_place e = record { decl = e.decl; specificity = e.specificity }

-- What a sheet applies to a target, as what a kept item means that holds it (own): by place, and within
-- one place by the order of the rule's selectors.
abbrev pub meaning_of_sheet : Document → Target → List (List Declared) → List Item → List Declared
meaning_of_sheet doc target meanings items = map without_place (applied doc target meanings items)

-- The winner of a kept item that means what a sheet applies is the winner of that sheet.
abbrev pub SheetMeansItsWinner : Type 0
SheetMeansItsWinner = (doc : Document) (target : Target) (items : List Item) (us : List Understood) (meanings : List (List Declared)) →
    winner_of us (meaning_of_sheet doc target meanings items) ≡ winner doc target meanings items us
