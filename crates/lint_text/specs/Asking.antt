-- Which selectors of a sheet are asked for, and what is held then (own).
use Rattle.std.specs.Prelude.{◌≡◌, ℕ, List, [], ◌++◌, Result, Ok, Err}
use Rattle.std.specs.List.{All, Contains, flat_map}
use Rattle.css_model.specs.declared.fault.SheetFault.{SheetFault}
use Rattle.css_model.specs.declared.sheet.Item.{Item}
use Rattle.css_model.specs.declared.sheet.Item.TheVariants.{Rule, KeptRule, KeptBlock}
use Rattle.css_model.specs.Documents.SelectorParts.{SelectorParts}
use Rattle.css_model.specs.Sheets.StyleRule.{selectors_of}
use Rattle.dead_sel.specs.Living.{every}
use Rattle.media_groups.specs.Opened.{opened_of}
use Rattle.overlap.specs.PairsParts.{Answered, PairsParts}
use Rattle.overlap.specs.Remembered.{IsHeld}

-- the selectors of a style rule, and none of what is kept
abbrev pub selectors_in : Item → List SelectorParts
selectors_in (Rule r) = selectors_of r
selectors_in (KeptRule kept) = []
selectors_in (KeptBlock piece) = []

-- the selectors of the style rules of a sheet, and those in the bodies of its opened blocks
abbrev pub all_selectors : (text : List ℕ) → (items : List Item) → List SelectorParts
all_selectors text items = flat_map selectors_in items ++ flat_map (λ m. flat_map selectors_in m.sheet.items) (opened_of items text)

-- an answer for one of these selectors and `*` with its pseudo-element
abbrev pub IsOfOne : List SelectorParts → Answered → Type 0
IsOfOne selectors e = (s : SelectorParts) × Contains selectors s × (e.left ≡ s) × (e.right ≡ every s.pseudo)

-- what is held once selectors were asked for: the earlier answers, and then only answers for these
pub record AsksEach (old new : PairsParts) (selectors : List SelectorParts) : Type 0 where
  pub budget : new.budget ≡ old.budget
  pub more : List Answered
  pub is : new.answers ≡ old.answers ++ more
  pub only : All (IsOfOne selectors) more

-- an answer is held for each of these selectors and `*`
abbrev pub AreHeld : List Answered → List SelectorParts → Type 0
AreHeld answers selectors = All (λ s. IsHeld answers s (every s.pseudo)) selectors

-- the selectors of a sheet are asked for, and nothing where it has a fault
abbrev pub AsksOf : (text : List ℕ) → Result (List Item) SheetFault → (old new : PairsParts) → Type 0
AsksOf text (Ok items) old new = AsksEach old new (all_selectors text items)
AsksOf text (Err fault) old new = new ≡ old
