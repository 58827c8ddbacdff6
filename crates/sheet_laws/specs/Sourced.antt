-- Items that come each from a source of its own, their printed text, and what stands for them in another text.
use Rattle.std.specs.Prelude.{ℕ, List, map}
use Rattle.std.specs.List.{AllZip, flat_map}
use Rattle.css_model.specs.declared.sheet.Item.{Item}
use Rattle.css_model.specs.Sheets.Printed.{behind_mark, printed_item}
use Rattle.sheet_laws.specs.Twins.{AreTwinItems}

-- An item with the source that its pieces are ranges of (own).
pub record SourcedItem : Type 0 where
  pub source : List ℕ
  pub item : Item

-- an item of this source
abbrev pub of_source : List ℕ → Item → SourcedItem
of_source source item = record { source = source; item = item }

-- items that are all of this source
abbrev pub all_of_source : List ℕ → List Item → List SourcedItem
all_of_source source items = map (of_source source) items

-- such items without their sources
abbrev pub items_of : List SourcedItem → List Item
items_of xs = map (λ x. x.item) xs

-- the printed text of such an item
abbrev pub sourced_text : SourcedItem → List ℕ
sourced_text x = printed_item x.source x.item

-- The printed text of such items, with nothing between them (own).
abbrev pub printed_sourced : List SourcedItem → List ℕ
printed_sourced xs = behind_mark (flat_map sourced_text xs)

-- an item of this text is the twin of such an item
abbrev pub IsTwinOfSourced : List ℕ → SourcedItem → Item → Type 0
IsTwinOfSourced text x item = AreTwinItems x.source text x.item item

-- Items of one text are the twins of such items, one by one (own).
abbrev pub AreTwinsOfSourced : List ℕ → List SourcedItem → List Item → Type 0
AreTwinsOfSourced text xs items = AllZip (IsTwinOfSourced text) xs items
