-- Items that are all of one source, as items that come each from a source of its own.
use Rattle.std.specs.Prelude.{◌≡◌, ℕ, List, [], ◌∷◌, ◌++◌, map}
use Rattle.std.specs.List.{AllByRecursion, flat_map}
use Rattle.std.proofs.Common.{refl, ap}
use Rattle.css_model.specs.declared.sheet.Item.{Item}
use Rattle.css_model.specs.Sheets.Printed.{printed_item}
use Rattle.css_model.specs.Sheets.Spelling.{all_content, content, Content}
use Rattle.sheet_laws.specs.Sourced.{AreTwinsOfSourced, SourcedItem, all_of_source, items_of, of_source, sourced_text}
use Rattle.sheet_laws.specs.Twins.{AreTwins}
use Rattle.sheet_laws.proofs.Printed.Contents.{sourced_content}

pub content_of_source : (source : List ℕ) (its : List Item) → map sourced_content (all_of_source source its) ≡ all_content source its
content_of_source source [] = refl
content_of_source source (item ∷ its) = ap (λ (said : List Content). content source item ∷ said) (content_of_source source its)

pub text_of_source : (source : List ℕ) (its : List Item) → flat_map sourced_text (all_of_source source its) ≡ flat_map (printed_item source) its
text_of_source source [] = refl
text_of_source source (item ∷ its) = ap (λ (text : List ℕ). printed_item source item ++ text) (text_of_source source its)

pub items_of_source : (source : List ℕ) (its : List Item) → items_of (all_of_source source its) ≡ its
items_of_source source [] = refl
items_of_source source (item ∷ its) = ap (λ (rest : List Item). item ∷ rest) (items_of_source source its)

pub twins_of_source : (source text : List ℕ) (its read : List Item) → AreTwinsOfSourced text (all_of_source source its) read → AreTwins source text its read
twins_of_source source text [] [] z = tt
twins_of_source source text [] (item ∷ read) z = absurd z
twins_of_source source text (item ∷ its) [] z = absurd z
twins_of_source source text (item ∷ its) (again ∷ read) (one, rest) = (one, twins_of_source source text its read rest)

pub each_of_source : (P : SourcedItem → Type 0) (source : List ℕ) (its : List Item) → AllByRecursion (λ item. P (of_source source item)) its → AllByRecursion P (all_of_source source its)
each_of_source P source [] each = tt
each_of_source P source (item ∷ its) (one, rest) = (one, each_of_source P source its rest)
