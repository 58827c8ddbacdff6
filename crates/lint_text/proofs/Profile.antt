-- The selectors of a sheet that is read, and of the bodies of its opened blocks, are in the profile.
use Rattle.std.proofs.Common.{◌≡◌, ℕ, List, [], ◌∷◌, ◌++◌, map, Ok}
use Rattle.std.specs.List.{AllByRecursion, Contains, flat_map}
use Rattle.std.proofs.lemmas.List.Elements.{All-contains, All-from_recursion}
use Rattle.css_model.specs.declared.sheet.Item.{Item}
use Rattle.css_model.specs.declared.sheet.Item.TheVariants.{Rule, KeptRule, KeptBlock}
use Rattle.css_model.specs.declared.sheet.SelItem.{SelItem}
use Rattle.css_model.specs.Documents.SelectorParts.{SelectorParts}
use Rattle.css_model.specs.Selectors.Profile.{IsInProfile}
use Rattle.css_model.specs.Sheets.Sheet.{sheet_of}
use Rattle.css_model.specs.Text.Source.{text_at}
use Rattle.media_groups.specs.declared.media.Media.{Media}
use Rattle.media_groups.specs.Laws.{IsBlockOf, OpenedBlocksAreSheets}
use Rattle.media_groups.specs.Opened.{opened_of}
use Rattle.print_laws.specs.Profile.{HasSelectorsInProfile, SelectorsAreInProfile}
use Rattle.sheet_laws.specs.Reading.{ReadIsSound}
use Rattle.lint_text.specs.Asking.{all_selectors, selectors_in}

append : (xs ys : List SelectorParts) → AllByRecursion IsInProfile xs → AllByRecursion IsInProfile ys → AllByRecursion IsInProfile (xs ++ ys)
append [] ys h g = g
append (x ∷ xs) ys h g = (h.0, append xs ys h.1 g)

of_rule : (selectors : List SelItem) → AllByRecursion (λ s. IsInProfile s.selector) selectors → AllByRecursion IsInProfile (map (λ s. s.selector) selectors)
of_rule [] h = tt
of_rule (s ∷ selectors) h = (h.0, of_rule selectors h.1)

of_items : (items : List Item) → AllByRecursion HasSelectorsInProfile items → AllByRecursion IsInProfile (flat_map selectors_in items)
of_items [] h = tt
of_items (Rule r ∷ items) h = append (map (λ (s : SelItem). s.selector) r.selectors) (flat_map selectors_in items) (of_rule r.selectors h.0) (of_items items h.1)
of_items (KeptRule kept ∷ items) h = of_items items h.1
of_items (KeptBlock piece ∷ items) h = of_items items h.1

of_sheet : SelectorsAreInProfile → ReadIsSound → (source : List ℕ) (items : List Item) → sheet_of source ≡ Ok items → AllByRecursion IsInProfile (flat_map selectors_in items)
of_sheet profile sound source items read = of_items items (profile source items items read (sound source items read))

of_blocks : SelectorsAreInProfile → ReadIsSound → (source : List ℕ) (media : List Media) → AllByRecursion (IsBlockOf source) media →
    AllByRecursion IsInProfile (flat_map (λ m. flat_map selectors_in m.sheet.items) media)
of_blocks profile sound source [] h = tt
of_blocks profile sound source (m ∷ media) h =
    append (flat_map selectors_in m.sheet.items) (flat_map (λ (x : Media). flat_map selectors_in x.sheet.items) media)
    (of_sheet profile sound (text_at source m.body) m.sheet.items h.0.reads) (of_blocks profile sound source media h.1)

pub all_in_profile : SelectorsAreInProfile → ReadIsSound → OpenedBlocksAreSheets → (source : List ℕ) (items : List Item) → sheet_of source ≡ Ok items → AllByRecursion IsInProfile (all_selectors source items)
all_in_profile profile sound blocks source items read =
    append (flat_map selectors_in items) (flat_map (λ (x : Media). flat_map selectors_in x.sheet.items) (opened_of items source))
    (of_sheet profile sound source items read) (of_blocks profile sound source (opened_of items source) (blocks source items))

-- so is each of them
pub each_in_profile : SelectorsAreInProfile → ReadIsSound → OpenedBlocksAreSheets → (source : List ℕ) (items : List Item) → sheet_of source ≡ Ok items → (s : SelectorParts) →
    Contains (all_selectors source items) s → IsInProfile s
each_in_profile profile sound blocks source items read s among =
    All-contains IsInProfile (all_selectors source items) s (All-from_recursion IsInProfile (all_selectors source items) (all_in_profile profile sound blocks source items read)) among
