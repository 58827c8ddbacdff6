-- The selectors of a sheet that is read are in the profile.
use Rattle.std.proofs.Common.{◌≡◌, ℕ, List, [], ◌∷◌, ◌++◌, map, Ok}
use Rattle.std.specs.List.{AllByRecursion}
use Rattle.css_model.specs.declared.sheet.Item.{Item}
use Rattle.css_model.specs.declared.sheet.Item.TheVariants.{Rule, KeptRule, KeptBlock}
use Rattle.css_model.specs.declared.sheet.SelItem.{SelItem}
use Rattle.css_model.specs.Documents.SelectorParts.{SelectorParts}
use Rattle.css_model.specs.Selectors.Profile.{IsInProfile}
use Rattle.css_model.specs.Sheets.Sheet.{sheet_of}
use Rattle.print_laws.specs.Profile.{HasSelectorsInProfile, SelectorsAreInProfile}
use Rattle.sheet_laws.specs.Reading.{ReadIsSound}
use Rattle.bench_counts.specs.Asking.{selectors_of}

of_rule : (selectors : List SelItem) (more : List SelectorParts) → AllByRecursion (λ s. IsInProfile s.selector) selectors → AllByRecursion IsInProfile more →
    AllByRecursion IsInProfile (map (λ (s : SelItem). s.selector) selectors ++ more)
of_rule [] more h g = g
of_rule (s ∷ selectors) more h g = (h.0, of_rule selectors more h.1 g)

of_items : (items : List Item) → AllByRecursion HasSelectorsInProfile items → AllByRecursion IsInProfile (selectors_of items)
of_items [] h = tt
of_items ((Rule r) ∷ items) h = of_rule r.selectors (selectors_of items) h.0 (of_items items h.1)
of_items ((KeptRule kept) ∷ items) h = of_items items h.1
of_items ((KeptBlock piece) ∷ items) h = of_items items h.1

pub read_in_profile : ReadIsSound → SelectorsAreInProfile → (source : List ℕ) (items : List Item) → sheet_of source ≡ Ok items → AllByRecursion IsInProfile (selectors_of items)
read_in_profile sound profile source items read = of_items items (profile source items items read (sound source items read))
