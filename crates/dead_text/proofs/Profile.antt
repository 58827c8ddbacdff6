-- The selectors of a sheet that is read are in the profile.
use Rattle.std.proofs.Common.{◌≡◌, ℕ, ◌+◌, List, [], ◌∷◌, ◌++◌, map, Ok}
use Rattle.std.specs.List.{AllByRecursion, enumerate_from, flat_map}
use Rattle.css_model.specs.declared.sheet.Item.{Item}
use Rattle.css_model.specs.declared.sheet.Item.TheVariants.{Rule, KeptRule, KeptBlock}
use Rattle.css_model.specs.declared.sheet.SelItem.{SelItem}
use Rattle.css_model.specs.Selectors.Profile.{IsInProfile}
use Rattle.css_model.specs.Sheets.Sheet.{sheet_of}
use Rattle.print_laws.specs.Profile.{HasSelectorsInProfile, SelectorsAreInProfile}
use Rattle.sheet_laws.specs.Reading.{ReadIsSound}
use Rattle.dead_text.specs.Listing.{NumberedSelector, numbered, numbered_selectors, selectors_in}

append : {X : Type 0} (P : X → Type 0) (xs ys : List X) → AllByRecursion P xs → AllByRecursion P ys → AllByRecursion P (xs ++ ys)
append P [] ys h g = g
append P (x ∷ xs) ys h g = (h.0, append P xs ys h.1 g)

of_rule : (item n : ℕ) (selectors : List SelItem) → AllByRecursion (λ s. IsInProfile s.selector) selectors →
    AllByRecursion (λ (s : NumberedSelector). IsInProfile s.selector) (map (numbered item) (enumerate_from n selectors))
of_rule item n [] h = tt
of_rule item n (s ∷ selectors) h = (h.0, of_rule item (n + 1) selectors h.1)

of_items : (n : ℕ) (items : List Item) → AllByRecursion HasSelectorsInProfile items →
    AllByRecursion (λ (s : NumberedSelector). IsInProfile s.selector) (flat_map selectors_in (enumerate_from n items))
of_items n [] h = tt
of_items n ((Rule r) ∷ items) h =
    append (λ (s : NumberedSelector). IsInProfile s.selector) (map (numbered n) (enumerate_from 1 r.selectors)) (flat_map selectors_in (enumerate_from (n + 1) items)) (of_rule n 1 r.selectors h.0) (of_items (n + 1) items h.1)
of_items n ((KeptRule kept) ∷ items) h = of_items (n + 1) items h.1
of_items n ((KeptBlock piece) ∷ items) h = of_items (n + 1) items h.1

pub numbered_in_profile : (items : List Item) → AllByRecursion HasSelectorsInProfile items → AllByRecursion (λ (s : NumberedSelector). IsInProfile s.selector) (numbered_selectors items)
numbered_in_profile items h = of_items 1 items h

pub read_in_profile : ReadIsSound → SelectorsAreInProfile → (source : List ℕ) (items : List Item) → sheet_of source ≡ Ok items → AllByRecursion HasSelectorsInProfile items
read_in_profile sound profile source items read = profile source items items read (sound source items read)
