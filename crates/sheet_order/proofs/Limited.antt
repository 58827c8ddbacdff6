-- The selectors of the pairs of a sound sheet keep the limits.
use Rattle.std.proofs.Common.{◌≡◌, ℕ, zero, suc, Bool, List, [], ◌∷◌, map, Some, None, refl, sym, ap, ◌∙◌, subst}
use Rattle.std.specs.Prelude.{Result, Ok, Err, slice_get}
use Rattle.std.specs.List.{AllByRecursion, Contains}
use Rattle.cascade_laws.proofs.ForCallers.{some-same}
use Rattle.css_model.specs.declared.reason.Reason.{Reason}
use Rattle.css_model.specs.declared.sheet.Item.{Item}
use Rattle.css_model.specs.declared.sheet.Item.TheVariants.{Rule, KeptRule, KeptBlock}
use Rattle.css_model.specs.declared.sheet.SelItem.{SelItem}
use Rattle.css_model.specs.Documents.SelectorParts.{SelectorParts}
use Rattle.css_model.specs.Selectors.Reading.{selector_of_lexemes}
use Rattle.css_model.specs.Sheets.RuleParts.{RuleParts}
use Rattle.css_model.specs.Sheets.Selectors.{with_piece}
use Rattle.css_model.specs.Sheets.Sound.{IsSound, IsSoundSelector}
use Rattle.css_model.specs.Text.Lexemes.{piece_of}
use Rattle.list_facts.proofs.Members.{Contains-here, Contains-there, Contains-filter}
use Rattle.order_laws.specs.Edits.{Moved, is_moved}
use Rattle.order_laws.specs.Members.{has_number}
use Rattle.order_laws.specs.Places.{PlacedPair, StandsLast, last_pairs_from, ListedStandsLast}
use Rattle.order_laws.specs.Reversed.{moved_pairs}
use Rattle.selector_laws.specs.Limits.{KeepsLimits, ReadSelectorsKeepTheLimits}
use Rattle.sheet_order.specs.Narrow.{CanBePlanned, HasLimits}

-- what holds of each member
pub all_members : {X : Type 0} (P : X → Type 0) (xs : List X) → ((x : X) → Contains xs x → P x) → AllByRecursion P xs
all_members P [] h = tt
all_members P (x ∷ xs) h = (h x (Contains-here x xs), all_members P xs (λ y g. h y (Contains-there x xs y g)))

-- ---- Of a sheet

abbrev selector_or : SelectorParts → Result SelItem Reason → SelectorParts
selector_or other (Ok s) = s.selector
selector_or other (Err reason) = other

selector_limited : ReadSelectorsKeepTheLimits → (source : List ℕ) (s : SelItem) → IsSoundSelector source s → KeepsLimits s.selector
selector_limited law source s sound = which (selector_of_lexemes source sound.part) refl
  where
    which : (r : Result SelectorParts Reason) → selector_of_lexemes source sound.part ≡ r → KeepsLimits s.selector
    which (Ok selector) e =
        let is : with_piece (piece_of sound.part) (Ok selector) ≡ Ok s = ap (with_piece (piece_of sound.part)) (sym e) ∙ sound.reads in
        subst KeepsLimits (ap (selector_or s.selector) is) (law source sound.part selector e)
    which (Err reason) e =
        let is : with_piece (piece_of sound.part) (Err reason) ≡ Ok s = ap (with_piece (piece_of sound.part)) (sym e) ∙ sound.reads in
        absurd (let f = is in cc)

selectors_limited : ReadSelectorsKeepTheLimits → (source : List ℕ) (selectors : List SelItem) → AllByRecursion (IsSoundSelector source) selectors → AllByRecursion (λ s. KeepsLimits s.selector) selectors
selectors_limited law source [] sound = tt
selectors_limited law source (s ∷ selectors) sound = (selector_limited law source s sound.0, selectors_limited law source selectors sound.1)

items_limited : ReadSelectorsKeepTheLimits → (source : List ℕ) (items : List Item) → IsSound source items → AllByRecursion HasLimits items
items_limited law source [] sound = tt
items_limited law source (Rule r ∷ items) sound = (selectors_limited law source r.selectors sound.0.selectors, items_limited law source items sound.1)
items_limited law source (KeptRule kept ∷ items) sound = (tt, items_limited law source items sound.1)
items_limited law source (KeptBlock piece ∷ items) sound = (tt, items_limited law source items sound.1)

pub planned_limited : ReadSelectorsKeepTheLimits → (items : List Item) → CanBePlanned items → AllByRecursion HasLimits items
planned_limited law items h = items_limited law h.0 items h.1.sound

-- ---- Of its pairs

selector_at : (selectors : List SelItem) (i : ℕ) (s : SelectorParts) → AllByRecursion (λ x. KeepsLimits x.selector) selectors → slice_get (map (λ x. x.selector) selectors) i ≡ Some s → KeepsLimits s
selector_at [] i s all at = absurd (let e : None ≡ Some s = at in cc)
selector_at (x ∷ selectors) zero s all at = subst KeepsLimits (some-same at) all.0
selector_at (x ∷ selectors) (suc i) s all at = selector_at selectors i s all.1 at

rule_at : (items : List Item) (n : ℕ) (r : RuleParts) → AllByRecursion HasLimits items → slice_get items n ≡ Some (Rule r) → HasLimits (Rule r)
rule_at [] n r all at = absurd (let e : None ≡ Some (Rule r) = at in cc)
rule_at (item ∷ items) zero r all at = subst HasLimits (some-same at) all.0
rule_at (item ∷ items) (suc n) r all at = rule_at items n r all.1 at

pair_limited : (counts : ℕ → Bool) (items : List Item) (x : PlacedPair) → AllByRecursion HasLimits items → StandsLast counts items x → KeepsLimits x.pair.selector
pair_limited counts items x all stands = selector_at stands.rule.selectors x.place.selector x.pair.selector (rule_at items x.place.item stands.rule all stands.rule_at) stands.selector_at

pub last_limited : ListedStandsLast → (counts : ℕ → Bool) (items : List Item) → AllByRecursion HasLimits items → AllByRecursion (λ q. KeepsLimits q.pair.selector) (last_pairs_from counts 0 items)
last_limited law counts items all = all_members (λ q. KeepsLimits q.pair.selector) (last_pairs_from counts 0 items) (λ x h. pair_limited counts items x all ((law counts items x).0 h))

pub moved_limited : ListedStandsLast → (items : List Item) (m : Moved) → AllByRecursion HasLimits items → AllByRecursion (λ q. KeepsLimits q.pair.selector) (moved_pairs items m)
moved_limited law items m all =
    all_members (λ q. KeepsLimits q.pair.selector) (moved_pairs items m)
    (λ x h. pair_limited (has_number m.out_of) items x all ((law (has_number m.out_of) items x).0 (Contains-filter (λ p. is_moved m p.pair) (last_pairs_from (has_number m.out_of) 0 items) x h).0))
