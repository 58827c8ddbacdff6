-- A sheet that can be planned may be asked and named.
use Rattle.std.proofs.Common.{◌≡◌, ℕ, zero, suc, ◌+◌, ◌≤◌, List, [], ◌∷◌, length, get_or, Some, None, ap, subst, arith}
use Rattle.std.specs.Prelude.{slice_get}
use Rattle.std.specs.List.{All, AllByRecursion, Contains}
use Rattle.std.proofs.lemmas.List.Elements.{All-contains_itself}
use Rattle.cascade_laws.proofs.ForCallers.{some-same}
use Rattle.css_model.specs.declared.sheet.Item.{Item}
use Rattle.css_model.specs.declared.sheet.Item.TheVariants.{Rule, KeptRule, KeptBlock}
use Rattle.css_model.specs.declared.sheet.SelItem.{SelItem}
use Rattle.css_model.specs.Selectors.Profile.{IsInProfile}
use Rattle.css_model.specs.Sheets.RuleParts.{RuleParts}
use Rattle.list_facts.proofs.Elements.{member}
use Rattle.print_laws.specs.Profile.{HasSelectorsInProfile, SelectorsAreInProfile}
use Rattle.sheet_order.specs.Narrow.{CanBePlanned}
use Rattle.step_laws.specs.Left.{PartsAreFew}
use Rattle.step_laws.specs.Sizes.{part_count, size}
use Rattle.step_obstacles.specs.Turns.{IsAskable}

-- the parts of a rule are among those of the sheet
parts_below : (items : List Item) (n : ℕ) (r : RuleParts) → slice_get items n ≡ Some (Rule r) → length r.selectors + length r.decls ≤ part_count items
parts_below [] n r at = absurd (let e : None ≡ Some (Rule r) = at in cc)
parts_below (Rule q ∷ items) zero r at = let e : part_count (Rule q ∷ []) ≡ part_count (Rule r ∷ []) = ap (λ (item : Item). part_count (item ∷ [])) (some-same at) in omega (arith, e)
parts_below (KeptRule kept ∷ items) zero r at = absurd (let e : KeptRule kept ≡ Rule r = some-same at in cc)
parts_below (KeptBlock piece ∷ items) zero r at = absurd (let e : KeptBlock piece ≡ Rule r = some-same at in cc)
parts_below (Rule q ∷ items) (suc n) r at = let h = parts_below items n r at in omega (arith, h)
parts_below (KeptRule kept ∷ items) (suc n) r at = parts_below items n r at
parts_below (KeptBlock piece ∷ items) (suc n) r at = parts_below items n r at

rule_in : (items : List Item) (n : ℕ) (r : RuleParts) → AllByRecursion HasSelectorsInProfile items → slice_get items n ≡ Some (Rule r) → HasSelectorsInProfile (Rule r)
rule_in [] n r all at = absurd (let e : None ≡ Some (Rule r) = at in cc)
rule_in (item ∷ items) zero r all at = subst HasSelectorsInProfile (some-same at) all.0
rule_in (item ∷ items) (suc n) r all at = rule_in items n r all.1 at

pub askable : PartsAreFew → SelectorsAreInProfile → (items : List Item) → CanBePlanned items → IsAskable items
askable few profile items h = record {
  few = let f = h.1.few_items in omega (arith, f);
  selectors = λ n r at. let a = parts_below items n r at in let b = few_parts in let c = h.1.short in omega (arith, a, b, c);
  decls = λ n r at. let a = parts_below items n r at in let b = few_parts in let c = h.1.short in omega (arith, a, b, c);
  profile = λ n r s at inside. member (λ x. IsInProfile x.selector) r.selectors s (rule_in items n r (profile h.0 h.1.read.0 items h.1.read.1 h.1.sound) at) inside;
}
  where
    few_parts : part_count items ≤ size h.0 items
    few_parts = few h.0 items h.1.sound

-- all selectors of a rule of such a sheet are in the profile
pub all_in_profile : (items : List Item) (n : ℕ) (r : RuleParts) (selectors : List SelItem) → IsAskable items → slice_get items n ≡ Some (Rule r) → selectors ≡ r.selectors → All (λ s. IsInProfile s.selector) selectors
all_in_profile items n r selectors h at is k d less =
    h.profile n r (get_or selectors k d) at (subst (λ (xs : List SelItem). Contains xs (get_or selectors k d)) is (All-contains_itself selectors k d less))
