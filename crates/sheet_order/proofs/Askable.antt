-- The selectors of what a step of a sheet reverses may be asked for.
use Rattle.std.proofs.Common.{◌≡◌, ℕ, zero, suc, Bool, true, List, [], ◌∷◌, map, Some, None, sym, ap, ap₂, ◌∙◌, subst}
use Rattle.std.specs.Prelude.{slice_get}
use Rattle.std.specs.List.{AllByRecursion}
use Rattle.cascade_laws.proofs.ForCallers.{some-same}
use Rattle.css_model.specs.declared.sheet.Item.{Item}
use Rattle.css_model.specs.declared.sheet.Item.TheVariants.{Rule}
use Rattle.css_model.specs.declared.sheet.SelItem.{SelItem}
use Rattle.css_model.specs.Cascade.Order.{Pair}
use Rattle.css_model.specs.Documents.SelectorParts.{SelectorParts}
use Rattle.css_model.specs.Selectors.Profile.{IsInProfile}
use Rattle.css_model.specs.Sheets.RuleParts.{RuleParts}
use Rattle.order_laws.specs.Edits.{Moved, Edit, edited}
use Rattle.order_laws.specs.Members.{has_number}
use Rattle.order_laws.specs.Places.{PlacedPair, StandsLast}
use Rattle.order_laws.specs.Reversed.{Other, AnotherPair, KeptAt, Reversal, reversed, IsReversedWith, ListedIsReversed}
use Rattle.overlap.specs.PairsParts.{PairsParts}
use Rattle.print_laws.specs.Profile.{HasSelectorsInProfile, SelectorsAreInProfile}
use Rattle.step_laws.specs.declared.step.Step.{Step}
use Rattle.step_laws.specs.declared.step.Step.TheVariants.{CutDecl, CutSel, JoinSelUp, JoinSelDown, JoinDeclUp, JoinDeclDown, Share}
use Rattle.step_laws.specs.Left.{PartsAreFew}
use Rattle.step_laws.specs.Steps.{IsStep}
use Rattle.sheet_order.specs.Allowing.{IsAskable, IsAskableOther, IsAllowed}
use Rattle.sheet_order.specs.declared.permitting.Allowed.{Allowed}
use Rattle.sheet_order.specs.Narrow.{CanBePlanned}
use Rattle.sheet_order.specs.Taking.{rule_in, moved_rule, moved_common, moved_in, moved_of}
use Rattle.sheet_order.proofs.Limited.{all_members}
use Rattle.sheet_order.proofs.NarrowEntries.{narrow_entry}

-- ---- Its selectors

selector_at : (selectors : List SelItem) (i : ℕ) (s : SelectorParts) → AllByRecursion (λ x. IsInProfile x.selector) selectors → slice_get (map (λ x. x.selector) selectors) i ≡ Some s → IsInProfile s
selector_at [] i s all at = absurd (let e : None ≡ Some s = at in cc)
selector_at (x ∷ selectors) zero s all at = subst IsInProfile (some-same at) all.0
selector_at (x ∷ selectors) (suc i) s all at = selector_at selectors i s all.1 at

rule_at : (items : List Item) (n : ℕ) (r : RuleParts) → AllByRecursion HasSelectorsInProfile items → slice_get items n ≡ Some (Rule r) → HasSelectorsInProfile (Rule r)
rule_at [] n r all at = absurd (let e : None ≡ Some (Rule r) = at in cc)
rule_at (item ∷ items) zero r all at = subst HasSelectorsInProfile (some-same at) all.0
rule_at (item ∷ items) (suc n) r all at = rule_at items n r all.1 at

pub pair_in_profile : (counts : ℕ → Bool) (items : List Item) (x : PlacedPair) → AllByRecursion HasSelectorsInProfile items → StandsLast counts items x → IsInProfile x.pair.selector
pair_in_profile counts items x all stands = selector_at stands.rule.selectors x.place.selector x.pair.selector (rule_at items x.place.item stands.rule all stands.rule_at) stands.selector_at

other_askable : (items items' : List Item) (m : Moved) (p : Pair) (o : Other) → AllByRecursion HasSelectorsInProfile items → IsReversedWith items items' m p o → IsAskableOther o
other_askable items items' m p (AnotherPair q) all is = pair_in_profile (λ n. true) items q all is.0
other_askable items items' m p (KeptAt n) all is = tt

pub all_askable : SelectorsAreInProfile → PartsAreFew → ListedIsReversed → (items items' : List Item) (m : Moved) → CanBePlanned items → AllByRecursion IsAskable (reversed items items' m)
all_askable profile few listed items items' m h = all_members IsAskable (reversed items items' m) (λ r g. askable r ((listed items items' m r).0 g))
  where
    all : AllByRecursion HasSelectorsInProfile items
    all = profile h.0 h.1.read.0 items h.1.read.1 h.1.sound

    askable : (r : Reversal) → StandsLast (has_number m.out_of) items r.moved × IsReversedWith items items' m r.moved.pair r.other → IsAskable r
    askable r is = record {
      narrow = narrow_entry few items items' m h r is;
      moved = pair_in_profile (has_number m.out_of) items r.moved all is.0;
      other = other_askable items items' m r.moved.pair r.other all is.1;
    }

-- ---- What a step moves

pub moved_is : (items : List Item) (k : Step) (e : Edit) → IsStep items k e → moved_in items (moved_of k) ≡ e.moved
moved_is items (CutDecl n i) e is = ap (λ item. moved_rule n (rule_in item)) is.rule_at ∙ ap (λ (d : Edit). d.moved) (sym is.is)
moved_is items (CutSel n i) e is = ap (λ item. moved_rule n (rule_in item)) is.rule_at ∙ ap (λ (d : Edit). d.moved) (sym is.is)
moved_is items (JoinSelUp x y) e is = ap (λ item. moved_rule y (rule_in item)) is.rules.lower_at ∙ ap (λ (d : Edit). d.moved) (sym is.is)
moved_is items (JoinSelDown x y) e is = ap (λ item. moved_rule x (rule_in item)) is.rules.upper_at ∙ ap (λ (d : Edit). d.moved) (sym is.is)
moved_is items (JoinDeclUp x y) e is = ap (λ item. moved_rule y (rule_in item)) is.rules.lower_at ∙ ap (λ (d : Edit). d.moved) (sym is.is)
moved_is items (JoinDeclDown x y) e is = ap (λ item. moved_rule x (rule_in item)) is.rules.upper_at ∙ ap (λ (d : Edit). d.moved) (sym is.is)
moved_is items (Share x y) e is = ap₂ (λ item another. moved_common x y (rule_in item) (rule_in another)) is.rules.upper_at is.rules.lower_at ∙ ap (λ (d : Edit). d.moved) (sym is.is)

pub allowed_is : (p : PairsParts) (items items' : List Item) (entries : List Reversal) (k : Step) (e : Edit) (a : Allowed) → IsStep items k e → items' ≡ edited e items →
    entries ≡ reversed items items' (moved_in items (moved_of k)) → IsAllowed p.answers entries a → IsAllowed p.answers (reversed items (edited e items) e.moved) a
allowed_is p items items' entries k e a is new list h = subst (λ (rs : List Reversal). IsAllowed p.answers rs a) (list ∙ ap₂ (λ (xs : List Item) (m : Moved). reversed items xs m) new (moved_is items k e is)) h
