use Rattle.std.proofs.Common.{◌≡◌, ℕ, Bool, List, Some, sym, ap, ◌∙◌, subst}
use Rattle.std.specs.Prelude.{slice_get}
use Rattle.std.proofs.lemmas.Bool.{false≢true}
use Rattle.cascade_laws.proofs.ForCallers.{some-same}
use Rattle.css_model.specs.declared.selector.Specificity.{Specificity}
use Rattle.css_model.specs.declared.sheet.SelItem.{SelItem}
use Rattle.css_model.specs.Documents.Specificity.{specificity_of}
use Rattle.item_masks.specs.Masks.{selector_mask}
use Rattle.step_obstacles.proofs.Masked.{at_map, pair_masked}
use Rattle.step_obstacles.proofs.Named.{blocks_named, in_profile, noted_as_stands, pair, passes_named, passes_unlike, stands_as_noted}
use Rattle.step_obstacles.proofs.searching.of_selector.Goals as goal
use Rattle.step_obstacles.specs.Blocked.{IsTold}
use Rattle.step_obstacles.specs.Turns.{MayWeigh, hindrance_of, selector_masks_of, specificities_of}

-- the specificity of a number is that of the selector of this number
specificity_there : (list : List Specificity) (selectors : List SelItem) (n : ℕ) (x : SelItem) → list ≡ specificities_of selectors → slice_get selectors n ≡ Some x → slice_get list n ≡ Some (specificity_of x.selector)
specificity_there list selectors n x is at = at_map (λ (y : SelItem). specificity_of y.selector) selectors list n x is at

specificity_is : (list : List Specificity) (selectors : List SelItem) (n : ℕ) (x : SelItem) → list ≡ specificities_of selectors → slice_get selectors n ≡ Some x → (k : Specificity) → slice_get list n ≡ Some k → k ≡ specificity_of x.selector
specificity_is list selectors n x is at k k_at = some-same (sym k_at ∙ specificity_there list selectors n x is at)

mask_there : (list : List ℕ) (selectors : List SelItem) (n : ℕ) (x : SelItem) → list ≡ selector_masks_of selectors → slice_get selectors n ≡ Some x → slice_get list n ≡ Some (selector_mask x.selector)
mask_there list selectors n x is at = at_map (λ (y : SelItem). selector_mask y.selector) selectors list n x is at

pub mask_at-requires : goal.mask_at-requires
mask_at-requires c =
    let x = c.requires.number in
    (selector_mask x.0.selector, mask_there c.args.moved.now.selectors.now c.args.moved.now.at.rule.now.selectors c.args.number x.0 c.requires.moved.selectors x.1)

pub invariant_of-p-inside : goal.invariant_of-p-inside
invariant_of-p-inside c =
    let x = c.requires.number in
    let there = mask_there c.args.moved.now.selectors.now c.args.moved.now.at.rule.now.selectors c.args.number x.0 c.requires.moved.selectors x.1 in
    let own : c.mask_at.result ≡ selector_mask c.selector_of.result.now = some-same (sym c.mask_at.ensures ∙ there) ∙ ap selector_mask (sym (c.selector_of.ensures x.0 x.1)) in
    (pair_masked c.selector_of.result.now c.args.moved.now.at.decl.now c.args.moved.now.at.mask c.mask_at.result c.requires.moved.at.masked own, tt)

pub specificity_at-requires : goal.specificity_at-requires
specificity_at-requires c =
    let x = c.requires.number in
    (specificity_of x.0.selector, specificity_there c.args.moved.now.specificities.now c.args.moved.now.at.rule.now.selectors c.args.number x.0 c.requires.moved.specificities x.1)

pub returns-then-not-may_weigh-clause-told : goal.returns-then-not-may_weigh-clause-told
returns-then-not-may_weigh-clause-told c = λ x at.
    let k_is = specificity_is c.args.moved.now.specificities.now c.args.moved.now.at.rule.now.selectors c.args.number x c.requires.moved.specificities at c.specificity_at.result c.specificity_at.ensures in
    passes_unlike c.args.window.now c.args.moved.now.at c.args.number x c.requires.moved.at at c.args.pairs.now.answers c.args.facing.now c.requires.faces c.specificity_at.result k_is
    (λ h. false≢true (sym c.if-not-may_weigh.true ∙ c.may_weigh.ensures.1 h))

pub blocks-requires-clause-specificity : goal.blocks-requires-clause-specificity
blocks-requires-clause-specificity c =
    let x = c.requires.number in
    let k_is = specificity_is c.args.moved.now.specificities.now c.args.moved.now.at.rule.now.selectors c.args.number x.0 c.requires.moved.specificities x.1 c.specificity_at.result c.specificity_at.ensures in
    subst (λ (k : Specificity). MayWeigh k c.args.facing.now) (k_is ∙ sym (ap specificity_of (c.selector_of.ensures x.0 x.1))) (c.may_weigh.ensures.0 c.if-not-may_weigh.false)

pub blocks-requires-clause-profile : goal.blocks-requires-clause-profile
blocks-requires-clause-profile c =
    let x = c.requires.number in
    in_profile c.args.window.now c.args.moved.now.at c.args.number x.0 c.requires.moved.at x.1 c.requires.askable c.selector_of.result.now (c.selector_of.ensures x.0 x.1)

pub returns-then-blocked-clause-told : goal.returns-then-blocked-clause-told
returns-then-blocked-clause-told c = λ x at.
    blocks_named c.args.window.now c.args.moved.now.at c.args.number x c.requires.moved.at at c.blocks-2.new.pairs.answers c.args.facing.now c.requires.faces c.selector_of.result.now (c.selector_of.ensures x at)
    (subst (λ (b : Bool). IsTold c.blocks-2.new.pairs.answers c.args.window.now (hindrance_of c.args.window.now.items.now c.args.facing.now (pair c.selector_of.result.now c.args.moved.now.at.decl.now)) b) c.if-blocked.true c.in_ok-blocked.ensures.told)
    c.named.result c.named.ensures

pub returns-clause-told : goal.returns-clause-told
returns-clause-told c = λ x at.
    passes_named c.args.window.now c.args.moved.now.at c.args.number x c.requires.moved.at at c.blocks-2.new.pairs.answers c.args.facing.now c.selector_of.result.now (c.selector_of.ensures x at)
    (subst (λ (b : Bool). IsTold c.blocks-2.new.pairs.answers c.args.window.now (hindrance_of c.args.window.now.items.now c.args.facing.now (pair c.selector_of.result.now c.args.moved.now.at.decl.now)) b) c.if-blocked.false c.in_ok-blocked.ensures.told)

pub blocks-requires-clause-of_p : goal.blocks-requires-clause-of_p
blocks-requires-clause-of_p c =
    let x = c.requires.number in
    stands_as_noted c.args.window.now c.args.moved.now.at c.args.number x.0 c.requires.moved.at x.1 c.noted_selector-of_p.result c.noted_selector-of_p.ensures c.selector_of.result.now (c.selector_of.ensures x.0 x.1)

pub note_selector-requires-clause-noted : goal.note_selector-requires-clause-noted
note_selector-requires-clause-noted c =
    let x = c.requires.number in
    noted_as_stands c.args.window.now c.args.moved.now.at c.args.number x.0 c.requires.moved.at x.1 c.blocks-2.new.of_p c.selector_of.result.now (c.selector_of.ensures x.0 x.1) c.blocks-2.ensures.of_p
