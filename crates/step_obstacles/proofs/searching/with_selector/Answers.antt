use Rattle.std.proofs.Common.{◌≡◌, Some, ap, sym, ◌∙◌, subst}
use Rattle.std.specs.Prelude.{slice_get}
use Rattle.std.proofs.lemmas.Bool.{false≢true}
use Rattle.css_model.specs.Documents.Specificity.{specificity_of}
use Rattle.obstacles.specs.declared.obstacle.PairPlace.{PairPlace}
use Rattle.step_obstacles.proofs.Masked.{pair_masked}
use Rattle.step_obstacles.proofs.Named.{faced, in_profile, pair, passes_unlike_all, told_same}
use Rattle.step_obstacles.proofs.searching.with_selector.Goals as goal
use Rattle.step_obstacles.specs.declared.facing.Facing.TheVariants as facing
use Rattle.step_obstacles.specs.Turns.{Faces}

pub specificity_in_profile-specificity-requires : goal.specificity_in_profile-specificity-requires
specificity_in_profile-specificity-requires c =
    let y = c.requires.number in
    in_profile c.args.window.now c.args.other.now c.args.number y.0 c.requires.other y.1 c.requires.askable c.selector_of-selector.result.now (c.selector_of-selector.ensures y.0 y.1)

pub returns-then-not-is_among-clause-told : goal.returns-then-not-is_among-clause-told
returns-then-not-is_among-clause-told c = λ y at.
    passes_unlike_all c.args.pairs.now.answers c.args.window.now c.args.moved.now.at.rule.now c.args.moved.now.at.decl.now c.args.other.now.decl.now y c.args.moved.now.specificities.now c.specificity_in_profile-specificity.result
    c.requires.moved.specificities (c.specificity_in_profile-specificity.ensures ∙ ap specificity_of (c.selector_of-selector.ensures y at))
    (λ h. false≢true (sym c.if-not-is_among.true ∙ c.is_among.ensures.1 h))

pub invariant_of-q-inside : goal.invariant_of-q-inside
invariant_of-q-inside c = (pair_masked c.selector_of-selector.result.now c.args.other.now.decl.now c.args.other.now.mask c.selector_mask.result c.requires.other.masked c.selector_mask.ensures, tt)

pub of_selectors-requires-clause-faces : goal.of_selectors-requires-clause-faces
of_selectors-requires-clause-faces c =
    let y = c.requires.number in
    subst (λ (place : PairPlace). Faces c.args.window.now c.args.moved.now.at.decl.now (facing.Pair (pair c.selector_of-selector.result.now c.args.other.now.decl.now) place c.specificity_in_profile-specificity.result)) (sym c.place_of.ensures)
    (faced c.args.window.now c.args.other.now c.args.number y.0 c.requires.other y.1 c.requires.askable c.args.moved.now.at.decl.now c.requires.weigh c.selector_of-selector.result.now (c.selector_of-selector.ensures y.0 y.1)
    c.specificity_in_profile-specificity.result c.specificity_in_profile-specificity.ensures)

pub returns-clause-told : goal.returns-clause-told
returns-clause-told c =
    told_same c.of_selectors.new.pairs.answers c.args.window.now c.args.moved.now.at.rule.now c.args.moved.now.at.decl.now c.args.other.now.decl.now c.selector_of-selector.result.now
    (λ y. slice_get c.args.other.now.rule.now.selectors c.args.number ≡ Some y) c.selector_of-selector.ensures c.of_selectors.result c.of_selectors.ensures.told

pub of_selectors-requires-clause-faced : goal.of_selectors-requires-clause-faced
of_selectors-requires-clause-faced c =
    let y = c.requires.number in
    c.own_faced-of_q.ensures c.args.moved.now.at.decl.now
    (subst (λ (place : PairPlace). Faces c.args.window.now c.args.moved.now.at.decl.now (facing.Pair (pair c.selector_of-selector.result.now c.args.other.now.decl.now) place c.specificity_in_profile-specificity.result)) (sym c.place_of.ensures)
    (faced c.args.window.now c.args.other.now c.args.number y.0 c.requires.other y.1 c.requires.askable c.args.moved.now.at.decl.now c.requires.weigh c.selector_of-selector.result.now (c.selector_of-selector.ensures y.0 y.1)
    c.specificity_in_profile-specificity.result c.specificity_in_profile-specificity.ensures))
