use Rattle.std.proofs.Common.{◌≡◌, not, List, [], ◌∷◌, ◌++◌, ap, ap₂, subst, sym, ◌∙◌}
use Rattle.std.specs.List.{filter}
use Rattle.css_model.specs.declared.sheet.DeclItem.{DeclItem}
use Rattle.css_model.specs.declared.sheet.Item.{Item}
use Rattle.css_model.specs.declared.sheet.Item.TheVariants.{Rule}
use Rattle.css_model.specs.declared.sheet.SelItem.{SelItem}
use Rattle.css_model.specs.Sheets.RuleParts.{RuleParts}
use Rattle.indexed_sheet.proofs.taking.share.Goals as goal
use Rattle.indexed_sheet.proofs.EditPuts.{change}
use Rattle.indexed_sheet.specs.Putting.{HaveNoneInCommon, items_in}
use Rattle.order_laws.specs.Members.{has_selector}
use Rattle.step_laws.specs.RuleParting.{both_selectors, common_decls, rule_or_none, without_decls}
use Rattle.step_laws.specs.StepEdits.{shared}

abbrev sel : RuleParts → List SelItem
sel r = r.selectors

pub with_copies-requires : goal.with_copies-requires
with_copies-requires c = λ known.
    subst (λ (ss : List SelItem). HaveNoneInCommon ss c.deref-3.result.now) (sym (c.in_ok-selectors.ensures.selectors ∙ ap sel c.in_ok-above.ensures))
    (subst (λ (ss : List SelItem). HaveNoneInCommon c.args.upper.selectors ss) (sym (c.deref-3.ensures.value ∙ ap sel c.below.view_is ∙ ap sel c.in_ok-below.ensures)) (c.requires.apart known))

pub returns : goal.returns
returns c =
    let gone : c.deref.result.now ≡ common_decls c.args.upper c.args.lower = c.deref.ensures.value ∙ c.in_ok-decls.ensures in
    let gone_again : c.deref-2.result.now ≡ common_decls c.args.upper c.args.lower = c.deref-2.ensures.value ∙ c.in_ok-decls.ensures in
    let above : c.in_ok-above.above ≡ without_decls (common_decls c.args.upper c.args.lower) c.args.upper = c.in_ok-above.ensures ∙ ap (λ (ds : List DeclItem). without_decls ds c.args.upper) gone in
    let below : c.in_ok-below.below ≡ without_decls (common_decls c.args.upper c.args.lower) c.args.lower = c.in_ok-below.ensures ∙ ap (λ (ds : List DeclItem). without_decls ds c.args.lower) gone_again in
    let upper_selectors : c.in_ok-selectors.selectors.items ≡ c.args.upper.selectors = c.in_ok-selectors.ensures.selectors ∙ ap sel above in
    let lower_selectors : c.deref-3.result.now ≡ c.args.lower.selectors = c.deref-3.ensures.value ∙ ap sel c.below.view_is ∙ ap sel below in
    let selectors : c.in_ok-selectors-2.selectors.items ≡ both_selectors c.args.upper c.args.lower =
    c.in_ok-selectors-2.ensures ∙ ap₂ (λ (xs ys : List SelItem). xs ++ filter (λ s. not (has_selector xs s.selector)) ys) upper_selectors lower_selectors in
    let made : record { selectors = c.in_ok-selectors-2.selectors.items; decls = c.in_ok-decls.decls.items } ≡ shared c.args.upper c.args.lower =
    ap₂ (λ (ss : List SelItem) (ds : List DeclItem). record { selectors = ss; decls = ds }) selectors c.in_ok-decls.ensures in
    record {
      changes = ap₂ (λ (a b : List Item). change c.args.x a ∷ change c.args.y b ∷ [])
          (sym (c.in_ok-selectors.ensures.left ∙ ap rule_or_none above))
          (sym (c.above_left.ensures ∙ ap₂ (λ (r q : RuleParts). Rule r ∷ rule_or_none q) made below));
    }
