use Rattle.std.proofs.Common.{◌≡◌, ap, map, sym, ◌∙◌, subst, List}
use Rattle.std.specs.List.{Contains}
use Rattle.css_model.specs.declared.sheet.DeclItem.{DeclItem}
use Rattle.css_model.specs.declared.sheet.SelItem.{SelItem}
use Rattle.css_model.specs.Sheets.RuleParts.{RuleParts}
use Rattle.planner_state.proofs.reactivating.reactivate_pairs_of.Goals as goal

pub returns-clause-active : goal.returns-clause-active
returns-clause-active c =
    let selectors : c.deref.result.now ≡ c.args.rule.now.selectors = c.deref.ensures.value ∙ ap (λ (r : RuleParts). r.selectors) c.rule.view_is in
    let decls : c.deref-2.result.now ≡ c.args.rule.now.decls = c.deref-2.ensures.value ∙ ap (λ (r : RuleParts). r.decls) c.rule.view_is in
    λ s d in_s in_d. c.in_ok-reactivate_parts.ensures.active s d (subst (λ (xs : List SelItem). Contains (map (λ x. x.selector) xs) s) (sym selectors) in_s)
    (subst (λ (xs : List DeclItem). Contains (map (λ x. x.decl) xs) d) (sym decls) in_d)
