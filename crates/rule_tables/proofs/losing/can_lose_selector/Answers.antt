use Rattle.std.proofs.Common.{◌≡◌, ◌↔◌, true, List, Some, map, ap, subst, ◌∙◌}
use Rattle.std.specs.Prelude.{slice_get}
use Rattle.std.specs.List.{Contains, remove}
use Rattle.css_model.specs.declared.sheet.Decl.{Decl}
use Rattle.css_model.specs.declared.sheet.DeclItem.{DeclItem}
use Rattle.css_model.specs.declared.sheet.SelItem.{SelItem}
use Rattle.css_model.specs.Sheets.RuleParts.{RuleParts}
use Rattle.rule_tables.specs.Losing.{SelectorIsSpare}
use Rattle.rule_tables.specs.Pairs.{AnotherHasBoth}
use Rattle.rule_tables.proofs.PartTests.{got, pending_is, one_first, one_second}
use Rattle.rule_tables.proofs.losing.can_lose_selector.Goals as goal

pub is_selector_again-requires-clause-once : goal.is_selector_again-requires-clause-once
is_selector_again-requires-clause-once g c = λ once again.
    let part : slice_get c.args.rule.now.selectors c.args.sel ≡ Some c.in-Some.lost.now =
    subst (λ (xs : List SelItem). slice_get xs c.args.sel ≡ Some c.in-Some.lost.now) (c.deref.ensures.value ∙ ap (λ (r : RuleParts). r.selectors) c.rule.view_is)
    (got c.deref.result.now c.args.sel c.in-Some.lost.now c.in-Some.ensures.lookup.3.0 c.in-Some.ensures.lookup.3.1) in
    c.requires.once once c.in-Some.lost.now part
    (subst (λ (xs : List SelItem). Contains (map (λ (x : SelItem). x.selector) (remove xs c.args.sel)) c.in-Some.lost.now.selector) (c.deref-2.ensures.value ∙ ap (λ (r : RuleParts). r.selectors) c.rule.view_is) again)

pub returns-then-is_selector_again : goal.returns-then-is_selector_again
returns-then-is_selector_again g c =
    let part : slice_get c.args.rule.now.selectors c.args.sel ≡ Some c.in-Some.lost.now =
    subst (λ (xs : List SelItem). slice_get xs c.args.sel ≡ Some c.in-Some.lost.now) (c.deref.ensures.value ∙ ap (λ (r : RuleParts). r.selectors) c.rule.view_is)
    (got c.deref.result.now c.args.sel c.in-Some.lost.now c.in-Some.ensures.lookup.3.0 c.in-Some.ensures.lookup.3.1) in
    let again : (c.is_selector_again.result ≡ true) ↔ Contains (map (λ (x : SelItem). x.selector) (remove c.args.rule.now.selectors c.args.sel)) c.in-Some.lost.now.selector =
    subst (λ (xs : List SelItem). (c.is_selector_again.result ≡ true) ↔ Contains (map (λ (x : SelItem). x.selector) (remove xs c.args.sel)) c.in-Some.lost.now.selector) (c.deref-2.ensures.value ∙ ap (λ (r : RuleParts). r.selectors) c.rule.view_is) c.is_selector_again.ensures in
    one_first c.is_selector_again.result again
    (pending_is (SelectorIsSpare (g.R.OrderKeyedRules.rules c.args.rules.now) c.args.own c.args.rule.now c.args.sel) c.args.rule.now.selectors c.args.sel c.in-Some.lost.now part)
    c.if-is_selector_again.true

pub returns : goal.returns
returns g c =
    let part : slice_get c.args.rule.now.selectors c.args.sel ≡ Some c.in-Some.lost.now =
    subst (λ (xs : List SelItem). slice_get xs c.args.sel ≡ Some c.in-Some.lost.now) (c.deref.ensures.value ∙ ap (λ (r : RuleParts). r.selectors) c.rule.view_is)
    (got c.deref.result.now c.args.sel c.in-Some.lost.now c.in-Some.ensures.lookup.3.0 c.in-Some.ensures.lookup.3.1) in
    let again : (c.is_selector_again.result ≡ true) ↔ Contains (map (λ (x : SelItem). x.selector) (remove c.args.rule.now.selectors c.args.sel)) c.in-Some.lost.now.selector =
    subst (λ (xs : List SelItem). (c.is_selector_again.result ≡ true) ↔ Contains (map (λ (x : SelItem). x.selector) (remove xs c.args.sel)) c.in-Some.lost.now.selector) (c.deref-2.ensures.value ∙ ap (λ (r : RuleParts). r.selectors) c.rule.view_is) c.is_selector_again.ensures in
    let others : (c.all_stand_with_selector.result ≡ true) ↔ ((y : Decl) → Contains (map (λ (x : DeclItem). x.decl) c.args.rule.now.decls) y → AnotherHasBoth (g.R.OrderKeyedRules.rules c.args.rules.now) c.args.own c.in-Some.lost.now.selector y) =
    subst (λ (xs : List DeclItem). (c.all_stand_with_selector.result ≡ true) ↔ ((y : Decl) → Contains (map (λ (x : DeclItem). x.decl) xs) y → AnotherHasBoth (g.R.OrderKeyedRules.rules c.args.rules.now) c.args.own c.in-Some.lost.now.selector y)) (c.deref-3.ensures.value ∙ ap (λ (r : RuleParts). r.decls) c.rule.view_is) c.all_stand_with_selector.ensures in
    one_second c.is_selector_again.result again
    (pending_is (SelectorIsSpare (g.R.OrderKeyedRules.rules c.args.rules.now) c.args.own c.args.rule.now c.args.sel) c.args.rule.now.selectors c.args.sel c.in-Some.lost.now part)
    c.if-is_selector_again.false c.all_stand_with_selector.result others
