use Rattle.std.proofs.Common.{◌≡◌, ◌↔◌, true, List, Some, map, ap, subst, ◌∙◌}
use Rattle.std.specs.Prelude.{slice_get}
use Rattle.std.specs.List.{Contains, remove}
use Rattle.css_model.specs.Documents.SelectorParts.{SelectorParts}
use Rattle.css_model.specs.declared.sheet.DeclItem.{DeclItem}
use Rattle.css_model.specs.declared.sheet.SelItem.{SelItem}
use Rattle.css_model.specs.Sheets.RuleParts.{RuleParts}
use Rattle.rule_tables.specs.Losing.{DeclIsSpare}
use Rattle.rule_tables.specs.Pairs.{AnotherHasBoth}
use Rattle.rule_tables.proofs.PartTests.{got, pending_is, one_first, one_second}
use Rattle.rule_tables.proofs.losing.can_lose_decl.Goals as goal

pub is_decl_again-requires-clause-once : goal.is_decl_again-requires-clause-once
is_decl_again-requires-clause-once g c = λ once again.
    let part : slice_get c.args.rule.now.decls c.args.decl ≡ Some c.in-Some.lost.now =
    subst (λ (xs : List DeclItem). slice_get xs c.args.decl ≡ Some c.in-Some.lost.now) (c.deref.ensures.value ∙ ap (λ (r : RuleParts). r.decls) c.rule.view_is)
    (got c.deref.result.now c.args.decl c.in-Some.lost.now c.in-Some.ensures.lookup.3.0 c.in-Some.ensures.lookup.3.1) in
    c.requires.once once c.in-Some.lost.now part
    (subst (λ (xs : List DeclItem). Contains (map (λ (x : DeclItem). x.decl) (remove xs c.args.decl)) c.in-Some.lost.now.decl) (c.deref-2.ensures.value ∙ ap (λ (r : RuleParts). r.decls) c.rule.view_is) again)

pub returns-then-is_decl_again : goal.returns-then-is_decl_again
returns-then-is_decl_again g c =
    let part : slice_get c.args.rule.now.decls c.args.decl ≡ Some c.in-Some.lost.now =
    subst (λ (xs : List DeclItem). slice_get xs c.args.decl ≡ Some c.in-Some.lost.now) (c.deref.ensures.value ∙ ap (λ (r : RuleParts). r.decls) c.rule.view_is)
    (got c.deref.result.now c.args.decl c.in-Some.lost.now c.in-Some.ensures.lookup.3.0 c.in-Some.ensures.lookup.3.1) in
    let again : (c.is_decl_again.result ≡ true) ↔ Contains (map (λ (x : DeclItem). x.decl) (remove c.args.rule.now.decls c.args.decl)) c.in-Some.lost.now.decl =
    subst (λ (xs : List DeclItem). (c.is_decl_again.result ≡ true) ↔ Contains (map (λ (x : DeclItem). x.decl) (remove xs c.args.decl)) c.in-Some.lost.now.decl) (c.deref-2.ensures.value ∙ ap (λ (r : RuleParts). r.decls) c.rule.view_is) c.is_decl_again.ensures in
    one_first c.is_decl_again.result again
    (pending_is (DeclIsSpare (g.R.OrderKeyedRules.rules c.args.rules.now) c.args.own c.args.rule.now c.args.decl) c.args.rule.now.decls c.args.decl c.in-Some.lost.now part)
    c.if-is_decl_again.true

pub returns : goal.returns
returns g c =
    let part : slice_get c.args.rule.now.decls c.args.decl ≡ Some c.in-Some.lost.now =
    subst (λ (xs : List DeclItem). slice_get xs c.args.decl ≡ Some c.in-Some.lost.now) (c.deref.ensures.value ∙ ap (λ (r : RuleParts). r.decls) c.rule.view_is)
    (got c.deref.result.now c.args.decl c.in-Some.lost.now c.in-Some.ensures.lookup.3.0 c.in-Some.ensures.lookup.3.1) in
    let again : (c.is_decl_again.result ≡ true) ↔ Contains (map (λ (x : DeclItem). x.decl) (remove c.args.rule.now.decls c.args.decl)) c.in-Some.lost.now.decl =
    subst (λ (xs : List DeclItem). (c.is_decl_again.result ≡ true) ↔ Contains (map (λ (x : DeclItem). x.decl) (remove xs c.args.decl)) c.in-Some.lost.now.decl) (c.deref-2.ensures.value ∙ ap (λ (r : RuleParts). r.decls) c.rule.view_is) c.is_decl_again.ensures in
    let others : (c.all_stand_with_decl.result ≡ true) ↔ ((y : SelectorParts) → Contains (map (λ (x : SelItem). x.selector) c.args.rule.now.selectors) y → AnotherHasBoth (g.R.OrderKeyedRules.rules c.args.rules.now) c.args.own y c.in-Some.lost.now.decl) =
    subst (λ (xs : List SelItem). (c.all_stand_with_decl.result ≡ true) ↔ ((y : SelectorParts) → Contains (map (λ (x : SelItem). x.selector) xs) y → AnotherHasBoth (g.R.OrderKeyedRules.rules c.args.rules.now) c.args.own y c.in-Some.lost.now.decl)) (c.deref-3.ensures.value ∙ ap (λ (r : RuleParts). r.selectors) c.rule.view_is) c.all_stand_with_decl.ensures in
    one_second c.is_decl_again.result again
    (pending_is (DeclIsSpare (g.R.OrderKeyedRules.rules c.args.rules.now) c.args.own c.args.rule.now c.args.decl) c.args.rule.now.decls c.args.decl c.in-Some.lost.now part)
    c.if-is_decl_again.false c.all_stand_with_decl.result others
