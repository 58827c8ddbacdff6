use Rattle.std.proofs.Common.{sym, true≢false, ◌∙◌}
use Rattle.std.proofs.lemmas.List.{nil_from_length}
use Rattle.css_model.specs.declared.sheet.DeclItem.{DeclItem}
use Rattle.rule_tables.specs.Pairs.{AnotherHasBoth}
use Rattle.rule_tables.proofs.PartTests.{all_done, none_done, not_done, one_done}
use Rattle.rule_tables.proofs.losing.all_stand_with_selector.Goals as goal

pub rest-init : goal.rest-init
rest-init g c = none_done (λ (x : DeclItem). x.decl) (λ y. AnotherHasBoth (g.R.OrderKeyedRules.rules c.args.rules.now) c.args.own c.args.selector.now y) c.args.decls.now

pub returns-then-not-is_elsewhere : goal.returns-then-not-is_elsewhere
returns-then-not-is_elsewhere g c = not_done (λ (x : DeclItem). x.decl) (λ y. AnotherHasBoth (g.R.OrderKeyedRules.rules c.args.rules.now) c.args.own c.args.selector.now y) c.args.decls.now c.rest.rest.now c.in-Some.behind.now c.in-Some.first.now c.in-Some.ensures.cases.0
    (λ h. true≢false (sym (c.is_elsewhere.ensures.1 h) ∙ c.if-not-is_elsewhere.true)) c.rest.invariant

pub rest-preserved : goal.rest-preserved
rest-preserved g c = one_done (λ (x : DeclItem). x.decl) (λ y. AnotherHasBoth (g.R.OrderKeyedRules.rules c.args.rules.now) c.args.own c.args.selector.now y) c.args.decls.now c.rest.rest.now c.in-Some.behind.now c.in-Some.first.now c.in-Some.ensures.cases.0
    (c.is_elsewhere.ensures.0 c.if-not-is_elsewhere.false) c.rest.invariant

pub returns : goal.returns
returns g c = all_done (λ (x : DeclItem). x.decl) (λ y. AnotherHasBoth (g.R.OrderKeyedRules.rules c.args.rules.now) c.args.own c.args.selector.now y) c.args.decls.now c.rest.rest.now
    (nil_from_length c.rest.rest.now (rw c.in_default.is at c.split_first.ensures.cases)) c.rest.invariant
