use Rattle.std.proofs.Common.{length}
use Rattle.css_model.specs.declared.sheet.SelItem.{SelItem}
use Rattle.rule_tables.specs.Pairs.{AnotherHasBoth}
use Rattle.rule_tables.proofs.PartTests.{AreDone}
use Rattle.rule_tables.proofs.losing.all_stand_with_decl.Given as goal

abbrev pub invariant-rest : goal.invariant-rest
invariant-rest g l = AreDone (λ (x : SelItem). x.selector) (λ y. AnotherHasBoth (g.R.OrderKeyedRules.rules l.rules) l.own y l.decl) l.initial.rest l.rest

abbrev pub decreases-rest : goal.decreases-rest
decreases-rest g l = length l.rest
