use Rattle.std.proofs.Common.{ap₂, ◌∙◌}
use Rattle.css_model.specs.Cascade.Order.{Pair}
use Rattle.order_laws.specs.Comparing.{weigh}
use Rattle.order_laws.specs.Places.{PlacedPair}
use Rattle.sheet_same.proofs.Weighing.{then_weigh, else_weigh}
use Rattle.sheet_same.proofs.standing.pairs_weigh.Goals as goal

pub returns-then-decls_weigh : goal.returns-then-decls_weigh
returns-then-decls_weigh c =
    let p : Pair = record { selector = c.p.inside.selector.now; decl = c.p.inside.decl.now } in
    let q : Pair = record { selector = c.q.inside.selector.now; decl = c.q.inside.decl.now } in
    then_weigh c.weighing_is_decided.ensures c.decls_weigh.result c.same_specificity.result p q c.decls_weigh.ensures c.same_specificity.ensures c.if-decls_weigh.true
    ∙ ap₂ (λ (x y : PlacedPair). weigh x.pair y.pair) c.p.view_is c.q.view_is

pub returns-else-decls_weigh : goal.returns-else-decls_weigh
returns-else-decls_weigh c =
    let p : Pair = record { selector = c.p.inside.selector.now; decl = c.p.inside.decl.now } in
    let q : Pair = record { selector = c.q.inside.selector.now; decl = c.q.inside.decl.now } in
    else_weigh c.weighing_is_decided.ensures c.decls_weigh.result p q c.decls_weigh.ensures c.if-decls_weigh.false
    ∙ ap₂ (λ (x y : PlacedPair). weigh x.pair y.pair) c.p.view_is c.q.view_is
