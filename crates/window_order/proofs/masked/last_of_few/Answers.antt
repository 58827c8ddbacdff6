use Rattle.std.proofs.Common.{sym, ◌∙◌}
use Rattle.std.proofs.lemmas.Bool.{false≢true}
use Rattle.css_model.specs.Cascade.Order.{HasPair}
use Rattle.std.proofs.Common.{◌∷◌, []}
use Rattle.window_order.proofs.LastFound.{one_less}
use Rattle.window_order.proofs.LastPlaces.{place_here}
use Rattle.window_order.proofs.masked.last_of_few.Goals as goal

pub returns-then-stands_in_masked : goal.returns-then-stands_in_masked
returns-then-stands_in_masked c =
    place_here c.args.items.now c.rest.rest.now c.in-Some.above.now c.in-Some.last.now c.args.p.now c.in-Some.ensures.cases.0 c.rest.invariant (c.stands_in_masked.ensures.0 c.if-stands_in_masked.true)

pub rest-preserved : goal.rest-preserved
rest-preserved c =
    let none : HasPair (c.in-Some.last.now ∷ []) c.args.p.now → ⊥ = λ h. false≢true (sym c.if-stands_in_masked.false ∙ c.stands_in_masked.ensures.1 h) in
    one_less c.args.items.now c.rest.rest.now c.in-Some.above.now c.in-Some.last.now c.args.p.now c.args.p.now c.in-Some.ensures.cases.0 c.rest.invariant (none, none)
