use Rattle.std.proofs.Common.{sym, ◌∙◌}
use Rattle.std.proofs.lemmas.Bool.{false≢true}
use Rattle.window_order.proofs.LastPlaces.{stands_there}
use Rattle.window_order.proofs.place.order_of_both.Goals as goal

pub returns-else-comes_before_at : goal.returns-else-comes_before_at
returns-else-comes_before_at c = (
  stands_there c.args.items.now c.args.at c.args.p.now c.requires.first,
  λ h. false≢true (sym c.if-comes_before_at.false ∙ c.comes_before_at.ensures.1 h),
)
