use Rattle.std.proofs.Common.{sym, ◌∙◌}
use Rattle.std.proofs.lemmas.Bool.{false≢true}
use Rattle.window_order.proofs.masked.order_in_one.Goals as goal

pub returns-else-comes_before_there : goal.returns-else-comes_before_there
returns-else-comes_before_there c = (c.requires.first, λ b. false≢true (sym c.if-comes_before_there.false ∙ c.comes_before_there.ensures.1 b))
