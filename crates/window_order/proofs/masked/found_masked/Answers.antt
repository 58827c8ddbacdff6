use Rattle.std.proofs.Common.{◌∙◌, sym}
use Rattle.std.proofs.lemmas.Bool.{false≢true}
use Rattle.window_order.proofs.LastFound.{last_before, last_not_before}
use Rattle.window_order.proofs.masked.found_masked.Goals as goal

pub returns-then-comes_before_if : goal.returns-then-comes_before_if
returns-then-comes_before_if c = last_before c.args.above.now c.args.last.now c.args.p.now c.args.q.now (c.comes_before_if.ensures.0 c.if-comes_before_if.true)

pub returns-else-comes_before_if : goal.returns-else-comes_before_if
returns-else-comes_before_if c =
    last_not_before c.args.above.now c.args.last.now c.args.p.now c.args.q.now (c.stands_in_masked.ensures.0 c.if-stands_in_masked.true)
    (λ b. false≢true (sym c.if-comes_before_if.false ∙ c.comes_before_if.ensures.1 b))
