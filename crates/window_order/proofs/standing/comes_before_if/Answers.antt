use Rattle.std.proofs.Common.{sym, ◌∙◌}
use Rattle.std.proofs.lemmas.Bool.{false≢true}
use Rattle.window_order.proofs.LastFound.{no}
use Rattle.window_order.proofs.standing.comes_before_if.Goals as goal

pub returns-then-not-second : goal.returns-then-not-second
returns-then-not-second c = no (λ b. false≢true (sym c.if-not-second.true ∙ c.requires.second.1 (b.later, b.second.stands)))
