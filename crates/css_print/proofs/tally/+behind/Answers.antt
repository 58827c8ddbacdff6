use Rattle.std.proofs.Common.{sym, ◌∙◌}
use Rattle.css_print.proofs.Marks.{behind_settled}
use Rattle.css_print.proofs.tally.+behind.Goals as goal

pub returns-then-is_settled : goal.returns-then-is_settled
returns-then-is_settled t c = sym (behind_settled c.args.front c.args.text.now (sym c.is_settled.ensures ∙ c.if-is_settled.true))
