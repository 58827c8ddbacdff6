use Rattle.std.proofs.Common.{sym, ◌∙◌}
use Rattle.std.proofs.lemmas.Result.{on_ok_weaker}
use Rattle.inspect_text.proofs.Placing.{line_at, line_in_each}
use Rattle.inspect_text.proofs.groups.put_line.Goals as goal

pub returns-then-is_all : goal.returns-then-is_all
returns-then-is_all c =
    on_ok_weaker c.append_each.result
    (λ put before f is so_far. put ∙ line_in_each c.args.families.now c.args.texts.now.items before f c.args.e.now c.args.line.now (sym c.is_all.ensures ∙ c.if-is_all.true) is so_far)
    c.append_each.ensures

pub returns-in_ok-number : goal.returns-in_ok-number
returns-in_ok-number c =
    on_ok_weaker c.append_at.result
    (λ put before f is so_far.
    put ∙ line_at c.args.families.now c.args.texts.now.items before f c.args.e.now c.args.line.now c.in_ok-number.number (sym c.is_all.ensures ∙ c.if-is_all.false) c.requires.ascending c.in_ok-number.ensures is so_far)
    c.append_at.ensures
