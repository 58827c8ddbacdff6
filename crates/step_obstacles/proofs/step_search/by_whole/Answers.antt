use Rattle.std.proofs.Common.{sym, ◌∙◌}
use Rattle.step_obstacles.proofs.Spans.{enough_whole}
use Rattle.step_obstacles.proofs.SpentRules.{told_behind}
use Rattle.step_obstacles.proofs.step_search.by_whole.Goals as goal

pub returns-then-rule_is_behind-clause-told : goal.returns-then-rule_is_behind-clause-told
returns-then-rule_is_behind-clause-told c = told_behind c.args.pairs.now.answers c.args.items.now c.args.window.now c.args.item c.in_ok-source.source
    c.in_ok-source.ensures.with c.in_ok-source.ensures.rule (sym c.rule_is_behind.ensures ∙ c.if-rule_is_behind.true)

pub in_window-requires-clause-enough : goal.in_window-requires-clause-enough
in_window-requires-clause-enough c = enough_whole c.args.items.now c.args.window.now c.args.span c.args.item c.in_ok-source.source c.requires.enough c.in_ok-source.ensures.with c.in_ok-source.ensures.rule
