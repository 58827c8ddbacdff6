use Rattle.std.proofs.Common.{sym, ◌∙◌}
use Rattle.rule_tables.proofs.Reached.{goes_with, goes_without}
use Rattle.rule_tables.proofs.ahead.with_first.Goals as goal
use Rattle.rule_tables.specs.Ahead.{reached}

pub returns-then-starts_with : goal.returns-then-starts_with
returns-then-starts_with c =
    goes_with c.args.common c.with.result (reached c.args.listed.now) c.args.order_key (sym c.starts_with.ensures ∙ c.if-starts_with.true) c.with.ensures.count c.with.ensures.weight

pub returns : goal.returns
returns c = goes_without c.args.common (reached c.args.listed.now) c.args.order_key (sym c.starts_with.ensures ∙ c.if-starts_with.false)
