use Rattle.attr_values.proofs.Decisions.{not_nil, prefix_is}
use Rattle.attr_values.proofs.passing.passes_prefix.Goals as goal

pub returns-then-not-is_empty : goal.returns-then-not-is_empty
returns-then-not-is_empty c = prefix_is c.args.value.now c.args.v.now c.starts_with.result (not_nil c.args.v.now c.if-not-is_empty.ensures) c.starts_with.ensures.value
