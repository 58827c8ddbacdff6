use Rattle.attr_values.proofs.Decisions.{not_nil, suffix_is}
use Rattle.attr_values.proofs.passing.passes_suffix.Goals as goal

pub returns-then-not-is_empty : goal.returns-then-not-is_empty
returns-then-not-is_empty c = suffix_is c.args.value.now c.args.v.now c.ends_with.result (not_nil c.args.v.now c.if-not-is_empty.ensures) c.ends_with.ensures.value
