use Rattle.std.proofs.Common.{◌∙◌}
use Rattle.rule_parts.proofs.SelectorSets.{all_in}
use Rattle.rule_parts.proofs.selector_sets.are_many_among.Goals as goal

pub returns : goal.returns
returns c = c.are_in.ensures ∙ all_in c.args.others.now c.args.items.now c.in_ok-set.set.keys c.in_ok-set.ensures
