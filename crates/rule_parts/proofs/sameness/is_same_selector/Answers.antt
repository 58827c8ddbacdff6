use Rattle.rule_parts.proofs.ToldApart.{selector_told}
use Rattle.rule_parts.proofs.sameness.is_same_selector.Goals as goal

pub returns : goal.returns
returns c = selector_told c.args.one.now c.args.other.now c.are_same_parts.result c.are_same_parts.ensures
