use Rattle.list_text.proofs.Listed.{inner_listed, outer_listed}
use Rattle.list_text.proofs.laws.each_item_is_listed.Goals as goal

pub returns-clause-outer : goal.returns-clause-outer
returns-clause-outer c = outer_listed

pub returns-clause-inner : goal.returns-clause-inner
returns-clause-inner c = inner_listed
