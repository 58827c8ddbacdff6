use Rattle.cascade_laws.proofs.Line.Expanding.{expands, expands_document}
use Rattle.cascade_laws.proofs.expansion.trees_stand_for_elements.Goals as goal

pub returns : goal.returns
returns c = (expands, expands_document)
