use Rattle.pending_laws.proofs.OwnParts.{joined_has_own_parts}
use Rattle.pending_laws.proofs.facts.joined_has_own_parts.Goals as goal

pub returns : goal.returns
returns c = joined_has_own_parts
