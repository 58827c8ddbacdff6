use Rattle.pending_laws.proofs.BarredPriorities.{priorities_blocked}
use Rattle.pending_laws.proofs.barred.barred_priorities_are_blocked.Goals as goal

pub returns : goal.returns
returns c = λ answers source items item_ids next way m place p q most. priorities_blocked c.barred_moves_are_hindered.ensures answers source items item_ids next way m place p q most
