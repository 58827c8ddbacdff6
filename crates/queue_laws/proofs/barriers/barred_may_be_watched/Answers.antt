use Rattle.queue_laws.proofs.IndexedBarriers.{barred_watched}
use Rattle.queue_laws.proofs.barriers.barred_may_be_watched.Goals as goal

pub returns : goal.returns
returns c = λ answers source b entries bound candidates barriers marked long are.
    barred_watched c.first_priority_is_first.ensures c.barred_priorities_are_blocked.ensures c.barred_priorities_are_moves.ensures c.moves_are_barred.ensures c.marks_are_names.ensures answers source b entries bound candidates marked long barriers are
