use Rattle.merge_laws.proofs.Writing.{planned_merged}
use Rattle.merge_laws.proofs.merged.planned_is_merged.Goals as goal

pub returns : goal.returns
returns c = planned_merged c.planned_comes_from.ensures c.read_is_sound.ensures c.printed_is_no_longer.ensures c.printed_reads_back.ensures c.printed_reads_back_as_twin.ensures c.leading_keeps.ensures c.twins_keep.ensures c.twins_are_done.ensures c.keeping_keeps_winners.ensures
