use Rattle.opened_merge_laws.proofs.Writing.{Laws, planned_is_merged, planned_is_told}
use Rattle.opened_merge_laws.proofs.merged.planned_is_written.Goals as goal

pub returns : goal.returns
returns c =
    let laws : Laws = record {
      sound = c.read_is_sound.ensures;
      limits = c.read_keeps_the_limits.ensures;
      make = c.leading_makes_of.ensures;
      comes_from = c.planned_comes_from.ensures;
      sheets = c.opened_blocks_are_sheets.ensures.sheets;
      stay = c.blocks_stay.ensures.blocks;
      merged = c.merged_is_no_longer.ensures;
      opened = c.opened_is_no_longer.ensures;
      reads_back = c.opened_reads_back.ensures;
      leading = c.leading_keeps.ensures;
      twins = c.twins_keep.ensures;
      twins_done = c.twins_are_done.ensures;
      but_blocks_done = c.twins_but_blocks_are_done.ensures;
      keeping = c.keeping_keeps_winners.ensures;
      scenes = c.scenes_give_meanings.ensures;
      alike = c.bodies_count_by_winners.ensures.sheets;
    } in
    record { merged = planned_is_merged laws; told = planned_is_told laws }
