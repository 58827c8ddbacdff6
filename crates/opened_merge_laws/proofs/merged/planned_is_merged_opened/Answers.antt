use Rattle.opened_merge_laws.proofs.merged.planned_is_merged_opened.Goals as goal

pub returns : goal.returns
returns c = c.planned_is_written.ensures.merged
