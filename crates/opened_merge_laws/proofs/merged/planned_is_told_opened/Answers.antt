use Rattle.opened_merge_laws.proofs.merged.planned_is_told_opened.Goals as goal

pub returns : goal.returns
returns c = c.planned_is_written.ensures.told
