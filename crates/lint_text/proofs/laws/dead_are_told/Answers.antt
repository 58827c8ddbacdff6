use Rattle.lint_text.proofs.Told.{are_told}
use Rattle.lint_text.proofs.laws.dead_are_told.Goals as goal

pub returns : goal.returns
returns c = are_told c.others_are_undecided.ensures c.read_is_sound.ensures c.selectors_are_in_the_profile.ensures.all c.opened_blocks_are_sheets.ensures.sheets
