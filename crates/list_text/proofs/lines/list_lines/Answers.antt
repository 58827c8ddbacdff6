use Rattle.list_text.proofs.Blocks.{bodies_of}
use Rattle.list_text.proofs.lines.list_lines.Goals as goal

pub lines_of_sheet-requires-clause-sound : goal.lines_of_sheet-requires-clause-sound
lines_of_sheet-requires-clause-sound c = c.read_is_sound.ensures c.args.source.now c.in_ok-sheet.sheet.items c.in_ok-sheet.ensures

pub lines_of_sheet-requires-clause-bodies : goal.lines_of_sheet-requires-clause-bodies
lines_of_sheet-requires-clause-bodies c = bodies_of c.opened_blocks_are_sheets.ensures.sheets c.opened_blocks_are_sheets.ensures.sound c.args.source.now c.in_ok-sheet.sheet.items
