use Rattle.why_text.proofs.FreeMoves.{free_moves_keep}
use Rattle.why_text.proofs.laws.free_moves_keep.Goals as goal

pub returns : goal.returns
returns c = free_moves_keep c.apart_selectors_do_not_meet.ensures c.each_sheet_keeps_itself.ensures c.listed_is_reversed.ensures c.moving_apart_keeps.ensures
