use Rattle.opened_laws.proofs.Block.Back.{read_back}
use Rattle.opened_laws.proofs.blocks.blocks_read_back.Goals as goal

pub returns : goal.returns
returns c = read_back c.opened_blocks_are_sheets.ensures.sheets
