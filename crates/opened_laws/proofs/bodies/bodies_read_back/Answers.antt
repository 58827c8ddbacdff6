use Rattle.opened_laws.proofs.Media.Reading.{are_no_longer, read_back}
use Rattle.opened_laws.proofs.bodies.bodies_read_back.Goals as goal

pub returns : goal.returns
returns c = record {
  back = read_back c.opened_blocks_are_sheets.ensures.sheets c.printed_reads_back.ensures c.printed_reads_back_as_twin.ensures;
  short = are_no_longer c.opened_blocks_are_sheets.ensures.sheets c.printed_is_no_longer.ensures;
}
