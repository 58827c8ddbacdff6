use Rattle.made_laws.proofs.Faultless.{made_faultless}
use Rattle.made_laws.proofs.sheets.made_sheets_have_no_fault.Goals as goal

pub returns : goal.returns
returns c = made_faultless c.read_is_sound.ensures c.printed_reads_back.ensures
