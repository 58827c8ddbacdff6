use Rattle.sheet_laws.proofs.Soundness.{sheet-sound}
use Rattle.sheet_laws.proofs.reading.read_is_sound.Goals as goal

pub returns : goal.returns
returns c = sheet-sound
