use Rattle.merge_laws.proofs.Planning.{read_plannable}
use Rattle.merge_laws.proofs.reading.read_is_plannable.Goals as goal

pub returns : goal.returns
returns c = read_plannable c.read_is_sound.ensures c.printed_is_no_longer.ensures
