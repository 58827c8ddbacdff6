use Rattle.repeat_laws.proofs.Cutting.{repeats_free}
use Rattle.repeat_laws.proofs.repeats.repeats_are_free.Goals as goal

pub returns : goal.returns
returns c = repeats_free
