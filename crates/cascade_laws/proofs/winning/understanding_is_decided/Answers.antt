use Rattle.cascade_laws.proofs.CascadeWords.{understood-listed, listed-understood}
use Rattle.cascade_laws.proofs.winning.understanding_is_decided.Goals as goal

pub returns : goal.returns
returns c = λ us e. (understood-listed us e, listed-understood us e)
