use Rattle.opened_laws.proofs.Media.Meaning.{give}
use Rattle.opened_laws.proofs.scenes.scenes_give_meanings.Goals as goal

pub returns : goal.returns
returns c = give
