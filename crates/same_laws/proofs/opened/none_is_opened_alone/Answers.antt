use Rattle.same_laws.proofs.OpenedAlone.{none_alone}
use Rattle.same_laws.proofs.opened.none_is_opened_alone.Goals as goal

pub returns : goal.returns
returns c = none_alone c.same_texts_are_opened_alike.ensures
