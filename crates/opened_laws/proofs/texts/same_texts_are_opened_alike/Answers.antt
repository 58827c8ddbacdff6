use Rattle.opened_laws.proofs.Alike.Texts.{opened_alike}
use Rattle.opened_laws.proofs.texts.same_texts_are_opened_alike.Goals as goal

pub returns : goal.returns
returns c = opened_alike c.kept_text_is_read_back.ensures.short
