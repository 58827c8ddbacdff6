use Rattle.same_text.proofs.Words.{texts_win_alike}
use Rattle.same_text.proofs.laws.same_texts_win_alike.Goals as goal

pub returns : goal.returns
returns c = texts_win_alike
