use Rattle.told_laws.proofs.Word.{text_means}
use Rattle.told_laws.proofs.same.same_text_means_same.Goals as goal

pub returns : goal.returns
returns c = text_means
