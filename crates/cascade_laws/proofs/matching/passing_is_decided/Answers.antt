use Rattle.cascade_laws.proofs.AttributeWords.{passes-decides}
use Rattle.cascade_laws.proofs.matching.passing_is_decided.Goals as goal

pub returns : goal.returns
returns c = passes-decides
