use Rattle.token_laws.proofs.Parts.Lexemes as lemma
use Rattle.token_laws.proofs.laws.solids_are_lexemes.Goals as goal

pub returns : goal.returns
returns c = lemma.solids_are_lexemes
