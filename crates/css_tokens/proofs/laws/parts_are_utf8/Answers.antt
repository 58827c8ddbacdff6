use Rattle.css_tokens.proofs.WholeCharacters.{lexed_whole}
use Rattle.css_tokens.proofs.laws.parts_are_utf8.Goals as goal

pub returns : goal.returns
returns c = lexed_whole
