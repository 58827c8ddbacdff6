use Rattle.css_tokens.proofs.LexedLemmas.{lexed_are_parts, parts_are_lexed}
use Rattle.css_tokens.proofs.laws.parts_read_back.Goals as goal

pub returns : goal.returns
returns c = record { lexed = parts_are_lexed; back = lexed_are_parts }
