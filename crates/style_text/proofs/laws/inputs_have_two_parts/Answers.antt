use Rattle.style_text.proofs.Told.{two_parts}
use Rattle.style_text.proofs.laws.inputs_have_two_parts.Goals as goal

pub returns : goal.returns
returns c = two_parts
