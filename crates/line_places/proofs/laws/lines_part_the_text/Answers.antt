use Rattle.line_places.proofs.Parting.{parts}
use Rattle.line_places.proofs.laws.lines_part_the_text.Goals as goal

pub returns : goal.returns
returns c = parts
