use Rattle.line_places.proofs.Parting.{places}
use Rattle.line_places.proofs.laws.places_are_in_their_lines.Goals as goal

pub returns : goal.returns
returns c = places
