use Rattle.line_places.proofs.Showing.{no_controls}
use Rattle.line_places.proofs.laws.shown_has_no_controls.Goals as goal

pub returns : goal.returns
returns c = no_controls
