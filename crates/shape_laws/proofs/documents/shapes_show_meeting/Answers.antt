use Rattle.shape_laws.proofs.Document.Showing.{shows}
use Rattle.shape_laws.proofs.documents.shapes_show_meeting.Goals as goal

pub returns : goal.returns
returns c = shows
