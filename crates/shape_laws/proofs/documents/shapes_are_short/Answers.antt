use Rattle.shape_laws.proofs.Document.Showing.{short}
use Rattle.shape_laws.proofs.documents.shapes_are_short.Goals as goal

pub returns : goal.returns
returns c = short
