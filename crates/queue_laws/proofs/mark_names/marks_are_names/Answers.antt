use Rattle.queue_laws.proofs.Kept.{are_names}
use Rattle.queue_laws.proofs.mark_names.marks_are_names.Goals as goal

pub returns : goal.returns
returns c = are_names
