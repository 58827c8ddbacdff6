use Rattle.queue_laws.proofs.Kept.{renamed}
use Rattle.queue_laws.proofs.mark_names.kept_are_renamed.Goals as goal

pub returns : goal.returns
returns c = renamed c.marks_are_names.ensures
