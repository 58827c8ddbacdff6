use Rattle.pending_laws.proofs.Ordered.{told_by_names}
use Rattle.pending_laws.proofs.priorities.names_tell_steps.Goals as goal

pub returns : goal.returns
returns c = told_by_names c.steps_are_one_edit.ensures
