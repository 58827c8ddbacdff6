use Rattle.cascade_laws.proofs.Eval.Repeating.{repeated_passes}
use Rattle.cascade_laws.proofs.climbing.repeating_changes_nothing.Goals as goal

pub returns : goal.returns
returns c = repeated_passes
