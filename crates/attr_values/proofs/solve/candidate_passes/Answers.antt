use Rattle.attr_values.proofs.Separated as separated
use Rattle.attr_values.proofs.solve.candidate_passes.Goals as goal

pub returns : goal.returns
returns c = separated.candidate_passes
