use Rattle.cascade_laws.proofs.Line.Paths.{path_inside, path_past}
use Rattle.cascade_laws.proofs.expansion.paths_lead_into_trees.Goals as goal

pub returns : goal.returns
returns c = (path_inside, path_past)
