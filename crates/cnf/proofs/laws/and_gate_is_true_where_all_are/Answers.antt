use Rattle.cnf.proofs.GateLemmas.{and_gate-extends, and_gate-below, and_gate-means}
use Rattle.cnf.proofs.SizeLemmas.{and_gate-size}
use Rattle.cnf.proofs.laws.and_gate_is_true_where_all_are.Goals as goal

pub returns : goal.returns
returns c = record {
  extends = and_gate-extends;
  in_range = and_gate-below;
  means = and_gate-means;
  size = and_gate-size;
}
