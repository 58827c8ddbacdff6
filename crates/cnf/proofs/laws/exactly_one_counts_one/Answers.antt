use Rattle.cnf.proofs.GateLemmas.{exactly_one-keeps, exactly_one-in_range, exactly_one-means, exactly_one-satisfied}
use Rattle.cnf.proofs.SizeLemmas.{exactly_one-size}
use Rattle.cnf.proofs.laws.exactly_one_counts_one.Goals as goal

pub returns : goal.returns
returns c = record { kept = exactly_one-keeps; in_range = exactly_one-in_range; satisfied = exactly_one-satisfied; means = exactly_one-means; size = exactly_one-size }
