use Rattle.std.proofs.Common.{arith}
use Rattle.bench_counts.proofs.Bounds.{few}
use Rattle.bench_counts.proofs.tokens.token_count.Goals as goal

pub overflow_add-count : goal.overflow_add-count
overflow_add-count c =
    let h = few c.args.source.now in
    let e = c.tokens.invariant.1 in
    omega (arith, h, e, c.requires)
