use Rattle.std.proofs.Common.{arith, rules}
use Rattle.cnf.proofs.LayoutLemmas.{start-le, end-le}
use Rattle.cnf.proofs.formula.piece.Goals as goal

pub offset_bounds-lits-start : goal.offset_bounds-lits-start
offset_bounds-lits-start c =
    let low = start-le 0 c.args.ends.now _ c.args.k c.requires.rise c.requires.in_bounds in
    let high = end-le 0 c.args.ends.now _ c.args.k c.requires.rise c.requires.in_bounds in
    search (rules, low, high)

pub slice_bounds-result-count : goal.slice_bounds-result-count
slice_bounds-result-count c =
    let low = start-le 0 c.args.ends.now _ c.args.k c.requires.rise c.requires.in_bounds in omega arith

pub slice_bounds-result-start : goal.slice_bounds-result-start
slice_bounds-result-start c =
    let low = start-le 0 c.args.ends.now _ c.args.k c.requires.rise c.requires.in_bounds in
    let high = end-le 0 c.args.ends.now _ c.args.k c.requires.rise c.requires.in_bounds in
    search (rules, low, high)

pub slice_bounds-result-end : goal.slice_bounds-result-end
slice_bounds-result-end c =
    let high = end-le 0 c.args.ends.now _ c.args.k c.requires.rise c.requires.in_bounds in search (rules, high)
