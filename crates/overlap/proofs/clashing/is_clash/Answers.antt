use Rattle.std.proofs.Common.{◌≡◌, length, rules}
use Rattle.clause_encode.specs.Fits.{is_fit}
use Rattle.grid_laws.specs.Grid.{together}
use Rattle.overlap.proofs.Forced.{clash_apart, of_one_inside}
use Rattle.overlap.proofs.clashing.is_clash.Goals as goal

pub is_pair_fit-requires-clause-row : goal.is_pair_fit-requires-clause-row
is_pair_fit-requires-clause-row c =
    rw (c.links_of-left.ensures, c.left.ensures) (of_one_inside c.args.plan.now.left.links c.args.plan.now.right.links c.args.i c.args.i c.args.i c.requires.of_one).0

pub is_pair_fit-requires-clause-column : goal.is_pair_fit-requires-clause-column
is_pair_fit-requires-clause-column c =
    rw (c.links_of-right.ensures, c.right.ensures) (of_one_inside c.args.plan.now.left.links c.args.plan.now.right.links c.args.i c.args.i c.args.i c.requires.of_one).1

pub returns : goal.returns
returns c = λ refused meet.
    let is : c.is_pair_fit.result ≡ is_fit (length c.args.plan.now.left.links) (length c.args.plan.now.right.links) c.args.table.now.fits together c.args.i c.args.i = search rules in
    clash_apart c.forced_compounds_suit.ensures c.tables_are_ready.ensures c.args.plan.now.left c.args.plan.now.right c.args.table.now c.args.i c.args.i c.args.i c.is_pair_fit.result
    c.requires.left c.requires.right c.requires.table c.requires.of_one is refused meet
