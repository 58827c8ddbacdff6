use Rattle.compound_fit.proofs.IdParts.{id_solved}
use Rattle.compound_fit.proofs.id.solve_id.Goals as goal

pub returns : goal.returns
returns c = id_solved c.args.tests.now c.in_ok-id.id c.in_ok-fits.fits c.requires c.if-not-is_asked.ensures c.in_ok-id.ensures c.in_ok-fits.ensures
