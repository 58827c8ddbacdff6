use Rattle.meet_tests.proofs.fits.table.Goals as goal

pub new-requires : goal.new-requires
new-requires c = c.profile_is_fittable.ensures.table c.args.x.now c.args.y.now c.requires.left c.requires.right
