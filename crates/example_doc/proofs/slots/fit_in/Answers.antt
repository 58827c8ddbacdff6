use Rattle.std.proofs.Common.{arith, None, length, subst, sym, ℕ, ◌<◌}
use Rattle.compound_fit.specs.Fitting.{AreFeatures}
use Rattle.example_doc.proofs.Table.{fit_at, is_the, none_is_no}
use Rattle.example_doc.proofs.slots.fit_in.Goals as goal
use Rattle.slot_plan.specs.ValidShape.{simples_in}

pub bounds-fits-group : goal.bounds-fits-group
bounds-fits-group c =
    subst (λ l. c.group_in-group.result < length l) (sym c.fits.ensures)
    (subst (λ (n : ℕ). n < length c.args.fits.now.fits) (sym c.group_in-group.ensures)
    (fit_at c.args.fits.now c.args.plan.now.left c.args.plan.now.right c.args.shape.now c.args.slot None c.requires.table c.requires.valid c.requires.slot).0)

pub offset_bounds-fits-group : goal.offset_bounds-fits-group
offset_bounds-fits-group c = let h = bounds-fits-group c in omega (arith, c.fits.type_inv)

pub unreachable-requires : goal.unreachable-requires
unreachable-requires c =
    let f = fit_at c.args.fits.now c.args.plan.now.left c.args.plan.now.right c.args.shape.now c.args.slot c.index-fits-group.result c.requires.table c.requires.valid c.requires.slot in
    none_is_no c.args.fits.now.fits c.fits.result.now c.group_in-group.result _ c.index-fits-group.result f.1.0 c.fits.ensures c.group_in-group.ensures c.index-fits-group.is f.1.1 c.in-None.is

pub returns : goal.returns
returns c =
    let f = fit_at c.args.fits.now c.args.plan.now.left c.args.plan.now.right c.args.shape.now c.args.slot c.index-fits-group.result c.requires.table c.requires.valid c.requires.slot in
    subst (λ g. AreFeatures g (simples_in c.args.plan.now.left c.args.plan.now.right c.args.shape.now c.args.slot))
    (is_the c.args.fits.now.fits c.fits.result.now c.group_in-group.result _ c.index-fits-group.result f.1.0 c.in-Some.features c.fits.ensures c.group_in-group.ensures c.index-fits-group.is f.1.1 c.in-Some.is)
    f.1.2
