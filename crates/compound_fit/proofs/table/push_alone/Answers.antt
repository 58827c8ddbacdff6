use Rattle.std.proofs.Common.{arith}
use Rattle.compound_fit.specs.Conditions.{IsFittable}
use Rattle.compound_fit.proofs.TableSteps.{alone_more, at_place}
use Rattle.compound_fit.proofs.table.push_alone.Goals as goal

pub push_one-requires : goal.push_one-requires
push_one-requires c = at_place IsFittable c.args.compounds.now c.loop-compound.compound-index c.compound-item.result (omega arith) c.compound-item.is c.requires

pub loop-compound-preserved : goal.loop-compound-preserved
loop-compound-preserved c =
    alone_more c.args.fits.now.items c.loop-compound.fits.items c.push_one.new.fits.items c.args.compounds.now c.loop-compound.compound-index c.compound-item.result (omega arith) c.compound-item.is
    c.loop-compound.invariant c.in-Ok.ensures.ok
