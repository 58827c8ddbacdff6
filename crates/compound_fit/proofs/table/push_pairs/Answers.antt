use Rattle.std.proofs.Common.{arith}
use Rattle.std.specs.List.{flat_map}
use Rattle.compound_fit.specs.Conditions.{IsFittable}
use Rattle.compound_fit.specs.Table.{with_each}
use Rattle.compound_fit.proofs.TableSteps.{flat_contains, flat_place, no_fits_in, pairs_more}
use Rattle.compound_fit.proofs.table.push_pairs.Goals as goal

pub push_with-requires : goal.push_with-requires
push_with-requires c =
    flat_place IsFittable (λ first. with_each first c.args.y.now) c.args.x.now c.loop-compound.compound-index c.compound-item.result (omega arith) c.compound-item.is c.requires

pub returns-in-Err-clause-err : goal.returns-in-Err-clause-err
returns-in-Err-clause-err c =
    no_fits_in c.in-Err.e (with_each c.compound-item.result c.args.y.now) (flat_map (λ first. with_each first c.args.y.now) c.args.x.now)
    (λ g has. flat_contains (λ first. with_each first c.args.y.now) c.args.x.now c.loop-compound.compound-index c.compound-item.result g (omega arith) c.compound-item.is has) c.in-Err.ensures.err

pub loop-compound-preserved : goal.loop-compound-preserved
loop-compound-preserved c =
    pairs_more c.args.fits.now.items c.loop-compound.fits.items c.push_with.new.fits.items c.args.y.now c.args.x.now c.loop-compound.compound-index c.compound-item.result (omega arith) c.compound-item.is
    c.loop-compound.invariant c.in-Ok.ensures.ok
