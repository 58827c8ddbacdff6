use Rattle.std.proofs.Common.{◌≡◌, ◌∷◌, [], ◌++◌, List, ap₂, arith, rules, subst, sym}
use Rattle.css_model.specs.declared.selector.Simple.{Simple}
use Rattle.compound_fit.specs.Conditions.{IsFittable}
use Rattle.compound_fit.specs.Table.{AddsFits, NoFits, with_each}
use Rattle.compound_fit.proofs.TableSteps.{map_contains, map_place, no_fits_in, one_of, with_more}
use Rattle.compound_fit.proofs.table.push_with.Goals as goal

pub push_fit-requires : goal.push_fit-requires
push_fit-requires c =
    let first : c.as_slice.result.now ≡ c.args.compound.now = search rules in
    let second : c.as_slice-in-loop-other.result.now ≡ c.other-item.result = search rules in
    subst IsFittable (sym (ap₂ (λ (s t : List Simple). s ++ t) first second))
    (map_place IsFittable (λ d. c.args.compound.now ++ d) c.args.compounds.now c.loop-other.other-index c.other-item.result (omega arith) c.other-item.is c.requires)

pub returns-in-Err-clause-err : goal.returns-in-Err-clause-err
returns-in-Err-clause-err c =
    let first : c.as_slice.result.now ≡ c.args.compound.now = search rules in
    let second : c.as_slice-in-loop-other.result.now ≡ c.other-item.result = search rules in
    let all = with_each c.args.compound.now c.args.compounds.now in
    let one = c.args.compound.now ++ c.other-item.result in
    no_fits_in c.in-Err.e (one ∷ []) all
    (one_of all one (map_contains (λ d. c.args.compound.now ++ d) c.args.compounds.now c.loop-other.other-index c.other-item.result (omega arith) c.other-item.is))
    (subst (λ (g : List Simple). NoFits c.in-Err.e (g ∷ [])) (ap₂ (λ (s t : List Simple). s ++ t) first second) c.in-Err.ensures.err)

pub loop-other-preserved : goal.loop-other-preserved
loop-other-preserved c =
    let first : c.as_slice.result.now ≡ c.args.compound.now = search rules in
    let second : c.as_slice-in-loop-other.result.now ≡ c.other-item.result = search rules in
    with_more c.args.fits.now.items c.loop-other.fits.items c.push_fit.new.fits.items c.args.compound.now c.args.compounds.now c.loop-other.other-index c.other-item.result (omega arith) c.other-item.is
    c.loop-other.invariant
    (subst (λ (g : List Simple). AddsFits c.loop-other.fits.items c.push_fit.new.fits.items (g ∷ [])) (ap₂ (λ (s t : List Simple). s ++ t) first second) c.in-Ok.ensures.ok)
