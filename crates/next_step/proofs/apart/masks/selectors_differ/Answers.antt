use Rattle.std.proofs.Common.{◌≡◌, arith}
use Rattle.std.proofs.lemmas.Bool.Decides.{nat_tests}
use Rattle.next_step.proofs.Masked.{no_selector_join}
use Rattle.next_step.proofs.apart.masks.selectors_differ.Goals as goal

pub returns : goal.returns
returns c = λ known.
    let differ : c.mask_at-above.result.selectors ≡ c.mask_at-below.result.selectors → ⊥ = λ same. grind (arith, nat_tests, known, same) in
    no_selector_join c.args.indexed.now.items c.args.upper c.args.lower c.mask_at-above.result c.mask_at-below.result c.mask_at-above.ensures c.mask_at-below.ensures differ
