use Rattle.std.proofs.Common.{◌≡◌, arith}
use Rattle.std.specs.Prelude.{bit_and}
use Rattle.std.proofs.lemmas.Bool.Decides.{nat_tests}
use Rattle.next_step.proofs.Masked.{keeps_decl}
use Rattle.next_step.proofs.apart.masks.has_own_family.Goals as goal

pub returns : goal.returns
returns c = λ known.
    let differ : bit_and c.mask_at-ours.result.families c.mask_at-theirs.result.families ≡ c.mask_at-ours.result.families → ⊥ = λ same. grind (arith, nat_tests, known, same) in
    keeps_decl c.args.indexed.now.items c.args.one c.args.other c.mask_at-ours.result c.mask_at-theirs.result c.mask_at-ours.ensures c.mask_at-theirs.ensures differ
