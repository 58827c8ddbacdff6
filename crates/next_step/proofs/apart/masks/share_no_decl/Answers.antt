use Rattle.std.proofs.Common.{◌≡◌, arith}
use Rattle.std.specs.Prelude.{bit_and}
use Rattle.std.proofs.lemmas.Bool.Decides.{nat_tests}
use Rattle.next_step.proofs.Masked.{no_share}
use Rattle.next_step.proofs.apart.masks.share_no_decl.Goals as goal

pub returns : goal.returns
returns c = λ known.
    let none : bit_and c.mask_at-above.result.families c.mask_at-below.result.families ≡ 0 = grind (arith, nat_tests, known) in
    no_share c.args.indexed.now.items c.args.upper c.args.lower c.mask_at-above.result c.mask_at-below.result c.mask_at-above.ensures c.mask_at-below.ensures none
