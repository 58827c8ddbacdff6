use Rattle.std.proofs.Common.{◌≡◌, arith}
use Rattle.std.specs.Prelude.{bit_and}
use Rattle.std.proofs.lemmas.Bool.Decides.{nat_tests}
use Rattle.next_step.proofs.Masked.{rules_apart}
use Rattle.next_step.proofs.apart.masks.share_no_selector.Goals as goal

pub returns : goal.returns
returns c = λ known.
    let none : bit_and c.mask_at-ours.result.selectors c.mask_at-theirs.result.selectors ≡ 0 = grind (arith, nat_tests, known) in
    rules_apart c.args.indexed.now.items c.args.one c.args.other c.mask_at-ours.result c.mask_at-theirs.result c.mask_at-ours.ensures c.mask_at-theirs.ensures none
