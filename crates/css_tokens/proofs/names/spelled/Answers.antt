use Rattle.std.proofs.Common.{◌≤◌}
use Rattle.css_tokens.proofs.SaidLemmas.{wide_unlike}
use Rattle.css_tokens.proofs.names.spelled.Goals as goal

pub returns-in-Code-clause-cases : goal.returns-in-Code-clause-cases
returns-in-Code-clause-cases c =
    let code = c.in-Code.field-0 in
    let wide : 128 ≤ code = rw c.in-Code.is at c.requires.wide in
    rw c.in-Code.is (λ more. wide_unlike code more c.args.word.now wide c.requires.ascii)
