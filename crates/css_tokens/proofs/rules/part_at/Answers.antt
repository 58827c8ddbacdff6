use Rattle.std.proofs.Common.{◌≡◌, Ok, sym, ◌∙◌}
use Rattle.css_model.specs.Text.TokenAt.{rule_at}
use Rattle.css_tokens.proofs.PartLemmas.{rule_len}
use Rattle.css_tokens.proofs.rules.part_at.Goals as goal

pub returns-then-len-text-clause-fits : goal.returns-then-len-text-clause-fits
returns-then-len-text-clause-fits c =
    let is : rule_at c.args.text.now ≡ Ok (c.in_ok-kind.kind, c.in_ok-kind.len) = sym c.rule_at.ensures ∙ c.in_ok-kind.was in
    (rule_len c.args.text.now (c.in_ok-kind.kind, c.in_ok-kind.len) is, c.if-len-text.true)
