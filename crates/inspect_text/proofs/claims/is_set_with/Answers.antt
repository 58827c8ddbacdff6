use Rattle.std.proofs.Common.{Bool, ap₂, ◌∙◌}
use Rattle.std.specs.Prelude.{◌||◌}
use Rattle.std.specs.Option.{option_copied}
use Rattle.inspect_text.proofs.Beating.{set_by_claims}
use Rattle.inspect_text.proofs.claims.is_set_with.Goals as goal

pub returns : goal.returns
returns c = λ before are.
    c.either.ensures ∙ ap₂ (λ (a b : Bool). a || b) c.is_set-outside.ensures c.is_set-inside.ensures
    ∙ set_by_claims before c.args.claims.now.keys c.args.name.now (option_copied c.args.head) are
