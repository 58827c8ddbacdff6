use Rattle.std.proofs.Common.{Bool, List, ℕ, ap, ap₂, ◌∙◌}
use Rattle.std.specs.Prelude.{◌||◌, codes}
use Rattle.std.specs.Option.{option_copied}
use Rattle.inspect_text.specs.Claims.{is_set_with}
use Rattle.inspect_text.proofs.claims.is_overridden.Goals as goal

pub returns : goal.returns
returns c = λ before are.
    c.either.ensures ∙ ap₂ (λ (a b : Bool). a || b) (c.is_set_with-same.ensures before are) (c.is_set_with-all.ensures before are)
    ∙ ap (λ (name : List ℕ). is_set_with before name (option_copied c.args.head) || is_set_with before (codes "all") (option_copied c.args.head)) c.codes.ensures.value
