use Rattle.std.proofs.Common.{ap, ◌∙◌}
use Rattle.inspect_laws.specs.Entries.{Entry}
use Rattle.inspect_text.specs.Claims.{is_overridden}
use Rattle.inspect_text.proofs.Beating.{beaten_by_claims}
use Rattle.inspect_text.proofs.claims.is_beaten.Goals as goal

pub returns : goal.returns
returns c = λ before are.
    c.is_overridden.ensures before are ∙ ap (λ (e : Entry). is_overridden before e.decl.name e.head) c.e.view_is ∙ beaten_by_claims before c.args.e.now
