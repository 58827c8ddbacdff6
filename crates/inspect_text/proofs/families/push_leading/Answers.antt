use Rattle.std.proofs.Common.{List, ℕ, ◌++◌, ◌∙◌, subst, sym}
use Rattle.inspect_text.specs.Leading as spec
use Rattle.inspect_text.proofs.Leading.{leading_one}
use Rattle.inspect_text.proofs.families.push_leading.Goals as goal

pub returns-in_ok-push_name : goal.returns-in_ok-push_name
returns-in_ok-push_name c =
    subst (λ (xs : List (List ℕ)). spec.SameNames c.push_name.new.names.items (c.args.names.now.items ++ xs))
    (leading_one c.args.only_all c.args.e.now c.in_ok-name.name (sym c.leads.ensures ∙ c.if-leads.true) c.in_ok-name.ensures) c.in_ok-push_name.ensures
