use Rattle.std.proofs.Common.{List, ℕ, Some, ap, subst, sym, ◌∙◌}
use Rattle.std.specs.List.{Contains}
use Rattle.inspect_text.proofs.Placing.{found_there, is_there}
use Rattle.inspect_text.proofs.groups.group_of.Goals as goal

pub unreachable-requires : goal.unreachable-requires
unreachable-requires c =
    is_there c.args.families.now c.in_ok-family.family c.in-Err.field-0 c.requires.ascending
    (subst (λ (name : List ℕ). Contains c.args.families.now name) (sym c.in_ok-family.ensures) c.requires.there) c.in-Err.ensures.position

pub returns : goal.returns
returns c = found_there c.args.families.now c.in_ok-family.family c.in-Ok.number c.in-Ok.ensures.bound c.in-Ok.ensures.ok ∙ ap Some c.in_ok-family.ensures
