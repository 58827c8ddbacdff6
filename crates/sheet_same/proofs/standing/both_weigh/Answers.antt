use Rattle.std.proofs.Common.{◌≡◌, false, sym, ap₂, ◌∙◌}
use Rattle.sheet_same.specs.declared.weight.Weight.{Weight}
use Rattle.sheet_same.specs.Standing.{Standing, members_weigh}
use Rattle.sheet_same.specs.Weight.{may_weigh}
use Rattle.sheet_same.proofs.Weights.{weights_tell}
use Rattle.sheet_same.proofs.standing.both_weigh.Goals as goal

pub returns-else-may_weigh : goal.returns-else-may_weigh
returns-else-may_weigh c =
    let no : may_weigh c.m.inside.weight c.x.inside.weight ≡ false = sym c.may_weigh.ensures ∙ c.if-may_weigh.false in
    let none = weights_tell c.weighing_is_decided.ensures c.m.inside.member c.x.inside.member (ap₂ (λ (v w : Weight). may_weigh v w) (sym c.m.invariant) (sym c.x.invariant) ∙ no) in
    c.if-may_weigh.false ∙ sym none ∙ ap₂ (λ (y z : Standing). members_weigh y.member z.member) c.m.view_is c.x.view_is
