use Rattle.std.proofs.Common.{sym, ap₂, subst, ◌∙◌}
use Rattle.std.proofs.lemmas.Result.{on_ok_weaker}
use Rattle.turned_members.specs.Telling.{Steps}
use Rattle.turned_members.specs.Turned.{Couple, couple}
use Rattle.turned_members.specs.Walking.{Walked}
use Rattle.turned_members.proofs.Tells.{told_turned}
use Rattle.turned_members.proofs.walk.tell_one.Goals as goal

pub returns-then-is_turned-clause-tells : goal.returns-then-is_turned-clause-tells
returns-then-is_turned-clause-tells c =
    let same = ap₂ (λ (w x : Walked). couple w.common x.common) c.w.view_is c.x.view_is in
    on_ok_weaker c.tell.result
    (λ steps. told_turned c.args.limit c.tell.new.pairs c.args.told.now.items c.tell.new.told.items c.args.w.now.common c.args.x.now.common
    (sym c.if-is_turned.true ∙ c.is_turned.ensures)
    (subst (λ (x : Couple). Steps c.tell.new.pairs.answers c.args.limit c.args.told.now.items x c.tell.new.told.items) same steps))
    c.tell.ensures.steps
