use Rattle.std.proofs.Common.{refl, ap}
use Rattle.css_model.specs.Cascade.Order.{Pair}
use Rattle.turned_members.proofs.Weights.{kept_test}
use Rattle.turned_members.proofs.weighing.kept_weighs.Goals as goal

pub returns : goal.returns
returns c =
    let p : Pair = record { selector = c.p.inside.selector.now; decl = c.p.inside.decl.now } in
    kept_test c.weighing_is_decided.ensures c.weighs_kept.result p c.args.p.now c.args.item.now (c.weighs_kept.ensures p refl)
    (ap (λ (x : Pair). x.decl.name) c.p.view_is) (ap (λ (x : Pair). x.decl.important) c.p.view_is)
