use Rattle.std.proofs.Common.{◌≡◌, ◌↔◌, Bool, true, sym, subst}
use Rattle.css_model.specs.Cascade.Order.{WeighsKept}
use Rattle.window_order.proofs.weighing.weighs_kept.Goals as goal

pub returns : goal.returns
returns c = λ p is. subst (λ (b : Bool). (b ≡ true) ↔ WeighsKept p c.args.item.now) (sym (c.item_weighs.ensures p is)) (c.weighing_is_decided.ensures.1 p c.args.item.now)
