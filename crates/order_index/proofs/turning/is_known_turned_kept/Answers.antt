use Rattle.std.proofs.Common.{◌≡◌, ℕ, sym, ap}
use Rattle.css_model.specs.declared.sheet.Item.{Item}
use Rattle.order_index.proofs.TurnedKept.{kept_turned_is}
use Rattle.order_index.proofs.turning.is_known_turned_kept.Goals as goal

pub returns-clause-told : goal.returns-clause-told
returns-clause-told c =
    let number : c.args.kept.now.0 ≡ c.kept.inside.number = sym (ap (λ (k : ℕ × Item). k.0) c.kept.view_is) in
    kept_turned_is c.steps_have_windows.ensures c.windows_tell_kept.ensures c.weighing_is_decided.ensures c.order_is_decided.ensures c.args.change.now.window.items.now c.args.change.now.step c.requires.change.step c.args.change.now.window
    c.requires.change.window c.args.p.now.pair c.requires.first.moved c.args.kept.now.0 c.args.kept.now.1 c.requires.second.at c.requires.second.kept c.is_known_kept_reversed.result c.requires.above c.requires.below c.requires.weighs _ c.parts.ensures
    c.kept.inside.number (sym number) c.is_known_kept_reversed.ensures.told
