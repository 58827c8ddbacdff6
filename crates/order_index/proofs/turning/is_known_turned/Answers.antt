use Rattle.order_index.proofs.Turned.{turned_is}
use Rattle.order_index.proofs.turning.is_known_turned.Goals as goal

pub returns-clause-told : goal.returns-clause-told
returns-clause-told c =
    turned_is c.steps_have_windows.ensures c.windows_tell_pairs.ensures c.weighing_is_decided.ensures c.order_is_decided.ensures c.args.change.now.window.items.now c.args.change.now.step c.requires.change.step c.args.change.now.window
    c.requires.change.window c.args.p.now.pair c.args.q.now.pair c.is_known_reversed.result c.requires.first.moved c.requires.second.stands c.requires.weigh _ _ c.parts.ensures c.parts-2.ensures c.is_known_reversed.ensures.told
