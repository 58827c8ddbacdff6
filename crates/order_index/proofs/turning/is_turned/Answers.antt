use Rattle.std.proofs.Common.{rules, ◌≡◌, true}
use Rattle.order_index.proofs.Turned.{turned_is}
use Rattle.order_index.proofs.turning.is_turned.Goals as goal
use Rattle.order_laws.specs.Comparing.{weigh}

pub returns : goal.returns
returns c =
    let weighs : weigh c.args.p.now.pair c.args.q.now.pair ≡ true = search rules in
    turned_is c.steps_have_windows.ensures c.windows_tell_pairs.ensures c.weighing_is_decided.ensures c.order_is_decided.ensures c.args.change.now.window.items.now c.args.change.now.step c.requires.change.step c.args.change.now.window
    c.requires.change.window c.args.p.now.pair c.args.q.now.pair c.is_reversed.result c.requires.first.moved c.requires.second.stands weighs _ _ c.parts.ensures c.parts-2.ensures c.is_reversed.ensures
