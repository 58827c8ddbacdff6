use Rattle.std.proofs.Common.{rules, ◌≡◌, ℕ, ◌<◌, ◌≤◌, true, sym, ap, inl, inr, arith}
use Rattle.css_model.specs.declared.sheet.Item.{Item}
use Rattle.order_index.proofs.TurnedKept.{kept_outside, kept_turned_is}
use Rattle.order_index.proofs.turning.is_turned_kept.Goals as goal
use Rattle.order_laws.specs.Comparing.{weighs_kept}

pub returns-then-kept-change : goal.returns-then-kept-change
returns-then-kept-change c =
    let number : c.args.kept.now.0 ≡ c.kept.inside.number = sym (ap (λ (k : ℕ × Item). k.0) c.kept.view_is) in
    let out : c.args.kept.now.0 < c.args.change.now.window.start = omega (arith, c.if-kept-change.true, number) in
    sym (kept_outside c.steps_have_windows.ensures c.windows_tell_kept.ensures c.weighing_is_decided.ensures c.order_is_decided.ensures c.args.change.now.window.items.now c.args.change.now.step c.requires.change.step c.args.change.now.window
    c.requires.change.window c.args.p.now.pair c.requires.first.moved c.args.kept.now.0 c.args.kept.now.1 c.requires.second.at c.requires.second.kept (inl out))

pub returns-then-change-kept : goal.returns-then-change-kept
returns-then-change-kept c =
    let number : c.args.kept.now.0 ≡ c.kept.inside.number = sym (ap (λ (k : ℕ × Item). k.0) c.kept.view_is) in
    let out : c.args.change.now.window.last < c.args.kept.now.0 = omega (arith, c.if-change-kept.true, number) in
    sym (kept_outside c.steps_have_windows.ensures c.windows_tell_kept.ensures c.weighing_is_decided.ensures c.order_is_decided.ensures c.args.change.now.window.items.now c.args.change.now.step c.requires.change.step c.args.change.now.window
    c.requires.change.window c.args.p.now.pair c.requires.first.moved c.args.kept.now.0 c.args.kept.now.1 c.requires.second.at c.requires.second.kept (inr out))

pub returns : goal.returns
returns c =
    let number : c.args.kept.now.0 ≡ c.kept.inside.number = sym (ap (λ (k : ℕ × Item). k.0) c.kept.view_is) in
    let low : c.args.change.now.window.start ≤ c.args.kept.now.0 = omega (arith, c.if-kept-change.false, number) in
    let high : c.args.kept.now.0 ≤ c.args.change.now.window.last = omega (arith, c.if-change-kept.false, number) in
    let weighs : weighs_kept c.args.p.now.pair c.args.kept.now.1 ≡ true = search rules in
    kept_turned_is c.steps_have_windows.ensures c.windows_tell_kept.ensures c.weighing_is_decided.ensures c.order_is_decided.ensures c.args.change.now.window.items.now c.args.change.now.step c.requires.change.step c.args.change.now.window
    c.requires.change.window c.args.p.now.pair c.requires.first.moved c.args.kept.now.0 c.args.kept.now.1 c.requires.second.at c.requires.second.kept c.is_kept_reversed.result low high weighs _ c.parts.ensures c.kept.inside.number (sym number)
    c.is_kept_reversed.ensures
