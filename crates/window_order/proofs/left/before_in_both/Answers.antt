use Rattle.window_order.proofs.LeftTests.{above_tells, apart_tells, below_tells}
use Rattle.window_order.proofs.left.before_in_both.Goals as goal

pub returns-then-has_decl : goal.returns-then-has_decl
returns-then-has_decl c = below_tells c.args.first.now c.args.second.now c.args.decl.now c.args.other.now c.has_decl.result c.decl_before.result c.has_decl.ensures c.if-has_decl.true c.decl_before.ensures

pub returns-then-are_apart : goal.returns-then-are_apart
returns-then-are_apart c = apart_tells c.args.first.now c.args.second.now c.args.decl.now c.args.other.now c.has_decl.result c.are_apart.result c.has_decl.ensures c.if-has_decl.false c.are_apart.ensures c.if-are_apart.true

pub returns : goal.returns
returns c =
    above_tells c.args.first.now c.args.second.now c.args.decl.now c.args.other.now c.has_decl.result c.are_apart.result c.decl_before-2.result c.has_decl.ensures c.if-has_decl.false c.are_apart.ensures
    c.if-are_apart.false c.decl_before-2.ensures
