use Rattle.std.proofs.Common.{List, subst}
use Rattle.css_model.specs.declared.sheet.Item.{Item}
use Rattle.planner.proofs.trying.obstacle_on.Goals as goal
use Rattle.repeat_laws.specs.Repeats.{CutsRepeat}

pub returns-then-is_repeat_cut-clause-free : goal.returns-then-is_repeat_cut-clause-free
returns-then-is_repeat_cut-clause-free g c = λ e is. c.repeats_are_free.ensures (g.O.Obstacles.answers c.args.obstacles.now) c.requires.plannable.0 c.args.indexed.now.items c.args.step.now e c.requires.plannable.1.sound
    (subst (λ (items : List Item). CutsRepeat items c.args.step.now) c.items.ensures (c.is_repeat_cut.ensures c.if-is_repeat_cut.true)) is
