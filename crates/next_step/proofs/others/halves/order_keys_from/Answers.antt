use Rattle.std.proofs.Common.{subst, sym}
use Rattle.std.proofs.lemmas.List.{take_rest}
use Rattle.next_step.specs.Halves.{AreAbove}
use Rattle.next_step.proofs.Halves.{above_are}
use Rattle.next_step.proofs.others.halves.order_keys_from.Goals as goal

pub returns : goal.returns
returns c = subst (AreAbove c.args.order_keys.now c.args.at) (sym (take_rest c.args.order_keys.now c.args.number))
    (above_are c.args.order_keys.now c.requires.ascends c.args.at c.args.number c.requires.place c.requires.before c.requires.behind)
