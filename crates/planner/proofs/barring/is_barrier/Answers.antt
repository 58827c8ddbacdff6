use Rattle.std.proofs.Common.{sym, subst}
use Rattle.pending_laws.specs.declared.way.Way.{Way}
use Rattle.planner.proofs.barring.is_barrier.Goals as goal
use Rattle.planner.specs.Barring.{StandsAloneOn}

pub returns-in-Up : goal.returns-in-Up
returns-in-Up c = λ yes p q p_is q_is.
    subst (λ (way : Way). StandsAloneOn way c.args.indexed.now.items c.args.moved.now.item c.args.other.now.item p q) (sym c.in-Up.is) (c.stands_alone.ensures yes p q p_is q_is)

pub returns-in-Down : goal.returns-in-Down
returns-in-Down c = λ yes p q p_is q_is.
    subst (λ (way : Way). StandsAloneOn way c.args.indexed.now.items c.args.moved.now.item c.args.other.now.item p q) (sym c.in-Down.is) (c.stands_alone-in-Down.ensures yes q p q_is p_is)
