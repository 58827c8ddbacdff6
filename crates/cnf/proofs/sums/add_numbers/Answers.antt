use Rattle.std.proofs.Common.{None, ◌∙◌, arith}
use Rattle.cnf.specs.Sums.{columns, with_columns, with_adder}
use Rattle.cnf.proofs.GrowLemmas.{carry-grows}
use Rattle.cnf.proofs.SumLemmas.{columns_below-both}
use Rattle.cnf.proofs.sums.add_numbers.Goals as goal

pub add_columns-requires-clause-in_range : goal.add_columns-requires-clause-in_range
add_columns-requires-clause-in_range c =
    rw (c.deref.ensures.value, c.in_ok-columns.ensures) (columns_below-both c.args.f.now.vars c.args.x.now c.args.y.now c.requires.x c.requires.y)

pub add_columns-requires-clause-room : goal.add_columns-requires-clause-room
unfolding with_adder
add_columns-requires-clause-room c =
    let below = with_columns c.args.f.now None (columns c.args.x.now c.args.y.now) in
    rw (c.deref.ensures.value, c.in_ok-columns.ensures) (omega (arith, c.requires.room, carry-grows below.formula below.carry))

pub top_digit-requires : goal.top_digit-requires
unfolding with_adder
top_digit-requires c =
    rw (c.in_ok-digits.ensures.formula, c.in_ok-digits.ensures.carry, c.deref.ensures.value, c.in_ok-columns.ensures) c.requires.room

pub returns-clause-formula : goal.returns-clause-formula
unfolding with_adder
returns-clause-formula c =
    c.in_ok-top.ensures.formula
    ∙ rw (c.in_ok-digits.ensures.formula, c.in_ok-digits.ensures.carry, c.deref.ensures.value, c.in_ok-columns.ensures)

pub returns-clause-digits : goal.returns-clause-digits
unfolding with_adder
returns-clause-digits c =
    c.in_ok-push.ensures.items
    ∙ rw (c.in_ok-digits.ensures.sums, c.in_ok-top.ensures.digit, c.in_ok-digits.ensures.formula, c.in_ok-digits.ensures.carry, c.deref.ensures.value, c.in_ok-columns.ensures)
