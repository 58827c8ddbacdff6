use Rattle.std.proofs.Common.{take, rules, ◌∙◌}
use Rattle.cnf.proofs.DivisionLemmas.{few, many, scaled-below}
use Rattle.cnf.proofs.LitLemmas.{are_below-take}
use Rattle.cnf.proofs.division.reduce.Goals as goal

pub returns-then-x-digits-clause-formula : goal.returns-then-x-digits-clause-formula
returns-then-x-digits-clause-formula c =
    let short = rw c.digits_of_remainder-digits.ensures.value at c.if-x-digits.true in
    rw (few c.args.f.now c.args.fits c.args.x.now c.args.by short) (search rules)

pub returns-then-x-digits-clause-rest : goal.returns-then-x-digits-clause-rest
returns-then-x-digits-clause-rest c =
    let short = rw c.digits_of_remainder-digits.ensures.value at c.if-x-digits.true in
    rw (few c.args.f.now c.args.fits c.args.x.now c.args.by short) c.from_slice.ensures.items

pub add_columns-requires-clause-in_range : goal.add_columns-requires-clause-in_range
add_columns-requires-clause-in_range c =
    rw (c.deref.ensures.value, c.in_ok-columns.ensures) (scaled-below c.args.f.now.vars c.args.fits _ (take c.digits_of_remainder-digits.result c.args.x.now) c.requires.fits (are_below-take c.args.f.now.vars c.digits_of_remainder-digits.result c.args.x.now c.requires.in_range))

pub add_columns-requires-clause-room : goal.add_columns-requires-clause-room
add_columns-requires-clause-room c =
    let long = rw c.digits_of_remainder-digits.ensures.value at c.if-x-digits.false in
    rw (c.deref.ensures.value, c.in_ok-columns.ensures, c.complement-factor.ensures, c.digits_of_remainder-digits.ensures.value) (rw (many c.args.f.now c.args.fits c.args.x.now c.args.by long) at c.requires.room)

pub returns-clause-formula : goal.returns-clause-formula
returns-clause-formula c =
    let long = rw c.digits_of_remainder-digits.ensures.value at c.if-x-digits.false in
    c.in_ok-sums.ensures.formula
    ∙ rw (many c.args.f.now c.args.fits c.args.x.now c.args.by long, c.deref.ensures.value, c.in_ok-columns.ensures, c.complement-factor.ensures, c.digits_of_remainder-digits.ensures.value)

pub returns-clause-rest : goal.returns-clause-rest
returns-clause-rest c =
    let long = rw c.digits_of_remainder-digits.ensures.value at c.if-x-digits.false in
    c.in_ok-sums.ensures.sums
    ∙ rw (many c.args.f.now c.args.fits c.args.x.now c.args.by long, c.deref.ensures.value, c.in_ok-columns.ensures, c.complement-factor.ensures, c.digits_of_remainder-digits.ensures.value)
