use Rattle.std.proofs.Common.{arith}
use Rattle.cnf.proofs.GrowLemmas.{half_adder-grows, full_adder-grows}
use Rattle.cnf.proofs.sums.cell.Goals as goal

pub half_adder-requires-clause-room : goal.half_adder-requires-clause-room
half_adder-requires-clause-room c =
    let room = rw (c.in-None-Some.is-0, c.in-None-Some.is-1) at c.requires.room in
    omega (arith, room, half_adder-grows c.args.f.now c.args.first c.in-None-Some.carry)

pub half_adder-requires-in-Some-None-clause-room : goal.half_adder-requires-in-Some-None-clause-room
half_adder-requires-in-Some-None-clause-room c =
    let room = rw (c.in-Some-None.is-0, c.in-Some-None.is-1) at c.requires.room in
    omega (arith, room, half_adder-grows c.args.f.now c.args.first c.in-Some-None.second)

pub full_adder-requires-clause-room : goal.full_adder-requires-clause-room
full_adder-requires-clause-room c =
    let room = rw (c.in-Some-Some.is-0, c.in-Some-Some.is-1) at c.requires.room in
    omega (arith, room, full_adder-grows c.args.f.now c.args.first c.in-Some-Some.second c.in-Some-Some.carry)
