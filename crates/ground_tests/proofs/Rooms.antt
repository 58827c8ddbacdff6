-- There is room for the small formulas of the tests.
use Rattle.std.proofs.Common.{◌≡◌, ◌+◌, ◌*◌, ◌^◌, ◌≤◌, ℕ, List, length, arith}
use Rattle.cnf.specs.declared.lit.Lit.{Lit}
use Rattle.cnf.specs.Cnf.{Cnf}
use Rattle.cnf.specs.Gates.{with_and_gate}
use Rattle.cnf.specs.Numbers.{with_at_least, with_division, remainder_digits}
use Rattle.cnf.specs.Sums.{with_adder}
use Rattle.cnf.proofs.ForCallers.{and_gate-size, adder-size, at_least-size, division-size}

pub and_gate_room : (f : Cnf) (ls : List Lit) → f.vars ≤ 8 → (with_and_gate f ls).0.vars ≤ 2 ^ 30
and_gate_room f ls h = omega (arith, (and_gate-size f ls).vars_bound)

pub adder_room : (f : Cnf) (x y : List Lit) → f.vars ≤ 8 → length x ≡ 4 → length y ≡ 4 → (with_adder f x y).0.vars ≤ 2 ^ 30
adder_room f x y h hx hy = omega (arith, (adder-size f x y).vars_bound)

pub at_least_room : (f : Cnf) (x : List Lit) (bound : ℕ) → f.vars ≤ 8 → length x ≡ 4 → (with_at_least f x bound).0.vars ≤ 2 ^ 30
at_least_room f x bound h hx = omega (arith, (at_least-size f x bound).vars_bound)

few_digits : (by : ℕ) → remainder_digits by ≤ 32
unfolding remainder_digits
few_digits by = omega arith

pub division_room : (f : Cnf) (x : List Lit) (by : ℕ) → f.vars ≤ 8 → length x ≡ 4 → (with_division f x by).formula.vars ≤ 2 ^ 30
division_room f x by h hx =
    let few = few_digits by in
    let bound : (with_division f x by).formula.vars ≤ f.vars + (3 * remainder_digits by + 2) * 4 = rw hx at (division-size f x by).vars_bound in
    omega arith

pub ruleset rooms = (and_gate_room, adder_room, at_least_room, division_room)
