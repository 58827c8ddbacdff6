use Rattle.std.proofs.Common.{◌≡◌, ◌++◌, drop}
use Rattle.cnf.specs.Numbers.{scaled_columns}
use Rattle.cnf.proofs.division.scaled.Given as goal

abbrev pub invariant-loop-digit : goal.invariant-loop-digit
invariant-loop-digit l =
    l.columns.items ++ scaled_columns l.gate l.rest (drop l.digit-index l.digits) ≡ scaled_columns l.gate l.fn.factor l.digits
