use Rattle.std.proofs.Common.{take, ◌≡◌}
use Rattle.std.specs.List.{filter_map}
use Rattle.formula_laws.specs.Refused.{refused_test}
use Rattle.hint_clauses.proofs.refused.refused_tests.Given as goal

abbrev pub invariant-loop-simple : goal.invariant-loop-simple
invariant-loop-simple l = l.tests.items ≡ filter_map (refused_test l.count) (take l.simple-index l.simples)
