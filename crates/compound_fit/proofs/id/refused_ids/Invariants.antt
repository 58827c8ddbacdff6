use Rattle.std.proofs.Common.{◌≡◌, ◌++◌, drop}
use Rattle.attr_values.specs.Asked.{is_equal, refused}
use Rattle.compound_fit.proofs.id.refused_ids.Given as goal

abbrev pub invariant-loop-test : goal.invariant-loop-test
invariant-loop-test l = l.ids.items ++ refused is_equal (drop l.test-index l.tests) ≡ refused is_equal l.tests
