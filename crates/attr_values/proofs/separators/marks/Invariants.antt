use Rattle.std.proofs.Common.{◌≡◌, ℕ, ◌+◌, ◌||◌, false, drop, slice_index_or}
use Rattle.attr_values.specs.Separators.{first_separator, is_used}
use Rattle.attr_values.proofs.separators.marks.Given as goal

abbrev pub invariant-loop-test : goal.invariant-loop-test
invariant-loop-test l = (k : ℕ) → (slice_index_or l.marks.items k false || is_used (first_separator + k) (drop l.test-index l.tests)) ≡ is_used (first_separator + k) l.tests
