use Rattle.std.proofs.Common.{◌≡◌, ℕ, ◌+◌, ◌||◌, false, drop, slice_index_or}
use Rattle.attr_values.specs.Separators.{first_separator, holds}
use Rattle.attr_values.proofs.separators.mark_all.Given as goal

abbrev pub invariant-loop-c : goal.invariant-loop-c
invariant-loop-c l = (k : ℕ) → (slice_index_or l.marks.items k false || holds (first_separator + k) (drop l.c-index l.text)) ≡ (slice_index_or l.initial.marks.items k false || holds (first_separator + k) l.text)
