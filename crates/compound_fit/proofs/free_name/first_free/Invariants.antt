use Rattle.std.proofs.Common.{◌≡◌, ℕ, ◌<◌, true}
use Rattle.compound_fit.specs.FreeNames.{free_name, is_among}
use Rattle.compound_fit.proofs.free_name.first_free.Given as goal

abbrev pub invariant-loop-number : goal.invariant-loop-number
invariant-loop-number l = (k : ℕ) → k < l.number → is_among l.refused (free_name k) ≡ true
