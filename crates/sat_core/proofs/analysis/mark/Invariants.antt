use Rattle.std.proofs.Common.{◌≡◌, ◌+◌, ◌||◌, ℕ, false, length, take, get_or}
use Rattle.sat_arena.specs.Arena.{clause_at}
use Rattle.sat_core.specs.Analysis.{has_variable, marked_at}
use Rattle.sat_core.proofs.analysis.mark.Given as goal

abbrev pub invariant-loop-k : goal.invariant-loop-k
invariant-loop-k l = record {
  size : length l.seen.items ≡ l.trail.vars;
  marks : (v : ℕ) → get_or l.seen.items v false ≡ (get_or l.fn.seen.items v false || has_variable (take l.k (clause_at l.arena l.number).lits) v);
  count : marked_at l.fn.seen.items l.level l.trail.entries + l.count ≡ marked_at l.seen.items l.level l.trail.entries;
}
