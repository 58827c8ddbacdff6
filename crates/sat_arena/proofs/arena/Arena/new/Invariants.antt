use Rattle.std.proofs.Common.{◌≡◌, take}
use Rattle.sat_arena.specs.Arena.{clause_lits, IsArena}
use Rattle.sat_arena.proofs.arena.Arena.new.Given as goal

abbrev pub invariant-loop-k : goal.invariant-loop-k
invariant-loop-k l = record {
  vars : l.arena.vars ≡ l.f.vars;
  clauses : clause_lits l.arena ≡ take l.k l.f.clauses;
  arena : IsArena l.arena;
}
