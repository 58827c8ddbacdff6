use Rattle.std.proofs.Common.{◌≡◌, drop}
use Rattle.sat_arena.specs.Arena.{last_or, last_watch}
use Rattle.sat_arena.proofs.words.last.Given as goal

abbrev pub invariant-loop-lit : goal.invariant-loop-lit
invariant-loop-lit l = last_or l.last (drop l.lit-index l.lits) ≡ last_watch l.lits
