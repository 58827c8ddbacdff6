use Rattle.std.proofs.Common.{◌≡◌, drop}
use Rattle.sat_arena.specs.Arena.{last_unlike_or}
use Rattle.sat_arena.proofs.words.last_unlike.Given as goal

abbrev pub invariant-loop-lit : goal.invariant-loop-lit
invariant-loop-lit l = last_unlike_or l.one l.last (drop l.lit-index l.lits) ≡ last_unlike_or l.one l.one l.lits
