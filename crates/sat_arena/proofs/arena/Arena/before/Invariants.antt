use Rattle.sat_arena.specs.Words.{list_from}
use Rattle.sat_arena.proofs.arena.Arena.before.Given as goal

abbrev pub ghost-predecessor : goal.ghost-predecessor
ghost-predecessor a = list_from a.words.now a.lit.0 a.first
