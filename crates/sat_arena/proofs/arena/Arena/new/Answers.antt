use Rattle.std.proofs.Common.{◌∷◌, [], ◌++◌, map, sym, ap, ◌∙◌}
use Rattle.sat_arena.specs.Arena.{WatchedClause}
use Rattle.sat_arena.proofs.WordLemmas.{take-get}
use Rattle.sat_arena.proofs.AttachLemmas.{clause_lits-push}
use Rattle.sat_arena.proofs.arena.Arena.new.Goals as goal

pub loop-k-preserved : goal.loop-k-preserved
loop-k-preserved c = record {
  vars = c.in_ok-attach.ensures.vars ∙ c.loop-k.invariant.vars;
  clauses =
      ap (map (λ (k : WatchedClause). k.lits)) c.in_ok-attach.ensures.clauses
      ∙ (clause_lits-push _ _ _
      ∙ (ap (λ ls. ls ++ c.clause.result.now ∷ []) c.loop-k.invariant.clauses
      ∙ sym (take-get c.args.f.now.clauses c.loop-k.k c.clause.result.now c.clause.ensures.clause)));
  arena = c.in_ok-attach.ensures.arena;
}
