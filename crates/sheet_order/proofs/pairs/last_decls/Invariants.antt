use Rattle.std.proofs.Common.{length}
use Rattle.sheet_order.proofs.LastDecls.{EndsAt}
use Rattle.sheet_order.proofs.pairs.last_decls.Given as goal

-- the last ones of the declarations behind
abbrev pub invariant-rest : goal.invariant-rest
invariant-rest l = EndsAt l.decls l.rest l.lasts.keys

abbrev pub decreases-rest : goal.decreases-rest
decreases-rest l = length l.rest
