use Rattle.std.proofs.Common.{◌≡◌, drop}
use Rattle.sel_parse.proofs.terms.Terms.skip.Given as goal

abbrev pub invariant-terms : goal.invariant-terms
invariant-terms l = drop l.left l.rest ≡ drop l.n l.self

abbrev pub decreases-terms : goal.decreases-terms
decreases-terms l = l.left
