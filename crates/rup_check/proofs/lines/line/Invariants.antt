use Rattle.std.proofs.Common.{◌≡◌, ◌++◌, ℕ, List, IsTrue, length}
use Rattle.cnf.specs.declared.lit.Lit.{Lit}
use Rattle.cnf.specs.Lits.{are_below}
use Rattle.rup_check.specs.Fronts.{lits_text}
use Rattle.rup_check.specs.Text.{line_text}
use Rattle.rup_check.proofs.FrontLemmas.{IsLeft}
use Rattle.rup_check.proofs.lines.line.Given as goal

abbrev pub invariant-literals : goal.invariant-literals
invariant-literals l = record {
  in_range : IsTrue (are_below l.vars l.lits.items);
  parts : l.fn.text ≡ lits_text l.lits.items ++ l.rest;
  whole : (clause : List Lit) (more : List ℕ) → IsTrue (are_below l.vars clause) → l.fn.text ≡ line_text clause ++ more → IsLeft l.vars l.rest more;
}

abbrev pub decreases-literals : goal.decreases-literals
decreases-literals l = length l.rest
