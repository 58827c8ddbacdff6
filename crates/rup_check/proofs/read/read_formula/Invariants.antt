use Rattle.std.proofs.Common.{◌≡◌, ◌++◌, IsTrue, length}
use Rattle.std.specs.List.{list_all}
use Rattle.cnf.specs.Lits.{are_below}
use Rattle.rup_check.specs.Text.{lines_text}
use Rattle.rup_check.proofs.read.read_formula.Given as goal

abbrev pub invariant-loop-k : goal.invariant-loop-k
invariant-loop-k l = record {
  vars : l.formula.vars ≡ l.vars;
  count : length l.formula.clauses ≡ l.k;
  in_range : IsTrue (list_all (are_below l.vars) l.formula.clauses);
  parts : l.lines ≡ lines_text l.formula.clauses ++ l.rest;
}
