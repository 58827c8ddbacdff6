-- Hints on tests that must not hold, by what the code knows of a run.
use Rattle.std.specs.Prelude.{List, false, true, ℕ, ◌+◌}
use Rattle.cnf.specs.Cnf.{Cnf}
use Rattle.cnf.specs.declared.lit.Lit.{Lit}
use Rattle.css_model.specs.Documents.SelectorParts.{SelectorParts}
use Rattle.formula_laws.specs.Asked.{starts_run}
use Rattle.formula_laws.specs.Counts.{steps_below, when}
use Rattle.formula_laws.specs.Formula.{names_of}
use Rattle.formula_laws.specs.Refused.{left_joints, right_joints, with_refused_compound, with_refused_test}
use Rattle.formula_laws.specs.declared.count.Count.{Count}
use Rattle.formula_laws.specs.declared.refused.Refused.{Refused}
use Rattle.hint_clauses.specs.Chains.{row_at, row_of}
use Rattle.hint_clauses.specs.declared.refusals.KnownRun.{KnownRun}
use Rattle.sibling_clauses.specs.declared.numbering.Numbering.{Numbering}

-- of one test
abbrev pub test_step : KnownRun → ℕ → List Lit → List Lit → Refused → Cnf → Cnf
test_step run far number others = with_refused_test run.count run.joints.items far number others

-- of the tests of the k-th compound
abbrev pub compound_step : SelectorParts → KnownRun → ℕ → Cnf → Cnf
compound_step x run = with_refused_compound run.count x.links x.chain run.joints.items (row_at run.numbering run.row) run.root run.first

-- of the left run that begins with the p-th compound
abbrev pub left_run_step : Numbering → Count → SelectorParts → SelectorParts → ℕ → Cnf → Cnf
left_run_step g count x y p = when (starts_run x.links p)
    (steps_below (g.left + 1) (with_refused_compound count x.links x.chain (left_joints count x y p) (row_at g (row_of g count false)) (names_of g.left g.right g.digits).rx p))

-- of the right run that begins with the q-th compound
abbrev pub right_run_step : Numbering → Count → SelectorParts → SelectorParts → ℕ → Cnf → Cnf
right_run_step g count x y q = when (starts_run y.links q)
    (steps_below (g.right + 1) (with_refused_compound count y.links y.chain (right_joints count x y q) (row_at g (row_of g count true)) (names_of g.left g.right g.digits).ry q))
