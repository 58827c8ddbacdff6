-- Two runs of direct neighbours, one of each selector.
use Rattle.std.specs.Prelude.{length, suc, ℕ, ◌++◌, ◌<◌, ◌≡◌}
use Rattle.std.specs.List.{AllByRecursion}
use Rattle.cnf.specs.Cnf.{Cnf}
use Rattle.cnf.specs.Gates.{with_clauses}
use Rattle.cnf.specs.Numbers.{with_division}
use Rattle.css_model.specs.Documents.SelectorParts.{SelectorParts}
use Rattle.formula_laws.specs.Asked.{run_rests}
use Rattle.formula_laws.specs.Hints.{Owns, cell_rests}
use Rattle.formula_laws.specs.Path.{each_below}
use Rattle.hint_clauses.specs.declared.runs.Runs.{Runs}
use Rattle.remainders.specs.Remainders.{joint_step}
use Rattle.remainders.specs.Sizes.{IsShort}

-- what is asked of two runs of these selectors, in short remainders, and its joint step
pub record AreRuns (runs : Runs) (x y : SelectorParts) : Type 0 where
  pub left : runs.left_rests.items ≡ run_rests runs.count x.links x.chain runs.left
  pub right : runs.right_rests.items ≡ run_rests runs.count y.links y.chain runs.right
  pub left_short : AllByRecursion IsShort runs.left_rests.items
  pub right_short : AllByRecursion IsShort runs.right_rests.items
  pub step : runs.step ≡ joint_step (runs.left_rests.items ++ runs.right_rests.items)
  pub some : 0 < runs.step

-- the hints of two runs of which something is asked, by one division
abbrev pub with_cells : SelectorParts → SelectorParts → Owns → ℕ → ℕ → Cnf → Cnf
with_cells x y owns p q f =
    let d = with_division f (owns.left p) (joint_step (run_rests owns.count x.links x.chain p ++ run_rests owns.count y.links y.chain q)) in
    with_clauses d.formula (each_below (suc (length x.links)) (λ i. each_below (suc (length y.links)) (λ j. cell_rests owns.count x y p q d.remainder i j)))
