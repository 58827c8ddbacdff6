-- Two selectors of which one has a combinator (own).
use Rattle.std.specs.Prelude.{◌≡◌, ◌≢◌, ◌≤◌, ℕ, List, Option, Some, None, length, IsTrue}
use Rattle.cnf.specs.Budgets.{no_limit}
use Rattle.cnf.specs.Cnf.{Cnf}
use Rattle.cnf.specs.declared.lit.Lit.{Lit}
use Rattle.cnf.specs.Propagation.{IsLedger}
use Rattle.css_model.specs.Cascade.Order.{Meet as TheyMeet}
use Rattle.css_model.specs.declared.example.Example.{Example}
use Rattle.css_model.specs.Documents.SelectorParts.{SelectorParts}
use Rattle.clause_encode.specs.Fits.{IsSmallFormula, pair_formula}
use Rattle.compound_fit.specs.Table.{IsTable}
use Rattle.compound_fit.specs.TableParts.{TableParts}
use Rattle.shape_laws.specs.Document.Laws.{ShowsMeeting}
use Rattle.example_doc.specs.Built.{most_lines}
use Rattle.sat_core.specs.Verdict.{HasNoModel}
use Rattle.sat_watch.specs.Nonempty.{are_nonempty}
use Rattle.overlap.specs.declared.answer.Answer.{Answer}
use Rattle.overlap.specs.declared.answer.Answer.TheVariants.{Apart, Meet, Outside, Spent}

-- an example is evidence that two selectors meet: it shows that they do, and is short
abbrev pub IsEvidence : Example → SelectorParts → SelectorParts → Type 0
IsEvidence e x y = ShowsMeeting x y e × (length e.doc.lines ≤ most_lines)

-- The budget of learned clauses was spent on a ledger of the formula of the pair: it has exactly so many clauses,
-- and none of them is empty. A budget without a limit is never spent.
pub record IsSpentOn (x y : SelectorParts) (budget : ℕ) (ledger : List (List Lit)) : Type 0 where
  pub table : TableParts
  pub of_pair : IsTable table x y
  pub limited : budget ≢ no_limit
  pub logged : IsLedger (pair_formula x y table.fits) ledger
  pub nonempty : IsTrue (are_nonempty ledger)
  pub used_up : length ledger ≡ budget

-- They do not meet, or an example shows that they do, or the budget was spent.
abbrev pub IsCombinedAnswer : SelectorParts → SelectorParts → (budget : ℕ) → Answer → Type 0
IsCombinedAnswer x y budget Apart = TheyMeet x y → ⊥
IsCombinedAnswer x y budget (Meet e) = IsEvidence e x y
IsCombinedAnswer x y budget (Outside reason number) = ⊥
IsCombinedAnswer x y budget (Spent ledger) = IsSpentOn x y budget ledger

-- A formula with a ledger: it is the formula of the pair, no values satisfy it, and the ledger shows that, within the
-- budget of learned clauses.
pub record IsRefutation (x y : SelectorParts) (budget : ℕ) (formula : Cnf) (ledger : List (List Lit)) : Type 0 where
  pub table : TableParts
  pub of_pair : IsTable table x y
  pub is : formula ≡ pair_formula x y table.fits
  pub small : IsSmallFormula formula
  pub refuted : HasNoModel formula budget ledger

-- what is logged of an answer by the formula: the refutation exactly where they do not meet
abbrev pub IsCombinedLog : SelectorParts → SelectorParts → (budget : ℕ) → Answer → Option (Cnf × List (List Lit)) → Type 0
IsCombinedLog x y budget answer None = answer ≢ Apart
IsCombinedLog x y budget answer (Some log) = (answer ≡ Apart) × IsRefutation x y budget log.0 log.1
