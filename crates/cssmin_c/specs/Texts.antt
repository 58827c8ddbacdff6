-- The texts that are made for a caller (own).
use Rattle.std.specs.Prelude.{◌≡◌, ℕ, List, [], map}
use Rattle.compare_text.specs.ComparedTexts.{selector_or_reason, AsksFor, IsCompared}
use Rattle.css_model.specs.Sheets.Sheet.{sheet_of}
use Rattle.lint_text.specs.Asking.{AsksOf}
use Rattle.lint_text.specs.LintTexts.{IsLintText}
use Rattle.merge_report.specs.Reports.{IsReport}
use Rattle.merge_text.specs.declared.merged.MergedText.{MergedText}
use Rattle.merge_text.specs.MergedTexts.{IsTold}
use Rattle.opened_merge_laws.specs.Merged.{IsMergedOpened}
use Rattle.overlap.specs.PairsParts.{PairsParts}
use Rattle.overlap.specs.Remembered.{IsTrueList}
use Rattle.sheet_order.specs.Laws.{answer_seen}

-- no answers yet, with this budget
abbrev pub unasked : (budget : ℕ) → PairsParts
unasked budget = record { budget = budget; answers = [] }

-- what merging gave, on the way there
pub record IsMergedBy (budget : ℕ) (read : List ℕ) (pairs : PairsParts) (m : MergedText) : Type 0 where
  pub same_budget : pairs.budget ≡ budget
  pub merged : IsMergedOpened (map answer_seen pairs.answers) read m.text.items
  pub told : IsTold (map answer_seen pairs.answers) read m

-- A text is that of the merged sheet, by true answers that were asked for with this budget: the same winners in every
-- legal document and every scene, no more bytes, and nothing is left to do in it.
pub record IsMergedText (budget : ℕ) (read text : List ℕ) : Type 0 where
  pub pairs : PairsParts
  pub same_budget : pairs.budget ≡ budget
  pub all_true : ∥ IsTrueList pairs ∥₁
  pub merged : IsMergedOpened (map answer_seen pairs.answers) read text

-- the same, with the report of it by these answers
pub record IsReportedText (budget : ℕ) (read text report : List ℕ) : Type 0 where
  pub pairs : PairsParts
  pub same_budget : pairs.budget ≡ budget
  pub all_true : ∥ IsTrueList pairs ∥₁
  pub merged : IsMergedOpened (map answer_seen pairs.answers) read text
  pub told : IsReport pairs.answers read text report

-- a text is that of the answer for two selectors, which was asked for with this budget
pub record IsComparison (budget : ℕ) (left right text : List ℕ) : Type 0 where
  pub pairs : PairsParts
  pub asked : AsksFor (selector_or_reason left) (selector_or_reason right) (unasked budget) pairs
  pub compared : IsCompared (selector_or_reason left) (selector_or_reason right) pairs text

-- a text has the lines of what is found in a sheet, by answers that were asked for with this budget
pub record IsFindings (budget : ℕ) (read text : List ℕ) : Type 0 where
  pub pairs : PairsParts
  pub asked : AsksOf read (sheet_of read) (unasked budget) pairs
  pub found : IsLintText pairs read text
