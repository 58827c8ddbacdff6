-- What is made by answers that were asked for with a budget.
use Rattle.std.proofs.Common.{◌≡◌, ℕ, ◌<◌, ◌≤◌, ◌⊎◌, List, length, map, ◌∙◌}
use Rattle.compare_text.specs.ComparedTexts.{selector_or_reason, AsksFor, IsCompared}
use Rattle.css_model.specs.Sheets.Sheet.{sheet_of}
use Rattle.lint_text.specs.Asking.{AsksOf}
use Rattle.lint_text.specs.LintTexts.{IsLintText}
use Rattle.merge_plan.proofs.ForCallers.{stays_among}
use Rattle.merge_report.specs.Reports.{IsReport}
use Rattle.opened_merge_laws.proofs.ForCallers.{merged_more}
use Rattle.opened_merge_laws.specs.Merged.{IsMergedOpened}
use Rattle.overlap.specs.PairsParts.{PairsParts}
use Rattle.overlap.specs.Remembered.{IsTrueList}
use Rattle.sheet_order.specs.Allowing.{Stays}
use Rattle.sheet_order.specs.Laws.{answer_seen}
use Rattle.cssmin_c.specs.Calls.{LacksRoomForBoth, with_lengths}
use Rattle.cssmin_c.specs.declared.told.Told.{Told}
use Rattle.cssmin_c.specs.Texts.{unasked, IsComparison, IsFindings, IsMergedText, IsReportedText}

pub merged_text : (pairs : PairsParts) (budget : ℕ) (read text : List ℕ) → pairs.budget ≡ budget → ∥ IsTrueList pairs ∥₁ →
    IsMergedOpened (map answer_seen pairs.answers) read text → IsMergedText budget read text
merged_text pairs budget read text same all_true merged = record { pairs = pairs; same_budget = same; all_true = all_true; merged = merged }

pub is_no_longer : (pairs : PairsParts) (read text : List ℕ) → IsMergedOpened (map answer_seen pairs.answers) read text → length text ≤ length read
is_no_longer pairs read text merged = merged.no_longer

-- what was merged by answers is merged by more of them
pub reported_text : (old new : PairsParts) (budget : ℕ) (read text report : List ℕ) → old.budget ≡ budget → Stays old new → ∥ IsTrueList new ∥₁ →
    IsMergedOpened (map answer_seen old.answers) read text → IsReport new.answers read text report → IsReportedText budget read text report
reported_text old new budget read text report same stays all_true merged told = record {
  pairs = new;
  same_budget = stays.budget ∙ same;
  all_true = all_true;
  merged = merged_more (map answer_seen old.answers) (map answer_seen new.answers) (stays_among old new stays) read text merged;
  told = told;
}

pub comparison : (pairs : PairsParts) (budget : ℕ) (left right text : List ℕ) →
    AsksFor (selector_or_reason left) (selector_or_reason right) (unasked budget) pairs →
    IsCompared (selector_or_reason left) (selector_or_reason right) pairs text → IsComparison budget left right text
comparison pairs budget left right text asked compared = record { pairs = pairs; asked = asked; compared = compared }

pub findings : (pairs : PairsParts) (budget : ℕ) (read text : List ℕ) → AsksOf read (sheet_of read) (unasked budget) pairs →
    IsLintText pairs read text → IsFindings budget read text
findings pairs budget read text asked found = record { pairs = pairs; asked = asked; found = found }

-- a merged text and its report, of which one is longer than its buffer
pub lacks_room : (budget : ℕ) (read out report text lines : List ℕ) (old new : Told) → IsReportedText budget read text lines →
    (length out < length text) ⊎ (length report < length lines) → new ≡ with_lengths old text lines →
    LacksRoomForBoth (IsReportedText budget read) out report old new
lacks_room budget read out report text lines old new are longer told = record { text = text; report = lines; are = are; longer = longer; told = told }
