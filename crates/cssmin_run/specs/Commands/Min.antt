-- What `min` does: a style sheet on the input, its merged text on the output, and a report where one is asked for.
use Rattle.std.specs.Prelude.{◌≡◌, ℕ, Bool, true, false, List, [], map, Option, Some, None}
use Rattle.css_model.specs.Sheets.Limits.{max_bytes}
use Rattle.planner.specs.Working.{spent_of}
use Rattle.merge_report.specs.Reports.{IsReport, IsSpentReport}
use Rattle.merge_text.specs.declared.merged.MergedText.{MergedText}
use Rattle.merge_text.specs.MergedTexts as texts
use Rattle.opened_merge_laws.specs.Merged.{IsMergedOpened, IsMergedWithin}
use Rattle.overlap.specs.PairsParts.{Answered, PairsParts}
use Rattle.overlap.specs.Remembered.{IsTrueList}
use Rattle.sheet_order.specs.Laws.{answer_seen}
use Rattle.cssmin_run.specs.Change.{Change}
use Rattle.cssmin_run.specs.Commands.Cmp.{unasked}
use Rattle.cssmin_run.specs.SheetFaults.{HasFault}
use Rattle.cssmin_run.specs.Placed.{nowhere}
use Rattle.cssmin_run.specs.Tasks.{Does}
use Rattle.cssmin_run.specs.declared.status.Status.{Status}
use Rattle.cssmin_run.specs.declared.status.Status.TheVariants.{SheetRefused}

-- what is told of a merged text: nothing, or its report where one is asked for
abbrev pub IsToldOf : (asked : Bool) → List Answered → (read text report : List ℕ) → Type 0
IsToldOf false answers read text report = report ≡ []
IsToldOf true answers read text report = IsReport answers read text report

-- What the run asked for is held, with the budget of the words, and it is true. By these answers the text is that of
-- the merged sheet, in which the body of each opened `@media` block is merged too: the same winners in every legal
-- document and every scene, no more bytes, and nothing is left to do in it nor in these bodies; and the report is told
-- by them.
pub record Merges (budget : Option ℕ) (asked : Bool) (read text report : List ℕ) (held : Option PairsParts) : Type 0 where
  pub pairs : PairsParts
  pub held_is : held ≡ Some pairs
  pub same_budget : pairs.budget ≡ (unasked budget).budget
  pub all_true : ∥ IsTrueList pairs ∥₁
  pub merged : IsMergedOpened (map answer_seen pairs.answers) read text
  pub told : IsToldOf asked pairs.answers read text report

-- what is told of a merged text whose work was bounded: if it was spent, the report says so
abbrev pub IsToldWithin : (work : ℕ) → (spent asked : Bool) → List Answered → (read text report : List ℕ) → Type 0
IsToldWithin work false asked answers read text report = IsToldOf asked answers read text report
IsToldWithin work true false answers read text report = report ≡ []
IsToldWithin work true true answers read text report = IsSpentReport work answers read text report

-- The same with bounded work: nothing is left to do in the merged sheet nor in the bodies of its blocks, or the work was spent: the
-- steps that were taken and the answers that are held are together `work` or more.
pub record MergesWithin (work : ℕ) (budget : Option ℕ) (asked : Bool) (read text report : List ℕ) (held : Option PairsParts) : Type 0 where
  pub pairs : PairsParts
  pub held_is : held ≡ Some pairs
  pub same_budget : pairs.budget ≡ (unasked budget).budget
  pub all_true : ∥ IsTrueList pairs ∥₁
  pub spent : Bool
  pub merged : IsMergedWithin (spent_of (Some work) spent) (map answer_seen pairs.answers) read text
  pub told : IsToldWithin work spent asked pairs.answers read text report

-- with this bound of the work, or without one
abbrev pub MergesBy : (work budget : Option ℕ) → (asked : Bool) → (read text report : List ℕ) → (held : Option PairsParts) → Type 0
MergesBy None budget asked = Merges budget asked
MergesBy (Some work) budget asked = MergesWithin work budget asked

-- what merging gave, on the way there
pub record IsMergedBy (work budget : Option ℕ) (read : List ℕ) (pairs : PairsParts) (m : MergedText) : Type 0 where
  pub same_budget : pairs.budget ≡ (unasked budget).budget
  pub merged : texts.IsMergedBy work (map answer_seen pairs.answers) read m
  pub told : texts.IsToldBy work (map answer_seen pairs.answers) read m

-- a sheet is refused for its fault
abbrev pub MinRefuses : Status → List ℕ → Type 0
MinRefuses (SheetRefused fault) read = HasFault read fault
MinRefuses status read = ⊥

abbrev pub MinDoes : (budget : Option ℕ) (asked : Bool) → Status → (input output err : Change) → (held : Option PairsParts) → Type 0
MinDoes budget asked status input output err held = Does max_bytes nowhere (Merges budget asked) MinRefuses status input output err held

-- the same with this bound of the work, or without one
abbrev pub MinDoesBy : (work budget : Option ℕ) (asked : Bool) → Status → (input output err : Change) → (held : Option PairsParts) → Type 0
MinDoesBy work budget asked status input output err held = Does max_bytes nowhere (MergesBy work budget asked) MinRefuses status input output err held
