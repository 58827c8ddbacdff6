-- What is told of a merged text (own).
use Rattle.std.specs.Prelude.{◌≡◌, ℕ, ◌++◌, List, [], Some, map, Ok, codes, length}
use Rattle.css_model.specs.declared.sheet.Item.{Item}
use Rattle.css_model.specs.Sheets.Sheet.{sheet_of}
use Rattle.merge_report.specs.Remaining.{AreRemainingOpened, Entry}
use Rattle.opened_merge_laws.specs.Told.{IsToldOpened, IsToldWithin}
use Rattle.overlap.specs.PairsParts.{Answered}
use Rattle.report_text.specs.Report.{report_of}
use Rattle.sheet_order.specs.Laws.{answer_seen}

-- The report tells the numbers of the items and of the steps, with those of the bytes, and each step of the sheet that was
-- written which still saves something, in their order, with its cause: those of the sheet first, and then those of the body of
-- each opened block (own).
pub record IsReport (answers : List Answered) (read written report : List ℕ) : Type 0 where
  pub read_items : ℕ
  pub written_items : ℕ
  pub taken : ℕ
  pub counted : IsToldOpened (map answer_seen answers) read written read_items written_items taken
  pub items : List Item
  pub items_read : sheet_of written ≡ Ok items
  pub remaining : List Entry
  pub are : AreRemainingOpened answers written items remaining
  pub report_is : report ≡ report_of (read_items, written_items) (length read, length written) taken remaining

-- the same lines without those of the steps that remain (own)
pub record IsSummary (answers : List Answered) (read written text : List ℕ) : Type 0 where
  pub read_items : ℕ
  pub written_items : ℕ
  pub taken : ℕ
  pub counted : IsToldOpened (map answer_seen answers) read written read_items written_items taken
  pub text_is : text ≡ report_of (read_items, written_items) (length read, length written) taken []

-- Where the work was spent the report tells the same numbers, and that it was. It names no step that remains: what blocks them was
-- not asked (own).
pub record IsSpentReport (work : ℕ) (answers : List Answered) (read written report : List ℕ) : Type 0 where
  pub read_items : ℕ
  pub written_items : ℕ
  pub taken : ℕ
  pub counted : IsToldWithin (Some work) (map answer_seen answers) read written read_items written_items taken
  pub report_is : report ≡ report_of (read_items, written_items) (length read, length written) taken [] ++ codes "work spent\n"
