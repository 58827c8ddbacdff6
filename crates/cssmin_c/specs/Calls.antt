-- What a call gives its caller, and what it tells (own).
use Rattle.std.specs.Prelude.{◌≡◌, ◌<◌, ◌≤◌, ◌⊎◌, ℕ, List, ◌++◌, length, drop, Err}
use Rattle.css_model.specs.declared.fault.SheetFault.{SheetFault}
use Rattle.css_model.specs.Sheets.Sheet.{sheet_of}
use Rattle.cssmin_c.specs.declared.told.Told.{Told}
use Rattle.cssmin_c.specs.Statuses.{kind_number}

-- ---- What is told; all other fields stay

-- how long a text is
abbrev pub with_length : Told → (text : List ℕ) → Told
with_length old text = record old { length = length text }

-- how long a text and its report are
abbrev pub with_lengths : Told → (text report : List ℕ) → Told
with_lengths old text report = record old { length = length text; report_length = length report }

-- a fault
abbrev pub with_fault : Told → SheetFault → Told
with_fault old fault = record old { fault_kind = kind_number fault.kind; fault_at = fault.at }

-- ---- What is given

-- a text fits into a buffer; it is at the front of it, and what follows it there stays
pub record IsPut (text old new : List ℕ) : Type 0 where
  pub fits : length text ≤ length old
  pub put : new ≡ text ++ drop (length text) old

-- a text of this kind is put into a buffer, and its length is told
pub record Gives (IsText : List ℕ → Type 0) (old new : List ℕ) (told_old told_new : Told) : Type 0 where
  pub text : List ℕ
  pub is : IsText text
  pub put : IsPut text old new
  pub told : told_new ≡ with_length told_old text

-- a text of this kind is longer than a buffer, and its length is told
pub record LacksRoom (IsText : List ℕ → Type 0) (old : List ℕ) (told_old told_new : Told) : Type 0 where
  pub text : List ℕ
  pub is : IsText text
  pub longer : length old < length text
  pub told : told_new ≡ with_length told_old text

-- two texts of this kind are each put into a buffer, and their lengths are told
pub record GivesBoth (AreTexts : (text report : List ℕ) → Type 0) (old new report_old report_new : List ℕ) (told_old told_new : Told) : Type 0 where
  pub text : List ℕ
  pub report : List ℕ
  pub are : AreTexts text report
  pub put : IsPut text old new
  pub report_put : IsPut report report_old report_new
  pub told : told_new ≡ with_lengths told_old text report

-- of two texts of this kind one is longer than its buffer, and their lengths are told
pub record LacksRoomForBoth (AreTexts : (text report : List ℕ) → Type 0) (old report_old : List ℕ) (told_old told_new : Told) : Type 0 where
  pub text : List ℕ
  pub report : List ℕ
  pub are : AreTexts text report
  pub longer : (length old < length text) ⊎ (length report_old < length report)
  pub told : told_new ≡ with_lengths told_old text report

-- a sheet is refused for its fault, which is told
pub record IsRefused (read : List ℕ) (told_old told_new : Told) : Type 0 where
  pub fault : SheetFault
  pub is : sheet_of read ≡ Err fault
  pub told : told_new ≡ with_fault told_old fault
