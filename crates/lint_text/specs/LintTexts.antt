-- The lines on what is found in a sheet (own).
use Rattle.std.specs.Prelude.{◌≡◌, ℕ, Bool, List, map, Ok, IsPermutation, IsSortedByKey}
use Rattle.std.specs.List.Sorted.{IsStableByKey}
use Rattle.std.specs.Ordering.{nat_cmp}
use Rattle.css_model.specs.declared.sheet.Item.{Item}
use Rattle.css_model.specs.Documents.SelectorParts.{SelectorParts}
use Rattle.css_model.specs.Sheets.Sheet.{sheet_of}
use Rattle.dead_sel.specs.Held.{is_dead}
use Rattle.doc_text.specs.DocText.{ended}
use Rattle.overlap.specs.PairsParts.{PairsParts}
use Rattle.overlap.specs.Remembered.{IsTrueList}
use Rattle.lint_text.specs.Asking.{AreHeld, all_selectors}
use Rattle.lint_text.specs.Findings.{Finding, findings}

-- these are all findings, ascending by where what they tell of begins; those of one place stay in their order
pub record AreInOrder (all sorted : List Finding) : Type 0 where
  pub same : IsPermutation all sorted
  pub ascending : IsSortedByKey (λ f. f.at) nat_cmp sorted
  pub stable : IsStableByKey (λ f. f.at) nat_cmp all sorted

-- the lines of all that is found in a sheet, in order, where selectors are dead by this test
pub record TellsFindings (dead : SelectorParts → Bool) (text : List ℕ) (items : List Item) (lines : List ℕ) : Type 0 where
  pub sorted : List Finding
  pub in_order : AreInOrder (findings dead text items) sorted
  pub lines_are : lines ≡ ended (map (λ f. f.line) sorted)

-- The text tells what is found in the sheet that the source is read as. A selector is dead where the answer that is held
-- for it and `*` afterwards is that they are apart; an answer is held for each.
pub record IsLintText (pairs : PairsParts) (source text : List ℕ) : Type 0 where
  pub items : List Item
  pub read : sheet_of source ≡ Ok items
  pub true_list : ∥ IsTrueList pairs ∥₁
  pub held : AreHeld pairs.answers (all_selectors source items)
  pub tells : TellsFindings (is_dead pairs.answers) source items text
