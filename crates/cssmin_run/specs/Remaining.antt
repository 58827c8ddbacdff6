-- What remains in the sheet that `min` wrote (own).
use Rattle.std.specs.Prelude.{◌≡◌, ◌⊎◌, ℕ, List, map, Option, Some, None, Ok}
use Rattle.css_model.specs.declared.sheet.Item.{Item}
use Rattle.css_model.specs.Sheets.Sheet.{sheet_of}
use Rattle.opened_merge_laws.specs.Merged.{IsMergedWithin}
use Rattle.overlap.specs.PairsParts.{PairsParts}
use Rattle.remaining_laws.specs.Remaining.{OnlyBlockedRemain}
use Rattle.sheet_order.specs.Laws.{answer_seen}
use Rattle.cssmin_run.specs.Commands.Cmp.{unasked}

-- Each step that would still save bytes in this text, or in the body of one of its opened blocks, is blocked, by the answers that
-- are held, for the budget of the words.
pub record LeavesOnlyBlocked (budget : Option ℕ) (text : List ℕ) (held : Option PairsParts) : Type 0 where
  pub pairs : PairsParts
  pub held_is : held ≡ Some pairs
  pub same_budget : pairs.budget ≡ (unasked budget).budget
  pub items : List Item
  pub written : sheet_of text ≡ Ok items
  pub blocked : OnlyBlockedRemain pairs text items

-- So much work was spent on this text: it is merged by plans whose steps, with the answers that are held, are as many, or more.
pub record HasSpent (work : ℕ) (read text : List ℕ) (held : Option PairsParts) : Type 0 where
  pub pairs : PairsParts
  pub held_is : held ≡ Some pairs
  pub merged : IsMergedWithin (Some work) (map answer_seen pairs.answers) read text

-- each step that would still save bytes is blocked; or, if the words bound the work, it was spent
abbrev pub LeavesOnlyBlockedBy : (work budget : Option ℕ) → (read text : List ℕ) → (held : Option PairsParts) → Type 0
LeavesOnlyBlockedBy None budget read text held = LeavesOnlyBlocked budget text held
LeavesOnlyBlockedBy (Some work) budget read text held = LeavesOnlyBlocked budget text held ⊎ HasSpent work read text held
