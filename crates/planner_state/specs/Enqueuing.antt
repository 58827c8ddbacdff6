-- What a plan does for the items that are created.
use Rattle.std.specs.Prelude.{◌≡◌, ◌≢◌, ℕ, ◌+◌, ◌<◌, ◌≤◌, Bool, true, List, [], ◌∷◌, Some, slice_get}
use Rattle.std.specs.List.{Contains}
use Rattle.css_model.specs.declared.sheet.Item.{Item}
use Rattle.css_model.specs.declared.sheet.Item.TheVariants.{Rule}
use Rattle.css_model.specs.Sheets.Limits.{max_bytes}
use Rattle.css_model.specs.Sheets.RuleParts.{RuleParts}
use Rattle.pending_laws.specs.Candidates as pending
use Rattle.pending_laws.specs.Scopes.{Owned}
use Rattle.pending_laws.specs.Priorities.{first_priority}
use Rattle.indexed_sheet.specs.declared.marks.Mark.{Mark}
use Rattle.rule_tables.specs.Tables.{TableParts, OrderKeyed, Cover, with_order_key}

-- the priority that comes before all steps of the item of an item id
abbrev pub first_candidate : ℕ → pending.Candidate
first_candidate item_id = record { priority = first_priority (max_bytes + 1); owner = item_id; scope = Owned }

-- The steps of an item are queued. Its order key is under its item id. If it is a rule and `put` is true, the tables cover it.
pub record IsEnqueued (put : Bool) (tables : TableParts) (candidates : List pending.Candidate) (homes : List ℕ) (m : Mark) (x : Item) : Type 0 where
  pub candidate : Contains candidates (first_candidate m.item_id)
  pub home : slice_get homes m.item_id ≡ Some m.order_key
  pub covered : put ≡ true → (r : RuleParts) → x ≡ Rule r → Cover tables (with_order_key r m.order_key ∷ [])

-- the item of this number is enqueued, if it was created at `next` or later
abbrev pub IsEnqueuedAt : Bool → ℕ → List Mark → List Item → TableParts → List pending.Candidate → List ℕ → ℕ → Type 0
IsEnqueuedAt put next marks items tables candidates homes n = (m : Mark) (x : Item) → slice_get marks n ≡ Some m → slice_get items n ≡ Some x → next ≤ m.item_id → IsEnqueued put tables candidates homes m x

-- each of the items is enqueued, if it was created at `next` or later
abbrev pub AreEnqueued : Bool → ℕ → List Mark → List Item → TableParts → List pending.Candidate → List ℕ → Type 0
AreEnqueued put next marks items tables candidates homes = (n : ℕ) → IsEnqueuedAt put next marks items tables candidates homes n

-- What the tables cover and the candidates stay, and the order keys but that under one item id.
pub record StayBut (item_id : ℕ) (tables : TableParts) (candidates : List pending.Candidate) (homes : List ℕ) (tables' : TableParts) (candidates' : List pending.Candidate) (homes' : List ℕ) : Type 0 where
  pub covered : (rules : List OrderKeyed) → Cover tables rules → Cover tables' rules
  pub queued : (l : pending.Candidate) → Contains candidates l → Contains candidates' l
  pub kept : (b l : ℕ) → b ≢ item_id → slice_get homes b ≡ Some l → slice_get homes' b ≡ Some l

-- and the order keys under item ids before one
pub record StayBefore (next : ℕ) (tables : TableParts) (candidates : List pending.Candidate) (homes : List ℕ) (tables' : TableParts) (candidates' : List pending.Candidate) (homes' : List ℕ) : Type 0 where
  pub covered : (rules : List OrderKeyed) → Cover tables rules → Cover tables' rules
  pub queued : (l : pending.Candidate) → Contains candidates l → Contains candidates' l
  pub kept : (b l : ℕ) → b < next → slice_get homes b ≡ Some l → slice_get homes' b ≡ Some l
