-- What a plan holds of the joins and shares of a sheet, while steps are taken.
use Rattle.std.specs.Prelude.{◌≡◌, ◌⊎◌, ℕ, ◌<◌, false, List, length}
use Rattle.std.specs.List.{Contains}
use Rattle.css_model.specs.declared.sheet.Item.{Item}
use Rattle.css_model.specs.Cascade.Order.{Pair}
use Rattle.css_model.specs.Sheets.Limits.{max_items}
use Rattle.css_model.specs.Sheets.Sound.{IsSound}
use Rattle.order_laws.specs.Edits.{is_moved, Edit, edited}
use Rattle.order_laws.specs.Reversing.{ReversesPair, ReversesKept}
use Rattle.plan_laws.specs.Cover.{Priority, IsCovered}
use Rattle.step_laws.specs.declared.step.Step.{Step}
use Rattle.step_laws.specs.Free.{Answered, AreNotApart, IsBlocked}
use Rattle.step_laws.specs.Sizes.{Saves}
use Rattle.step_laws.specs.Steps.{IsStep, first_item, last_item}
use Rattle.plan_laws.specs.Barrier.Renumbering.{new_number, renumbered, IsOfOthers, IsOfTwo}
use Rattle.plan_laws.specs.Barrier.SideBySide.{HasCome}

-- what may block an edit: a pair that it moves and another one, or a pair and the kept item of a number
pub data Hindrance : Type 0 where
  OfPair : Pair → Pair → Hindrance
  OfKept : Pair → ℕ → Hindrance

-- and that it does
abbrev pub Hinders : List Answered → List Item → Edit → Hindrance → Type 0
Hinders answers items e (OfPair p q) = ReversesPair items (edited e items) e.moved p q × AreNotApart answers p.selector q.selector
Hinders answers items e (OfKept p number) = ReversesKept items (edited e items) e.moved p number

-- what hinders an edit blocks it
abbrev pub HinderedIsBlocked : Type 0
HinderedIsBlocked = (answers : List Answered) (items : List Item) (e : Edit) (h : Hindrance) → Hinders answers items e h → IsBlocked answers items e

-- an edit moves none of the pairs of a hindrance
abbrev pub IsUntouched : Edit → Hindrance → Type 0
IsUntouched d (OfPair p q) = (is_moved d.moved p ≡ false) × (is_moved d.moved q ≡ false)
IsUntouched d (OfKept p number) = is_moved d.moved p ≡ false

-- a watched priority, and what blocks its step
pub record Watched : Type 0 where
  pub priority : Priority
  pub by : Hindrance

-- the priority of a step that saves so much
abbrev pub priority_of : ℕ → Step → Priority
priority_of n k = record { saving = n; step = k }

-- each join or share of a sheet that saves waits, or is on the watch list with what blocks it
abbrev pub ArePending : List Answered → List ℕ → List Item → List Priority → List Watched → Type 0
ArePending answers source items queue watched = (k : Step) (e : Edit) (n : ℕ) → IsOfTwo k → IsStep items k e → Saves source items e n → 0 < n →
    Contains queue (priority_of n k) ⊎ ((h : Hindrance) × Contains watched (record { priority = priority_of n k; by = h }) × Hinders answers items e h)

-- No step makes the sheet as long as one may be.
abbrev pub HasRoom : List Item → Type 0
HasRoom items = (length items < max_items) × ((k : Step) (e : Edit) → IsStep items k e → length (edited e items) < max_items)

-- What is pending is reindexed for the sheet behind an edit: what waits of other items still waits, at its new
-- numbers; what is on the watch list still is, or it waits, where the edit moves a pair of what blocks it. And each
-- step of an item that the edit did not leave waits.
pub record IsReindexed (source : List ℕ) (items : List Item) (d : Edit) (queue : List Priority) (watched : List Watched) (queue' : List Priority) (watched' : List Watched) : Type 0 where
  pub waits : (n : ℕ) (k : Step) → Contains queue (priority_of n k) → IsOfOthers d k → Contains queue' (priority_of n (renumbered (new_number d items) k))
  pub blocked : (n : ℕ) (k : Step) (h : Hindrance) → Contains watched (record { priority = priority_of n k; by = h }) → IsOfOthers d k →
      (IsUntouched d h × Contains watched' (record { priority = priority_of n (renumbered (new_number d items) k); by = h })) ⊎ Contains queue' (priority_of n (renumbered (new_number d items) k))
  pub made : (k' : Step) (e' : Edit) (n : ℕ) → IsOfTwo k' → IsStep (edited d items) k' e' → Saves source (edited d items) e' n → 0 < n →
      (HasCome d items (first_item k') × HasCome d items (last_item k')) ⊎ Contains queue' (priority_of n k')

-- What is pending of a sheet holds of the one behind a step, once it is reindexed.
abbrev pub PendingGoesOn : Type 0
PendingGoesOn = (answers : List Answered) (source : List ℕ) (items : List Item) (j : Step) (d : Edit) (queue : List Priority) (watched : List Watched) (queue' : List Priority) (watched' : List Watched) →
    IsStep items j d → IsSound source items → HasRoom items → IsReindexed source items d queue watched queue' watched' →
    ArePending answers source items queue watched → ArePending answers source (edited d items) queue' watched'

-- Where each join or share is pending, and each cut that saves waits or is blocked, what waits covers the steps.
abbrev pub PendingIsCovered : Type 0
PendingIsCovered = (answers : List Answered) (source : List ℕ) (items : List Item) (queue : List Priority) (watched : List Watched) → ArePending answers source items queue watched →
    ((k : Step) (e : Edit) (n : ℕ) → (IsOfTwo k → ⊥) → IsStep items k e → Saves source items e n → 0 < n → IsBlocked answers items e ⊎ Contains queue (priority_of n k)) →
    IsCovered answers source items queue
