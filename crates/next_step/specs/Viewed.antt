-- What holds of what the planner looks at, and of what it finds meanwhile (own).
use Rattle.std.specs.Prelude.{◌≡◌, ◌<◌, ◌≤◌, Some, length, slice_get, slice_index, true}
use Rattle.css_model.specs.declared.sheet.Item.TheVariants.{Rule}
use Rattle.queue_laws.specs.IndexedBarriers.{IsBarred}
use Rattle.step_queue.specs.RuleWeights.{AreWeighed}
use Rattle.step_queue.specs.Weights.{room}
use Rattle.indexed_sheet.specs.IndexedParts.{IndexedParts}
use Rattle.indexed_sheet.specs.Facts.{HasOwnSelectors}
use Rattle.indexed_sheet.specs.MarkList.{IsOrderKeyAt, item_ids_of}
use Rattle.plan_laws.specs.Plannable.{IsPlannable}
use Rattle.rule_tables.specs.Tables.{Cover}
use Rattle.step_laws.specs.declared.step.Step.{Step}
use Rattle.step_savings.specs.Apart.{RulesApart, StepApart}
use Rattle.next_step.specs.Looking.{AreLater, Covers, FoundParts, Keeps}
use Rattle.next_step.specs.Marked.{rules_of}
use Rattle.next_step.specs.Once.{DeclsStandOnce, PartStandsOnce}
use Rattle.next_step.specs.declared.view.Attempt.{Attempt}
use Rattle.next_step.specs.declared.view.Focus.{Focus}
use Rattle.next_step.specs.declared.view.Partners.{Partners}
use Rattle.next_step.specs.declared.view.View.{View}

-- The sheet can be planned, the tables cover its rules, and none of them weighs more than the weights say.
pub record IsView (v : View) : Type 0 where
  pub plannable : IsPlannable v.source.now v.indexed.now.items
  pub cover : Cover v.tables.now (rules_of v.indexed.now)
  pub weighed : AreWeighed v.source.now v.indexed.now.items (item_ids_of v.indexed.now.marks) v.weights.now

-- The rule is the one of this number, its item has this order key and owns what the candidate stands for, and what is told of it is so.
pub record IsFocus (v : View) (o : Focus) : Type 0 where
  pub rule : slice_get v.indexed.now.items o.number ≡ Some (Rule o.rule.now)
  pub there : o.number < length v.indexed.now.items
  pub order_key : IsOrderKeyAt v.indexed.now.marks o.order_key o.number
  pub owned : slice_index (item_ids_of v.indexed.now.marks) o.number ≡ v.after.now.owner
  pub own_selectors : o.own_selectors ≡ true → HasOwnSelectors v.indexed.now.items o.number
  pub once : o.once ≡ true → DeclsStandOnce v.indexed.now.items o.number

-- Items of these numbers are there, and what is told of their rules is so.
pub record ArePartners (indexed : IndexedParts) (p : Partners) : Type 0 where
  pub upper : p.upper < length indexed.items
  pub lower : p.lower < length indexed.items
  pub apart : p.apart ≡ true → RulesApart indexed.items p.upper p.lower
  pub once : p.lower_once ≡ true → DeclsStandOnce indexed.items p.lower

-- What is told of a step is so.
pub record IsAttempt (v : View) (a : Attempt) : Type 0 where
  pub once : a.part_once ≡ true → PartStandsOnce v.indexed.now.items a.step
  pub apart : a.apart ≡ true → StepApart v.indexed.now.items a.step
  pub past : a.past ≡ true → IsBarred v.indexed.now v.barriers.now a.step

-- what was found covers a step, as it is looked for here
abbrev pub CoversIn : View → FoundParts → Step → Type 0
CoversIn v = Covers v.source.now v.indexed.now v.barriers.now v.after.now

-- each candidate that was found comes later than the one after which is looked
abbrev pub AreLaterIn : View → FoundParts → Type 0
AreLaterIn v = AreLater v.source.now v.indexed.now v.after.now

-- More was found: what was reached is reached still, each candidate comes later as before, and there are no more than have room.
pub record Grows (v : View) (old new : FoundParts) : Type 0 where
  pub keeps : Keeps old new
  pub later : AreLaterIn v old → AreLaterIn v new
  pub few : length old.candidates ≤ room → length new.candidates ≤ room
