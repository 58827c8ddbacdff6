-- What tables that were reindexed for a step cover behind it.
use Rattle.std.proofs.Common.{◌≡◌, ℕ, Bool, true, false, List, Some, refl}
use Rattle.std.specs.Prelude.{slice_get}
use Rattle.std.specs.List.{remove}
use Rattle.css_model.specs.declared.sheet.Item.{Item}
use Rattle.css_model.specs.declared.sheet.Item.TheVariants.{Rule}
use Rattle.css_model.specs.Sheets.RuleParts.{RuleParts}
use Rattle.pending_laws.specs.declared.way.Way.{Way}
use Rattle.pending_laws.specs.declared.way.Way.TheVariants.{Up, Down}
use Rattle.pending_laws.specs.Candidates as pending
use Rattle.pending_laws.specs.Ways.{mover, partner, IsMove}
use Rattle.queue_laws.specs.Beside.{CoverGoesOn}
use Rattle.queue_laws.specs.MarkNames.{IsMarked}
use Rattle.order_laws.specs.Edits.{Edit, edited}
use Rattle.indexed_sheet.specs.IndexedParts.{IndexedParts}
use Rattle.indexed_sheet.specs.Marking.{AreKept}
use Rattle.indexed_sheet.specs.MarkList.{order_keys_of}
use Rattle.rule_tables.specs.Tables.{Cover, TableParts, order_keyed}
use Rattle.step_laws.specs.declared.step.Step.{Step}
use Rattle.step_laws.specs.Steps.{HasStep, IsStep}
use Rattle.step_savings.proofs.ForCallers.{first_rule, last_rule}
use Rattle.planner_state.specs.Enqueuing.{AreEnqueued, StayBefore}
use Rattle.planner_state.specs.Reindexing.{AreReindexed}
use Rattle.planner_state.proofs.Starting.{covered_there}

-- the rule that moves in a join, and the one that it moves into
pub moved_rule : (items : List Item) (way : Way) (k : Step) → HasStep items k → (r : RuleParts) × (slice_get items (mover way k) ≡ Some (Rule r))
moved_rule items Up k has = last_rule items k has
moved_rule items Down k has = first_rule items k has

pub other_rule : (items : List Item) (way : Way) (k : Step) → HasStep items k → (r : RuleParts) × (slice_get items (partner way k) ≡ Some (Rule r))
other_rule items Up k has = first_rule items k has
other_rule items Down k has = last_rule items k has

pub covered_behind : CoverGoesOn → (put : Bool) (old new : IndexedParts) (k : Step) (e : Edit) (tables reindexed later : TableParts) (candidates candidates' : List pending.Candidate) (homes homes' : List ℕ) → IsMarked old → IsMarked new → AreKept old new e → new.items ≡ edited e old.items →
    IsStep old.items k e → ((way : Way) → IsMove way k → order_keys_of new.marks ≡ remove (order_keys_of old.marks) (mover way k)) → AreReindexed put old k tables reindexed → StayBefore old.next reindexed candidates homes later candidates' homes' →
    AreEnqueued put old.next new.marks new.items later candidates' homes' → Cover tables (order_keyed old.items (order_keys_of old.marks)) → Cover later (order_keyed new.items (order_keys_of new.marks))
covered_behind goes true old new k e tables reindexed later candidates candidates' homes homes' marked marked' kept items is order_keys reindex stay enqueued cover =
    goes old new e tables later marked kept items cover
    (λ n m r leaves mark_at item_at there. stay.covered _ (reindex e is n m r leaves mark_at item_at there))
    (covered_there true old.next new marked' later candidates' homes' enqueued refl)
covered_behind goes false old new k e tables reindexed later candidates candidates' homes homes' marked marked' kept items is order_keys reindex stay enqueued cover =
    stay.covered (order_keyed new.items (order_keys_of new.marks)) (reindex.2 e is new items (order_keys reindex.0 reindex.1) cover)
