-- What code keeps beside an indexed sheet: tables that cover its rules, and the order key of each item id (own).
use Rattle.std.specs.Prelude.{◌≡◌, ℕ, ◌<◌, ◌≤◌, List, [], ◌∷◌, Some, slice_get}
use Rattle.std.specs.List.{remove}
use Rattle.css_model.specs.declared.sheet.Item.TheVariants.{Rule}
use Rattle.css_model.specs.Sheets.RuleParts.{RuleParts}
use Rattle.pending_laws.specs.declared.way.Way.{Way}
use Rattle.pending_laws.specs.Ways.{mover, partner, IsMove}
use Rattle.queue_laws.specs.MarkNames.{IsMarked}
use Rattle.order_laws.specs.Edits.{Edit, edited}
use Rattle.indexed_sheet.specs.declared.marks.Mark.{Mark}
use Rattle.indexed_sheet.specs.IndexedParts.{IndexedParts}
use Rattle.indexed_sheet.specs.MarkList.{order_keys_of}
use Rattle.indexed_sheet.specs.Marking.{AreKept}
use Rattle.rule_tables.specs.Tables.{TableParts, OrderKeyed, Cover, HaveOtherOrderKeys, PutsRule, TakesRule, order_keyed, with_order_key}
use Rattle.step_laws.specs.declared.step.Step.{Step}
use Rattle.step_laws.specs.Steps.{IsStep, first_item, last_item}
use Rattle.plan_laws.specs.Barrier.Renumbering.{Leaves}

-- each rule that an edit leaves is covered by later tables too, where it was
abbrev pub StayCovered : IndexedParts → Edit → (tables later : TableParts) → Type 0
StayCovered b e tables later = (n : ℕ) (m : Mark) (r : RuleParts) → Leaves e n → slice_get b.marks n ≡ Some m → slice_get b.items n ≡ Some (Rule r) →
    Cover tables (with_order_key r m.order_key ∷ []) → Cover later (with_order_key r m.order_key ∷ [])

-- Where tables cover the rules of an indexed sheet, later ones cover those of the one after an edit, if each that it leaves stays covered, and they cover each that is created now.
abbrev pub CoverGoesOn : Type 0
CoverGoesOn = (old new : IndexedParts) (e : Edit) (tables later : TableParts) → IsMarked old → AreKept old new e → new.items ≡ edited e old.items → Cover tables (order_keyed old.items (order_keys_of old.marks)) →
    StayCovered old e tables later →
    ((n : ℕ) (m : Mark) (r : RuleParts) → slice_get new.marks n ≡ Some m → slice_get new.items n ≡ Some (Rule r) → old.next ≤ m.item_id → Cover later (with_order_key r m.order_key ∷ [])) →
    Cover later (order_keyed new.items (order_keys_of new.marks))

-- none of these rules has the order key of the item of this number
abbrev pub HaveOtherOrderKeysThan : List Mark → ℕ → List OrderKeyed → Type 0
HaveOtherOrderKeysThan marks n rules = (m : Mark) → slice_get marks n ≡ Some m → HaveOtherOrderKeys rules m.order_key

-- Each rule that a step leaves stays covered, where all do that have other order keys than the first and the last item of the step.
abbrev pub OthersStayCovered : Type 0
OthersStayCovered = (b : IndexedParts) (k : Step) (e : Edit) (tables later : TableParts) → IsMarked b → IsStep b.items k e →
    ((rules : List OrderKeyed) → HaveOtherOrderKeysThan b.marks (first_item k) rules → HaveOtherOrderKeysThan b.marks (last_item k) rules → Cover tables rules → Cover later rules) →
    StayCovered b e tables later

-- Where tables cover the rules of an indexed sheet, later ones cover those of the one after a join, if its items keep their order keys but
-- the one that moves.
abbrev pub CoverFollows : Way → IndexedParts → Step → Edit → (tables later : TableParts) → Type 0
CoverFollows way b k e tables later = (new : IndexedParts) → new.items ≡ edited e b.items → order_keys_of new.marks ≡ remove (order_keys_of b.marks) (mover way k) → Cover tables (order_keyed b.items (order_keys_of b.marks)) →
    Cover later (order_keyed new.items (order_keys_of new.marks))

-- So it is where the rule that moves in a join is put in under the order key of the one that it moves into, and taken out under its own.
abbrev pub CoverFollowsJoins : Type 0
CoverFollowsJoins = (way : Way) (b : IndexedParts) (k : Step) (e : Edit) (r : RuleParts) (own order_key : ℕ) (tables put later : TableParts) → IsMarked b → IsMove way k → IsStep b.items k e →
    slice_get b.items (mover way k) ≡ Some (Rule r) → slice_get (order_keys_of b.marks) (mover way k) ≡ Some own → slice_get (order_keys_of b.marks) (partner way k) ≡ Some order_key →
    PutsRule tables r order_key put → TakesRule put r own later → CoverFollows way b k e tables later

-- They cover the rules of any indexed sheet where they cover each.
abbrev pub CoverIsOfEach : Type 0
CoverIsOfEach = (b : IndexedParts) (tables : TableParts) →
    ((n : ℕ) (m : Mark) (r : RuleParts) → slice_get b.marks n ≡ Some m → slice_get b.items n ≡ Some (Rule r) → Cover tables (with_order_key r m.order_key ∷ [])) →
    Cover tables (order_keyed b.items (order_keys_of b.marks))

-- the order key of each item is under its item id
abbrev pub AreHomes : List Mark → List ℕ → Type 0
AreHomes marks homes = (n : ℕ) (m : Mark) → slice_get marks n ≡ Some m → slice_get homes m.item_id ≡ Some m.order_key

-- So it is after an edit, if the order keys under earlier item ids stay, and those of the items that are created now are under theirs.
abbrev pub HomesGoOn : Type 0
HomesGoOn = (old new : IndexedParts) (e : Edit) (homes homes' : List ℕ) → IsMarked old → AreKept old new e → AreHomes old.marks homes →
    ((item_id order_key : ℕ) → item_id < old.next → slice_get homes item_id ≡ Some order_key → slice_get homes' item_id ≡ Some order_key) →
    ((n : ℕ) (m : Mark) → slice_get new.marks n ≡ Some m → old.next ≤ m.item_id → slice_get homes' m.item_id ≡ Some m.order_key) →
    AreHomes new.marks homes'
