-- A change of a sheet in general: what becomes of its items, and which pairs it moves.
use Rattle.std.specs.Prelude.{◌≡◌, ℕ, ◌+◌, ◌==◌, Bool, true, ◌&&◌, if◌then◌else◌, IsTrue, List, [], ◌∷◌}
use Rattle.std.specs.List.{All}
use Rattle.css_model.specs.declared.sheet.DeclItem.{DeclItem}
use Rattle.css_model.specs.declared.sheet.Item.{Item}
use Rattle.css_model.specs.declared.sheet.SelItem.{SelItem}
use Rattle.css_model.specs.Cascade.Winner.{Place}
use Rattle.css_model.specs.Cascade.Order.{Pair, IsPairAt, HasPair}
use Rattle.css_model.specs.Sheets.RuleParts.{RuleParts}
use Rattle.order_laws.specs.Members.{has_selector, has_decl, has_number}
use Rattle.order_laws.specs.Slots.{Slot, new_items, IsFair}

-- The pairs that an edit moves: each of these selectors with each of these declarations. They are moved
-- out of the items of these numbers, counted from 0.
pub record Moved : Type 0 where
  pub out_of : List ℕ
  pub selectors : List SelItem
  pub decls : List DeclItem

-- whether a pair is moved
abbrev pub is_moved : Moved → Pair → Bool
is_moved m p = has_selector m.selectors p.selector && has_decl m.decls p.decl

-- all pairs of the rule of this number are moved
abbrev pub whole_rule : ℕ → RuleParts → Moved
whole_rule n r = record { out_of = n ∷ []; selectors = r.selectors; decls = r.decls }

-- the item of this number becomes these items
pub record Change : Type 0 where
  pub at : ℕ
  pub by : List Item

-- what becomes of some items, and which pairs are moved
pub record Edit : Type 0 where
  pub changes : List Change
  pub moved : Moved

-- what stands in the place of the item of this number: of two changes of it the first counts
abbrev pub instead : List Change → ℕ → Item → List Item
instead [] n item = item ∷ []
instead (c ∷ changes) n item = if c.at == n then c.by else instead changes n item

-- the slots of the items, the first of which has this number
abbrev pub slots_from : ℕ → List Change → List Item → List Slot
slots_from n changes [] = []
slots_from n changes (item ∷ items) =
    record { old = item; new = instead changes n item } ∷ slots_from (n + 1) changes items

abbrev pub slots_of : Edit → List Item → List Slot
slots_of e items = slots_from 0 e.changes items

-- the items after the edit
abbrev pub edited : Edit → List Item → List Item
edited e items = new_items (slots_of e items)

-- a pair stands in one of the items of these numbers
abbrev pub StandsIn : List ℕ → List Item → Pair → Type 0
StandsIn numbers items p = (place : Place) × IsPairAt items p place × IsTrue (has_number numbers place.item)

-- An edit only rearranges the sheet: it is fair to what it does not move, and each pair that it moves
-- stands in an item that it is moved out of, and in the new sheet.
pub record IsRearrangement (items : List Item) (e : Edit) : Type 0 where
  pub fair : All (IsFair (is_moved e.moved)) (slots_of e items)
  pub from : (p : Pair) → is_moved e.moved p ≡ true → StandsIn e.moved.out_of items p
  pub to : (p : Pair) → is_moved e.moved p ≡ true → HasPair (edited e items) p
