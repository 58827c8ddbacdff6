-- What is answered later on, and what is known by it (own).
use Rattle.std.specs.Prelude.{◌≡◌, ◌⊎◌, ℕ, Bool, false, IsTrue, List, map, Option, Some, None, length, slice_index_or}
use Rattle.blockers_text.specs.Stopping.{AreAnswered, AreSettled, HasAnswer, are_other, IsSettled, entries_of, has_item, is_other, item_of, stopping, stops, with_entry}
use Rattle.blockers_text.specs.Tallies.{Stopped, stopped_of}
use Rattle.css_model.specs.declared.sheet.Item.{Item}
use Rattle.css_model.specs.declared.sheet.SelItem.{SelItem}
use Rattle.css_model.specs.Documents.SelectorParts.{SelectorParts}
use Rattle.css_model.specs.Selectors.Profile.{IsInProfile}
use Rattle.overlap.specs.PairsParts as overlap
use Rattle.sheet_order.specs.declared.places.Reversed.{Reversed}
use Rattle.sheet_order.specs.Laws.{answer_seen}
use Rattle.step_laws.specs.declared.step.Step.{Step}
use Rattle.step_laws.specs.Free.{Answered, AreAmong, AreApart, AreNotApart}

-- the answers that are held, as steps see them
abbrev pub seen : overlap.PairsParts → List Answered
seen pairs = map answer_seen pairs.answers

-- all that was answered stays, and the budget
pub record Grows (old new : overlap.PairsParts) : Type 0 where
  pub among : AreAmong (seen old) (seen new)
  pub budget : new.budget ≡ old.budget

-- These answers have the others among them, and no two that contradict one another.
pub record IsLater (old new : List Answered) : Type 0 where
  pub among : AreAmong old new
  pub once : (x y : SelectorParts) → AreApart new x y → AreNotApart new x y → ⊥

-- what is answered for two selectors
pub record TellsOther (answers : List Answered) (x y : SelectorParts) (other : Bool) : Type 0 where
  pub is : is_other answers x y ≡ other
  pub answered : HasAnswer answers x y

-- what is answered for two selectors, if there are both
pub record TellsParts (answers : List Answered) (s t : Option SelItem) (other : Bool) : Type 0 where
  pub is : are_other answers s t ≡ other
  pub answered : AreAnswered answers s t

-- both are in the profile
abbrev pub AreInProfile : Option SelItem → Option SelItem → Type 0
AreInProfile None t = Unit {0}
AreInProfile (Some s) None = Unit {0}
AreInProfile (Some s) (Some t) = IsInProfile s.selector × IsInProfile t.selector

-- whether an entry stops its step
pub record TellsEntry (answers : List Answered) (items : List Item) (r : Reversed) (stop : Bool) : Type 0 where
  pub is : stops answers items r ≡ stop
  pub settled : IsSettled answers items r

-- what one more entry makes of those that stop a step
pub record AddsEntry (answers : List Answered) (items : List Item) (found : List Reversed) (r : Reversed) (more : List Reversed) : Type 0 where
  pub is : with_entry answers items found r ≡ more
  pub settled : IsTrue (has_item found (item_of r)) ⊎ IsSettled answers items r

-- the entries that stop a step, of all that it has
pub record TellsEntries (answers : List Answered) (items : List Item) (entries found : List Reversed) : Type 0 where
  pub is : stopping answers items entries ≡ found
  pub settled : AreSettled answers items entries

-- a step, with what stops it
pub record TellsStep (answers : List Answered) (source : List ℕ) (items : List Item) (k : Step) (s : Stopped) : Type 0 where
  pub is : stopped_of answers source items k ≡ s
  pub settled : AreSettled answers items (entries_of items k)

-- the marks of the items that entries name
pub record AreMarks (items : List Item) (found : List Reversed) (marks : List Bool) : Type 0 where
  pub many : length marks ≡ length items
  pub are : (n : ℕ) → slice_index_or marks n false ≡ has_item found n
