-- Laws on what is told of a move.
use Rattle.std.specs.Prelude.{◌≡◌, ◌≢◌, ℕ, List, [], ◌∷◌, Some, slice_get}
use Rattle.css_model.specs.declared.example.Example.{Example}
use Rattle.css_model.specs.declared.sheet.Decl.{Decl}
use Rattle.css_model.specs.declared.sheet.DeclItem.{DeclItem}
use Rattle.css_model.specs.declared.sheet.Item.{Item}
use Rattle.css_model.specs.declared.sheet.Item.TheVariants.{Rule}
use Rattle.css_model.specs.declared.sheet.SelItem.{SelItem}
use Rattle.css_model.specs.Cascade.Order.{Keeps}
use Rattle.css_model.specs.Cascade.Winner.{Understood, Winner, winner}
use Rattle.css_model.specs.Documents.Document.{IsLegal}
use Rattle.css_model.specs.Documents.RunDocuments.{expand, target_of}
use Rattle.css_model.specs.Documents.Specificity.{specificity_of}
use Rattle.order_laws.specs.Keeping.{AreRelated}
use Rattle.order_laws.specs.Moving.{item_moved}
use Rattle.overlap.specs.PairsParts.{PairsParts}
use Rattle.overlap.specs.Remembered.{IsTrueList}
use Rattle.sheet_order.specs.declared.places.PairPlace.{PairPlace}
use Rattle.why_text.specs.declared.explaining.Explained.TheVariants.{Free, Blocked}
use Rattle.why_text.specs.Explaining.{IsExplained}
use Rattle.why_text.specs.PairTexts.{StandAt, rule_of}

-- ---- A move that is free

-- By true answers a move that is told to be free keeps the sheet, so that every winner stays.
abbrev pub FreeMovesKeep : Type 0
FreeMovesKeep = (source : List ℕ) (items : List Item) (from to : ℕ) (item other : Item) (pairs : PairsParts) → ∥ IsTrueList pairs ∥₁ →
    slice_get items from ≡ Some item → slice_get items to ≡ Some other → IsExplained pairs.answers items from to item Free →
    Keeps source items source (item_moved items from to item)

-- ---- A move that is blocked

-- a declaration as one that a browser understands
abbrev pub understood : Decl → Understood
understood d = record { name = d.name; value = d.value }

-- what wins where a declaration of this selector does
abbrev pub won_by : SelItem → DeclItem → Winner
won_by s d = record { name = d.decl.name; value = d.decl.value; important = d.decl.important; specificity = specificity_of s.selector }

-- An example shows that the order of two rules of one selector and one declaration each counts: its document is
-- legal, a browser may understand both declarations, of related names, and of these the second one wins for the
-- target, whichever it is, so that the winners of the two orders differ.
pub record ShowsOrder (s : SelItem) (d : DeclItem) (t : SelItem) (f : DeclItem) (e : Example) : Type 0 where
  pub legal : IsLegal (expand e)
  pub names : AreRelated (understood d.decl ∷ understood f.decl ∷ [])
  pub first : winner (expand e) (target_of e) [] (Rule (rule_of s d) ∷ Rule (rule_of t f) ∷ []) (understood d.decl ∷ understood f.decl ∷ []) ≡ Some (won_by t f)
  pub second : winner (expand e) (target_of e) [] (Rule (rule_of t f) ∷ Rule (rule_of s d) ∷ []) (understood d.decl ∷ understood f.decl ∷ []) ≡ Some (won_by s d)
  pub differ : won_by t f ≢ won_by s d

-- By true answers the example of a move that is told to be blocked shows that the order of the two pairs counts.
abbrev pub BlockedMovesShowOrder : Type 0
BlockedMovesShowOrder = (items : List Item) (from to : ℕ) (item : Item) (pairs : PairsParts) (moved other : PairPlace) (example : Example) → ∥ IsTrueList pairs ∥₁ →
    IsExplained pairs.answers items from to item (Blocked moved other example) →
    (s : SelItem) (d : DeclItem) (t : SelItem) (f : DeclItem) → StandAt items moved s d → StandAt items other t f → ∥ ShowsOrder s d t f example ∥₁
