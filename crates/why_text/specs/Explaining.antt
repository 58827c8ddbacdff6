-- What hinders the move of an item, by what is answered for pairs of selectors (own).
use Rattle.std.specs.Prelude.{◌≡◌, ℕ, List, [], ◌∷◌, ◌++◌, map, Option, Some, None}
use Rattle.std.specs.List.{All, AllByRecursion, Contains}
use Rattle.css_model.specs.declared.sheet.DeclItem.{DeclItem}
use Rattle.css_model.specs.declared.sheet.Item.{Item}
use Rattle.css_model.specs.declared.sheet.Item.TheVariants.{Rule, KeptRule, KeptBlock}
use Rattle.css_model.specs.declared.sheet.SelItem.{SelItem}
use Rattle.order_laws.specs.Edits.{whole_rule}
use Rattle.order_laws.specs.Moving.{item_moved}
use Rattle.order_laws.specs.Reversed.{reversed}
use Rattle.overlap.specs.declared.answer.Answer.{Answer}
use Rattle.overlap.specs.declared.answer.Answer.TheVariants.{Apart, Meet, Outside, Spent}
use Rattle.overlap.specs.PairsParts.{Answered, PairsParts}
use Rattle.overlap.specs.Remembered.{IsAnswered}
use Rattle.sheet_order.specs.declared.places.Other.{Other}
use Rattle.sheet_order.specs.declared.places.Other.TheVariants.{Pair, Kept}
use Rattle.sheet_order.specs.declared.places.PairPlace.{PairPlace}
use Rattle.sheet_order.specs.declared.places.Reversed.{Reversed}
use Rattle.sheet_order.specs.Places.{entry_of}
use Rattle.why_text.specs.declared.explaining.Explained.{Explained}
use Rattle.why_text.specs.declared.explaining.Explained.TheVariants as words
use Rattle.why_text.specs.PairTexts.{IsPlace, StandAt}

-- ---- What is reversed

-- What is reversed, nearest first, where an item of number `from` is moved to the one of number `to`, both
-- counted from 0. A kept item is not moved, so nothing is.
abbrev pub reversed_by_moving : List Item → (from to : ℕ) → Item → List Reversed
reversed_by_moving items from to (Rule r) = map entry_of (reversed items (item_moved items from to (Rule r)) (whole_rule from r))
reversed_by_moving items from to (KeptRule kept) = []
reversed_by_moving items from to (KeptBlock piece) = []

-- the selectors of two pairs of the sheet, by their places
pub record AreSelectors (items : List Item) (p q : PairPlace) (s t : SelItem) : Type 0 where
  pub first_decl : DeclItem
  pub second_decl : DeclItem
  pub first : StandAt items p s first_decl
  pub second : StandAt items q t second_decl

-- ---- What hinders

-- what an answer for a moved pair and another one tells, if it is not that the selectors are apart
abbrev pub told_by : PairPlace → PairPlace → Answer → Option Explained
told_by p q Apart = None
told_by p q (Meet e) = Some (words.Blocked p q e)
told_by p q (Outside reason number) = Some (words.Outside reason)
told_by p q (Spent ledger) = Some words.Spent

-- this is told by the answer that is held for the selectors of two pairs
pub record TellsPair (answers : List Answered) (items : List Item) (p q : PairPlace) (x : Option Explained) : Type 0 where
  pub moved : SelItem
  pub other : SelItem
  pub answer : Answer
  pub there : AreSelectors items p q moved other
  pub held : IsAnswered answers moved.selector other.selector answer
  pub tells : told_by p q answer ≡ x

-- this is told of a moved pair and what it is reversed with: a kept item always hinders
abbrev pub TellsOther : List Answered → List Item → PairPlace → Other → Option Explained → Type 0
TellsOther answers items p (Pair q) x = TellsPair answers items p q x
TellsOther answers items p (Kept n) x = x ≡ Some (words.KeptItem n)

-- this is told of an entry by itself
abbrev pub Tells : List Answered → List Item → Reversed → Option Explained → Type 0
Tells answers items r x = TellsOther answers items r.moved r.other x

-- nothing is told of any entry: each is a pair whose selectors are answered to be apart
abbrev pub TellNothing : List Answered → List Item → List Reversed → Type 0
TellNothing answers items entries = AllByRecursion (λ r. Tells answers items r None) entries

-- this is told of the first entry of which something is
pub record FirstTells (answers : List Answered) (items : List Item) (entries : List Reversed) (x : Explained) : Type 0 where
  pub before : List Reversed
  pub entry : Reversed
  pub behind : List Reversed
  pub parts : entries ≡ before ++ entry ∷ behind
  pub nothing : TellNothing answers items before
  pub tells : Tells answers items entry (Some x)

-- A move with these entries is free exactly where nothing is told of them, and else the first of which
-- something is tells what hinders.
abbrev pub EntriesTell : List Answered → List Item → List Reversed → Explained → Type 0
EntriesTell answers items entries words.Free = TellNothing answers items entries
EntriesTell answers items entries (words.KeptItem n) = FirstTells answers items entries (words.KeptItem n)
EntriesTell answers items entries (words.Blocked p q e) = FirstTells answers items entries (words.Blocked p q e)
EntriesTell answers items entries (words.Outside reason) = FirstTells answers items entries (words.Outside reason)
EntriesTell answers items entries words.Spent = FirstTells answers items entries words.Spent

-- What is told of the move of an item: of a kept one that it is kept, of a rule what its entries tell.
abbrev pub IsExplained : List Answered → List Item → (from to : ℕ) → Item → Explained → Type 0
IsExplained answers items from to (Rule r) x = EntriesTell answers items (reversed_by_moving items from to (Rule r)) x
IsExplained answers items from to (KeptRule kept) x = x ≡ words.KeptItem from
IsExplained answers items from to (KeptBlock piece) x = x ≡ words.KeptItem from

-- ---- What is asked

-- an answer is for the selectors of the moved pair of an entry and of the other one
pub record IsOfEntry (items : List Item) (r : Reversed) (e : Answered) : Type 0 where
  pub other : PairPlace
  pub s : SelItem
  pub t : SelItem
  pub other_is : r.other ≡ Pair other
  pub there : AreSelectors items r.moved other s t
  pub left : e.left ≡ s.selector
  pub right : e.right ≡ t.selector

-- What is held once some of these entries were asked for: the earlier answers, with the same budget, and
-- behind them none but for these entries.
pub record AsksAmong (items : List Item) (entries : List Reversed) (old new : PairsParts) : Type 0 where
  pub budget : new.budget ≡ old.budget
  pub more : List Answered
  pub is : new.answers ≡ old.answers ++ more
  pub only : All (λ e. (r : Reversed) × Contains entries r × IsOfEntry items r e) more

-- ---- What may be asked

-- what is reversed with a pair has its place in the sheet
abbrev pub HasOtherPlace : List Item → Other → Type 0
HasOtherPlace items (Pair q) = IsPlace items q
HasOtherPlace items (Kept n) = Unit {0}

-- the pairs of an entry have their places in the sheet
abbrev pub HasPlaces : List Item → Reversed → Type 0
HasPlaces items r = IsPlace items r.moved × HasOtherPlace items r.other
