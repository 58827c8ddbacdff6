-- What stops a step of a sheet, by what it reverses (own).
use Rattle.std.specs.Prelude.{◌⊎◌, ℕ, ◌==◌, ◌&&◌, not, Bool, false, if◌then◌else◌, IsTrue, List, [], ◌∷◌, ◌++◌, map, Option, Some, None, slice_get}
use Rattle.std.specs.List.{Contains, list_any}
use Rattle.css_model.specs.declared.sheet.DeclItem.{DeclItem}
use Rattle.css_model.specs.declared.sheet.Item.{Item}
use Rattle.css_model.specs.declared.sheet.SelItem.{SelItem}
use Rattle.css_model.specs.Documents.SelectorParts.{SelectorParts}
use Rattle.css_model.specs.Sheets.KeptItems.{is_kept}
use Rattle.css_model.specs.Sheets.RuleParts.{RuleParts}
use Rattle.order_index.specs.Afterwards.{after, edit_at}
use Rattle.order_laws.specs.Members.{same_selector}
use Rattle.order_laws.specs.Reversed.{reversed}
use Rattle.sheet_order.specs.declared.places.Other.{Other}
use Rattle.sheet_order.specs.declared.places.Other.TheVariants.{Pair, Kept}
use Rattle.sheet_order.specs.declared.places.PairPlace.{PairPlace}
use Rattle.sheet_order.specs.declared.places.Reversed.{Reversed}
use Rattle.sheet_order.specs.Places.{entry_of}
use Rattle.sheet_order.specs.Taking.{rule_in}
use Rattle.step_laws.specs.declared.step.Step.{Step}
use Rattle.step_laws.specs.Free.{Answered}

-- ---- What stands at the place of a pair

abbrev pub selectors_in : Option RuleParts → List SelItem
selectors_in None = []
selectors_in (Some r) = r.selectors

abbrev pub decls_in : Option RuleParts → List DeclItem
decls_in None = []
decls_in (Some r) = r.decls

-- its selector and its declaration, if the sheet has them
abbrev pub selector_at : List Item → PairPlace → Option SelItem
selector_at items p = slice_get (selectors_in (rule_in (slice_get items p.item))) p.sel

abbrev pub decl_at : List Item → PairPlace → Option DeclItem
decl_at items p = slice_get (decls_in (rule_in (slice_get items p.item))) p.decl

-- ---- One entry

-- what a step of a sheet reverses, nearest first
abbrev pub entries_of : List Item → Step → List Reversed
entries_of items k = map entry_of (reversed items (after items k) (edit_at items k).moved)

-- whether an answer for two selectors is anything but that they are apart
abbrev pub is_other : List Answered → SelectorParts → SelectorParts → Bool
is_other answers x y = list_any (λ a. same_selector a.first x && same_selector a.second y && not a.is_apart) answers

abbrev pub are_other : List Answered → Option SelItem → Option SelItem → Bool
are_other answers None t = false
are_other answers (Some s) None = false
are_other answers (Some s) (Some t) = is_other answers s.selector t.selector

abbrev pub is_kept_in : Option Item → Bool
is_kept_in None = false
is_kept_in (Some item) = is_kept item

abbrev pub other_stops : List Answered → List Item → PairPlace → Other → Bool
other_stops answers items moved (Pair q) = are_other answers (selector_at items moved) (selector_at items q)
other_stops answers items moved (Kept n) = is_kept_in (slice_get items n)

-- Whether an entry stops its step: it names a kept item, or a pair that is not answered to be apart from the moved one.
abbrev pub stops : List Answered → List Item → Reversed → Bool
stops answers items r = other_stops answers items r.moved r.other

-- the item that it names
abbrev pub item_of_other : Other → ℕ
item_of_other (Pair q) = q.item
item_of_other (Kept n) = n

abbrev pub item_of : Reversed → ℕ
item_of r = item_of_other r.other

-- ---- All entries

-- whether one of these entries names an item
abbrev pub has_item : List Reversed → ℕ → Bool
has_item found n = list_any (λ r. item_of r == n) found

-- an entry behind others if it stops, and none of them names its item
abbrev pub with_entry : List Answered → List Item → List Reversed → Reversed → List Reversed
with_entry answers items found r = if has_item found (item_of r) then found else if stops answers items r then found ++ r ∷ [] else found

abbrev pub stopping_after : List Answered → List Item → (found : List Reversed) → List Reversed → List Reversed
stopping_after answers items found [] = found
stopping_after answers items found (r ∷ rest) = stopping_after answers items (with_entry answers items found r) rest

-- Of each item that stops a step with these entries the first one that does, in their order.
abbrev pub stopping : List Answered → List Item → List Reversed → List Reversed
stopping answers items entries = stopping_after answers items [] entries

-- ---- What has to be answered for that

abbrev pub HasAnswer : List Answered → SelectorParts → SelectorParts → Type 0
HasAnswer answers x y = (apart : Bool) × Contains answers (record { first = x; second = y; is_apart = apart })

abbrev pub AreAnswered : List Answered → Option SelItem → Option SelItem → Type 0
AreAnswered answers None t = Unit {0}
AreAnswered answers (Some s) None = Unit {0}
AreAnswered answers (Some s) (Some t) = HasAnswer answers s.selector t.selector

abbrev pub IsOtherSettled : List Answered → List Item → PairPlace → Other → Type 0
IsOtherSettled answers items moved (Pair q) = AreAnswered answers (selector_at items moved) (selector_at items q)
IsOtherSettled answers items moved (Kept n) = Unit {0}

-- an entry is answered
abbrev pub IsSettled : List Answered → List Item → Reversed → Type 0
IsSettled answers items r = IsOtherSettled answers items r.moved r.other

abbrev pub AreSettledAfter : List Answered → List Item → (found : List Reversed) → List Reversed → Type 0
AreSettledAfter answers items found [] = Unit {0}
AreSettledAfter answers items found (r ∷ rest) =
    (IsTrue (has_item found (item_of r)) ⊎ IsSettled answers items r) × AreSettledAfter answers items (with_entry answers items found r) rest

-- Each entry is answered, unless an earlier one shows that its item stops the step.
abbrev pub AreSettled : List Answered → List Item → List Reversed → Type 0
AreSettled answers items entries = AreSettledAfter answers items [] entries
