-- What stays while other items of a sheet come and go.
use Rattle.std.specs.Prelude.{◌≡◌, ℕ, Bool, false, List, [], ◌∷◌}
use Rattle.std.specs.List.{filter}
use Rattle.css_model.specs.declared.sheet.Item.{Item}
use Rattle.css_model.specs.Cascade.Order.{Pair, HasPair, IsBefore, IsBeforeKept}
use Rattle.css_model.specs.Sheets.KeptItems.{is_kept}
use Rattle.order_laws.specs.Edits.{is_moved, Edit, edited}
use Rattle.order_laws.specs.Reversing.{ReversesPair, ReversesKept}

-- what is left out has neither of two pairs
abbrev pub LacksBoth : (Item → Bool) → Pair → Pair → Type 0
LacksBoth keep p q = (x : Item) → keep x ≡ false → (HasPair (x ∷ []) p → ⊥) × (HasPair (x ∷ []) q → ⊥)

-- what is left out is a rule without a pair
abbrev pub LacksAndIsRule : (Item → Bool) → Pair → Type 0
LacksAndIsRule keep p = (x : Item) → keep x ≡ false → (HasPair (x ∷ []) p → ⊥) × (is_kept x ≡ false)

-- The order of two pairs hangs on the items that have one of them.
abbrev pub OthersDoNotCount : Type 0
OthersDoNotCount = (keep : Item → Bool) (p q : Pair) → LacksBoth keep p q →
    (items items' : List Item) → filter keep items ≡ filter keep items' → IsBefore items p q → IsBefore items' p q

-- The order of a pair and a kept item hangs on the items that have the pair, and on the kept ones.
abbrev pub OtherRulesDoNotCount : Type 0
OtherRulesDoNotCount = (keep : Item → Bool) (p : Pair) → LacksAndIsRule keep p →
    (items items' : List Item) → filter keep items ≡ filter keep items' → (number : ℕ) → IsBeforeKept items p number → IsBeforeKept items' p number

-- What an edit of a sheet reverses, an edit of another sheet reverses too, where the items with the two pairs
-- are the same in both sheets, and behind both edits, and both edits move the one pair.
abbrev pub HindrancesStay : Type 0
HindrancesStay = (keep : Item → Bool) (p q : Pair) → LacksBoth keep p q → (items items' : List Item) (e e' : Edit) →
    filter keep items ≡ filter keep items' → filter keep (edited e items) ≡ filter keep (edited e' items') → is_moved e.moved p ≡ is_moved e'.moved p →
    ReversesPair items (edited e items) e.moved p q → ReversesPair items' (edited e' items') e'.moved p q

-- and so with a kept item, where the kept items are the same, too
abbrev pub KeptHindrancesStay : Type 0
KeptHindrancesStay = (keep : Item → Bool) (p : Pair) → LacksAndIsRule keep p → (items items' : List Item) (e e' : Edit) →
    filter keep items ≡ filter keep items' → filter keep (edited e items) ≡ filter keep (edited e' items') → is_moved e.moved p ≡ is_moved e'.moved p →
    (number : ℕ) → ReversesKept items (edited e items) e.moved p number → ReversesKept items' (edited e' items') e'.moved p number
