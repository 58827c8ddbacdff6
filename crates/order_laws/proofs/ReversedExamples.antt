-- What is reversed on small sheets: each theorem is by computation.
use Rattle.std.proofs.Common.{◌≡◌, ℕ, List, [], ◌∷◌, refl}
use Rattle.std.specs.Prelude.{codes}
use Rattle.css_model.specs.declared.sheet.Decl.{Decl}
use Rattle.css_model.specs.declared.sheet.Item.{Item}
use Rattle.css_model.specs.declared.sheet.Item.TheVariants.{Rule}
use Rattle.css_model.specs.Sheets.RuleParts.{RuleParts}
use Rattle.css_model.specs.Documents.SelectorParts.{SelectorParts}
use Rattle.order_laws.specs.Edits.{Edit, whole_rule, edited}
use Rattle.order_laws.specs.Moving.{item_moved}
use Rattle.order_laws.specs.Places.{PlacedPair}
use Rattle.order_laws.specs.Reversed.{Other, AnotherPair, KeptAt, Reversal, reversed}
use Rattle.order_laws.proofs.ExampleSheets.{a, b, div, decl, important, red, blue, top, rule_of, rule, kept_rule, kept_block}

abbrev standing : SelectorParts → Decl → ℕ → ℕ → ℕ → PlacedPair
standing s d item selector position = record { pair = record { selector = s; decl = d }; place = record { item = item; selector = selector; decl = position } }

abbrev entry : PlacedPair → Other → Reversal
entry p other = record { moved = p; other = other }

-- what it reverses to move the rule of this number
abbrev by_moving : List Item → ℕ → ℕ → RuleParts → List Reversal
by_moving items from to r = reversed items (item_moved items from to (Rule r)) (whole_rule from r)

-- the first of these two rules is moved behind the second
abbrev by_swapping : RuleParts → Item → List Reversal
by_swapping r other = by_moving (Rule r ∷ other ∷ []) 0 1 r

-- ---- What weighs

-- `.a{color:red}.b{color:blue}`: for this pair alone
swapped : by_swapping (rule_of (a ∷ []) (red ∷ [])) (rule b (blue ∷ [])) ≡ entry (standing a red 0 0 0) (AnotherPair (standing b blue 1 0 0)) ∷ []
swapped = refl

-- `.a{color:red}.b{color:red}`: equal declarations do not count
equal_decls : by_swapping (rule_of (a ∷ []) (red ∷ [])) (rule b (red ∷ [])) ≡ []
equal_decls = refl

-- `.a{color:red}div{color:blue}`: nor do those of another specificity
other_specificity : by_swapping (rule_of (a ∷ []) (red ∷ [])) (rule div (blue ∷ [])) ≡ []
other_specificity = refl

-- `.a{color:red}.b{color:blue!important}`: nor of another importance
other_importance : by_swapping (rule_of (a ∷ []) (red ∷ [])) (rule b (important blue ∷ [])) ≡ []
other_importance = refl

-- `.a{color:red!important}.b{color:blue!important}`: but of the same
both_important : by_swapping (rule_of (a ∷ []) (important red ∷ [])) (rule b (important blue ∷ [])) ≡ entry (standing a (important red) 0 0 0) (AnotherPair (standing b (important blue) 1 0 0)) ∷ []
both_important = refl

-- `.a{color:red}.b{top:0}`: nor of another family
other_family : by_swapping (rule_of (a ∷ []) (red ∷ [])) (rule b (top (codes "0") ∷ [])) ≡ []
other_family = refl

abbrev margin : Decl
margin = decl (codes "margin") (codes "0")

abbrev margin_left : Decl
margin_left = decl (codes "margin-left") (codes "1px")

-- `.a{margin:0}.b{margin-left:1px}`
one_family : by_swapping (rule_of (a ∷ []) (margin ∷ [])) (rule b (margin_left ∷ [])) ≡ entry (standing a margin 0 0 0) (AnotherPair (standing b margin_left 1 0 0)) ∷ []
one_family = refl

abbrev unset : Decl
unset = decl (codes "all") (codes "unset")

-- `.a{all:unset}.b{top:0}`
all_properties : by_swapping (rule_of (a ∷ []) (unset ∷ [])) (rule b (top (codes "0") ∷ [])) ≡ entry (standing a unset 0 0 0) (AnotherPair (standing b (top (codes "0")) 1 0 0)) ∷ []
all_properties = refl

-- ---- Kept items

-- a kept block may apply anything: `.a{color:red}@x;`
kept_block_passed : by_swapping (rule_of (a ∷ []) (red ∷ [])) kept_block ≡ entry (standing a red 0 0 0) (KeptAt 1) ∷ []
kept_block_passed = refl

-- a kept rule its declarations alone, by whatever selector: `.a{color:red}:x{color:blue}`
kept_rule_passed : by_swapping (rule_of (a ∷ []) (red ∷ [])) (kept_rule (blue ∷ [])) ≡ entry (standing a red 0 0 0) (KeptAt 1) ∷ []
kept_rule_passed = refl

-- the same declaration too, since its specificity is not known
same_kept : by_swapping (rule_of (a ∷ []) (red ∷ [])) (kept_rule (red ∷ [])) ≡ entry (standing a red 0 0 0) (KeptAt 1) ∷ []
same_kept = refl

kept_of_other_family : by_swapping (rule_of (a ∷ []) (red ∷ [])) (kept_rule (top (codes "0") ∷ important blue ∷ [])) ≡ []
kept_of_other_family = refl

-- ---- Places

abbrev clear : Decl
clear = decl (codes "color") (codes "oklch(1 0 0)")

-- a fallback and what it falls back from: `.a{color:red;color:oklch(1 0 0)}.b{color:blue}`
fallback : by_swapping (rule_of (a ∷ []) (red ∷ clear ∷ [])) (rule b (blue ∷ [])) ≡
    entry (standing a red 0 0 0) (AnotherPair (standing b blue 1 0 0)) ∷ entry (standing a clear 0 0 1) (AnotherPair (standing b blue 1 0 0)) ∷ []
fallback = refl

-- of equal selectors the first is named, and of equal declarations the last: `.a,.a{top:0;top:0}.b{top:1px}`
equal_parts : by_swapping (rule_of (a ∷ a ∷ []) (top (codes "0") ∷ top (codes "0") ∷ [])) (rule b (top (codes "1px") ∷ [])) ≡
    entry (standing a (top (codes "0")) 0 0 1) (AnotherPair (standing b (top (codes "1px")) 1 0 0)) ∷ []
equal_parts = refl

-- nearest first: `.a{color:red}.b{color:blue}.b{color:oklch(1 0 0)}`
nearest_first : by_moving (rule a (red ∷ []) ∷ rule b (blue ∷ []) ∷ rule b (clear ∷ []) ∷ []) 0 2 (rule_of (a ∷ []) (red ∷ [])) ≡
    entry (standing a red 0 0 0) (AnotherPair (standing b blue 1 0 0)) ∷ entry (standing a red 0 0 0) (AnotherPair (standing b clear 2 0 0)) ∷ []
nearest_first = refl

-- then by selector and by declaration: `.a{top:0}.b,.a{top:1px;top:2px}`
then_by_place : by_swapping (rule_of (a ∷ []) (top (codes "0") ∷ [])) (Rule (rule_of (b ∷ a ∷ []) (top (codes "1px") ∷ top (codes "2px") ∷ []))) ≡
    entry (standing a (top (codes "0")) 0 0 0) (AnotherPair (standing b (top (codes "1px")) 1 0 0))
    ∷ entry (standing a (top (codes "0")) 0 0 0) (AnotherPair (standing b (top (codes "2px")) 1 0 1))
    ∷ entry (standing a (top (codes "0")) 0 0 0) (AnotherPair (standing a (top (codes "1px")) 1 1 0))
    ∷ entry (standing a (top (codes "0")) 0 0 0) (AnotherPair (standing a (top (codes "2px")) 1 1 1))
    ∷ []
then_by_place = refl

-- ---- A pair counts by its last place

abbrev thrice : List Item
thrice = rule a (red ∷ []) ∷ rule b (blue ∷ []) ∷ rule a (red ∷ []) ∷ []

-- `.a{color:red}.b{color:blue}.a{color:red}`: the first rule may go behind the second
earlier_moves : by_moving thrice 0 1 (rule_of (a ∷ []) (red ∷ [])) ≡ []
earlier_moves = refl

-- but the third not before it
later_stays : by_moving thrice 2 1 (rule_of (a ∷ []) (red ∷ [])) ≡ entry (standing a red 2 0 0) (AnotherPair (standing b blue 1 0 0)) ∷ []
later_stays = refl

-- `.a{top:0;top:1px;top:0}` without its first or its last declaration
abbrev cut : List Decl → List Reversal
cut rest = let whole = rule_of (a ∷ []) (top (codes "0") ∷ top (codes "1px") ∷ top (codes "0") ∷ []) in
    reversed (Rule whole ∷ []) (rule a rest ∷ []) (whole_rule 0 whole)

first_cut : cut (top (codes "1px") ∷ top (codes "0") ∷ []) ≡ []
first_cut = refl

last_cut : cut (top (codes "0") ∷ top (codes "1px") ∷ []) ≡
    entry (standing a (top (codes "0")) 0 0 2) (AnotherPair (standing a (top (codes "1px")) 0 0 1))
    ∷ entry (standing a (top (codes "1px")) 0 0 1) (AnotherPair (standing a (top (codes "0")) 0 0 2))
    ∷ []
last_cut = refl

-- ---- Pairs moved out of two rules

-- `.a{margin:0;margin-left:1px}.b{margin:0}` with `margin:0` for both in a rule before the second
abbrev shared : Edit
shared = record {
  changes = record { at = 0; by = rule a (margin_left ∷ []) ∷ [] } ∷ record { at = 1; by = Rule (rule_of (a ∷ b ∷ []) (margin ∷ [])) ∷ [] } ∷ [];
  moved = record { out_of = 0 ∷ 1 ∷ []; selectors = (rule_of (a ∷ b ∷ []) []).selectors; decls = (rule_of [] (margin ∷ [])).decls };
}

abbrev sharing : List Item
sharing = rule a (margin ∷ margin_left ∷ []) ∷ rule b (margin ∷ []) ∷ []

sharing_passes : reversed sharing (edited shared sharing) shared.moved ≡ entry (standing a margin 0 0 0) (AnotherPair (standing a margin_left 0 0 1)) ∷ []
sharing_passes = refl
