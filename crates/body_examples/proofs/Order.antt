-- What the order of a sheet is, and what a move and a second sheet reverse.
use Rattle.std.proofs.Common.{◌≡◌, ℕ, List, [], ◌∷◌, Some, None, true, false, map, refl}
use Rattle.std.specs.Prelude.{codes}
use Rattle.body_examples.proofs.Values.{a_class, at_rule, b_class, decl, declares, kept_rule, left, one, pair, red, rule, top}
use Rattle.cnf.specs.declared.ledger.Ledger.{Ledger}
use Rattle.css_model.specs.declared.example.Example.{Example}
use Rattle.css_model.specs.declared.sheet.Item.{Item}
use Rattle.css_model.specs.declared.sheet.Item.TheVariants.{Rule}
use Rattle.item_masks.specs.Masks.{meets}
use Rattle.order_laws.specs.Comparing.{weigh, weighs_kept}
use Rattle.order_laws.specs.Edits.{whole_rule}
use Rattle.order_laws.specs.Moving.{item_moved}
use Rattle.order_laws.specs.Places.{last_pairs, placed}
use Rattle.order_laws.specs.Reversed.{AnotherPair, KeptAt, Other, reversed}
use Rattle.overlap.specs.declared.answer.Answer.TheVariants.{Apart, Meet, Outside, Spent}
use Rattle.sheet_order.specs.Keys.{inserted}
use Rattle.sheet_order.specs.Laws.{is_apart}
use Rattle.sheet_order.specs.declared.places.PairPlace.{PairPlace}
use Rattle.sheet_same.specs.Compared.{found_in_parts}
use Rattle.sheet_same.specs.declared.compared.Compared.TheVariants.{Extra, KeptItem, Missing, Reversed, Unsure}
use Rattle.sheet_same.specs.Judging.{found_by}
use Rattle.sheet_same.specs.Members.{Paired}
use Rattle.sheet_same.specs.Standing.{are_turned}
use Rattle.sheet_same.specs.Turned.{turned}
use Rattle.why_text.specs.declared.explaining.Explained.TheVariants as words
use Rattle.why_text.specs.Explaining.{told_by}
use Rattle.why_text.specs.WhyTexts.{no_item}
use Rattle.window_order.specs.Standing.{decl_before}

-- ---- What weighs

related_names_weigh : weigh (pair a_class top) (pair b_class left) ≡ true
related_names_weigh = refl

other_names_do_not : weigh (pair a_class top) (pair b_class red) ≡ false
other_names_do_not = refl

-- with a kept rule a related name is enough
kept_rule_of_a_related_name_weighs : weighs_kept (pair a_class top) (kept_rule left) ≡ true
kept_rule_of_a_related_name_weighs = refl

-- by the masks of two items only what has a family and a selector in common can weigh
one_kind_of_bits_is_not_enough : meets (record { families = 1; selectors = 2 }) (record { families = 1; selectors = 1 }) ≡ false
one_kind_of_bits_is_not_enough = refl

-- ---- The places of pairs

-- the last place of a declaration counts, and here it is the later one
last_place_counts : decl_before (declares top ∷ declares left ∷ declares top ∷ []) top left ≡ false
last_place_counts = refl

abbrev twice : List Item
twice = one a_class top ∷ one a_class top ∷ []

pair_has_its_last_place : map (λ x. x.place.item) (last_pairs twice) ≡ 1 ∷ []
pair_has_its_last_place = refl

-- what is found from the end on stays where the same pair is found again
found_first_stays : map (λ x. x.place.item) (inserted (placed 1 (0, a_class) (0, top) ∷ []) (placed 0 (0, a_class) (0, top) ∷ [])) ≡ 1 ∷ []
found_first_stays = refl

-- ---- What a move reverses

-- the numbers of the items that are reversed with a pair of a rule which is moved
abbrev other_item : Other → ℕ
other_item (AnotherPair q) = q.place.item
other_item (KeptAt n) = n

abbrev reversed_items : List Item → (from to : ℕ) → Item → List ℕ
reversed_items items from to (Rule r) = map (λ x. other_item x.other) (reversed items (item_moved items from to (Rule r)) (whole_rule from r))
reversed_items items from to item = []

abbrev sheet : List Item
sheet = one b_class left ∷ one b_class red ∷ kept_rule left ∷ at_rule ∷ one b_class (decl (codes "top") (codes "1px")) ∷ one a_class top ∷ []

-- nearest first: the pairs of related names and what is kept, and not the red one
all_that_weighs_is_reversed : reversed_items sheet 5 0 (one a_class top) ≡ 4 ∷ 3 ∷ 2 ∷ 0 ∷ []
all_that_weighs_is_reversed = refl

-- a rule that is not moved reverses nothing
unmoved_reverses_nothing : reversed_items sheet 5 5 (one a_class top) ≡ []
unmoved_reverses_nothing = refl

-- it is the rule `from` that is moved, and none of those between is
moved_down_reverses : reversed_items sheet 0 5 (one b_class left) ≡ 2 ∷ 3 ∷ 4 ∷ 5 ∷ []
moved_down_reverses = refl

-- ---- What follows from an answer

abbrev here : PairPlace
here = record { item = 1; sel = 0; decl = 0 }

abbrev there : PairPlace
there = record { item = 0; sel = 0; decl = 0 }

spent_is_not_apart : (ledger : Ledger) → is_apart (Spent ledger) ≡ false
spent_is_not_apart ledger = refl

outside_is_not_free : told_by here there (Outside 12 0) ≡ Some (words.Outside 12)
outside_is_not_free = refl

apart_is_no_obstacle : told_by here there Apart ≡ None
apart_is_no_obstacle = refl

meeting_blocks : (e : Example) → told_by here there (Meet e) ≡ Some (words.Blocked here there e)
meeting_blocks e = refl

-- ---- The numbers of `why`, from 1

first_missing_number : no_item 2 3 4 ≡ Some 3
first_missing_number = refl

second_missing_number : no_item 2 2 4 ≡ Some 4
second_missing_number = refl

last_item_exists : no_item 2 2 1 ≡ None
last_item_exists = refl

no_item_has_number_zero : no_item 2 0 1 ≡ Some 0
no_item_has_number_zero = refl

-- ---- Two sheets

abbrev two_rules : List Item
two_rules = one a_class top ∷ one b_class left ∷ []

abbrev exchanged : List Item
exchanged = one b_class left ∷ one a_class top ∷ []

same_sheets_lack_nothing : found_in_parts [] [] two_rules [] [] two_rules ≡ None
same_sheets_lack_nothing = refl

last_pair_is_missing : found_in_parts [] [] two_rules [] [] (one a_class top ∷ []) ≡ Some (Missing here)
last_pair_is_missing = refl

last_pair_is_extra : found_in_parts [] [] (one a_class top ∷ []) [] [] two_rules ≡ Some (Extra here)
last_pair_is_extra = refl

kept_items_differ : found_in_parts [] [] (one a_class top ∷ kept_rule top ∷ []) [] [] (one a_class top ∷ kept_rule left ∷ []) ≡ Some (KeptItem 0)
kept_items_differ = refl

exchanged_rules_are_turned : map (λ c. c.later) (turned two_rules exchanged) ≡ Paired (placed 1 (0, b_class) (0, left)) ∷ []
exchanged_rules_are_turned = refl

unrelated_rules_are_not : turned (one a_class top ∷ one b_class red ∷ []) (one b_class red ∷ one a_class top ∷ []) ≡ []
unrelated_rules_are_not = refl

unrelated_members_are_not :
    are_turned (record { member = Paired (placed 0 (0, a_class) (0, top)); here = record { item = 0; decl = 0 }; there = record { item = 1; decl = 0 } })
    (record { member = Paired (placed 1 (0, b_class) (0, red)); here = record { item = 1; decl = 0 }; there = record { item = 0; decl = 0 } }) ≡ false
unrelated_members_are_not = refl

spent_is_unsure : (ledger : Ledger) → found_by there here (Spent ledger) ≡ Some (Unsure 0)
spent_is_unsure ledger = refl

meeting_is_reversed : (e : Example) → found_by there here (Meet e) ≡ Some (Reversed there here e)
meeting_is_reversed e = refl
