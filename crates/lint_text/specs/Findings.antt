-- What is found in a sheet: selectors that match nothing, and repeated declarations (own).
use Rattle.std.specs.Prelude.{ℕ, ◌+◌, Bool, if◌then◌else◌, List, [], ◌∷◌, ◌++◌, Option, Some, None, slice_get, codes}
use Rattle.std.specs.List.{enumerate_from, flat_map}
use Rattle.css_model.specs.declared.sheet.Decl.{Decl}
use Rattle.css_model.specs.declared.sheet.DeclItem.{DeclItem}
use Rattle.css_model.specs.declared.sheet.Item.{Item}
use Rattle.css_model.specs.declared.sheet.Item.TheVariants.{Rule, KeptRule, KeptBlock}
use Rattle.css_model.specs.declared.sheet.SelItem.{SelItem}
use Rattle.css_model.specs.Documents.SelectorParts.{SelectorParts}
use Rattle.css_model.specs.Sheets.Printed.{printed_declaration, printed_selector}
use Rattle.css_model.specs.Sheets.RuleParts.{RuleParts}
use Rattle.line_places.specs.Lines.{place_of, place_text}
use Rattle.line_places.specs.Shown.{shown}
use Rattle.lint_laws.specs.Repeats.{is_repeated, last_in, pair_of}
use Rattle.media_groups.specs.Levels.{Level, levels_of}
use Rattle.order_laws.specs.Places.{PlacedPair, last_pairs}

-- ---- One finding

-- a line, and where what it tells of begins in the bytes of the sheet
pub record Finding : Type 0 where
  pub at : ℕ
  pub line : List ℕ

-- a level of the sheet with these bytes: where its own bytes begin, these, its items and the last places of its pairs
pub record Seen : Type 0 where
  pub text : List ℕ
  pub start : ℕ
  pub source : List ℕ
  pub items : List Item
  pub lasts : List PlacedPair

-- `PLACE dead SELECTOR`
abbrev pub dead_line : Seen → SelItem → List ℕ
dead_line l s = place_text (place_of l.text (l.start + s.piece.start)) ++ codes " dead " ++ shown (printed_selector l.source s)

-- a selector, where it is dead by this test
abbrev pub dead_of : (dead : SelectorParts → Bool) → Seen → SelItem → List Finding
dead_of dead l s = if dead s.selector then record { at = l.start + s.piece.start; line = dead_line l s } ∷ [] else []

-- where a declaration begins
abbrev pub decl_start : Option DeclItem → ℕ
decl_start None = 0
decl_start (Some d) = d.name.start

-- the rule that an item is, if there is one
abbrev pub rule_in : Option Item → Option RuleParts
rule_in None = None
rule_in (Some (Rule r)) = Some r
rule_in (Some (KeptRule kept)) = None
rule_in (Some (KeptBlock piece)) = None

-- where the declaration of this number begins, if there is a rule
abbrev pub rule_start : Option RuleParts → (number : ℕ) → ℕ
rule_start None number = 0
rule_start (Some r) number = decl_start (slice_get r.decls number)

-- where the declaration begins that a pair at its last place has; 0 without a place
abbrev pub pair_start : List Item → Option PlacedPair → ℕ
pair_start items None = 0
pair_start items (Some x) = rule_start (rule_in (slice_get items x.place.item)) x.place.decl

-- where the last declaration of the pair begins that the first of these selectors has with a declaration
abbrev pub last_start : Seen → List SelItem → Decl → ℕ
last_start l [] d = 0
last_start l (s ∷ selectors) d = pair_start l.items (last_in l.lasts (pair_of s.selector d))

-- `PLACE repeated DECLARATION`
abbrev pub repeated_front : Seen → DeclItem → List ℕ
repeated_front l d = place_text (place_of l.text (l.start + d.name.start)) ++ codes " repeated " ++ shown (printed_declaration l.source d)

-- `PLACE repeated DECLARATION PLACE`: a declaration of a rule with these selectors, and where the pair of the first one
-- is last
abbrev pub repeated_line : Seen → List SelItem → DeclItem → List ℕ
repeated_line l selectors d = repeated_front l d ++ codes " " ++ place_text (place_of l.text (l.start + last_start l selectors d.decl))

-- a declaration with its number in the rule of this number, where it is repeated
abbrev pub repeated_of : Seen → (item : ℕ) → List SelItem → ℕ × DeclItem → List Finding
repeated_of l item selectors (number, d) =
    if is_repeated l.lasts item selectors number d.decl then record { at = l.start + d.name.start; line = repeated_line l selectors d } ∷ [] else []

-- ---- All findings

-- those of an item with its number: of a rule its dead selectors and its repeated declarations
abbrev pub found_of : (dead : SelectorParts → Bool) → Seen → ℕ × Item → List Finding
found_of dead l (item, (Rule r)) = flat_map (dead_of dead l) r.selectors ++ flat_map (repeated_of l item r.selectors) (enumerate_from 0 r.decls)
found_of dead l (item, (KeptRule kept)) = []
found_of dead l (item, (KeptBlock piece)) = []

-- those of a level
abbrev pub found_in : (dead : SelectorParts → Bool) → Seen → List Finding
found_in dead l = flat_map (found_of dead l) (enumerate_from 0 l.items)

-- a level of the sheet with these bytes, seen with its last pairs
abbrev pub seen_of : (text : List ℕ) → Level → Seen
seen_of text l = record { text = text; start = l.start; source = l.source; items = l.items; lasts = last_pairs l.items }

-- Those of a sheet: of the sheet itself, and then of the bodies of its opened blocks. Each selector is told that is dead
-- by this test, and each declaration that is repeated in its level.
abbrev pub findings : (dead : SelectorParts → Bool) → (text : List ℕ) → (items : List Item) → List Finding
findings dead text items = flat_map (λ l. found_in dead (seen_of text l)) (levels_of text items)
