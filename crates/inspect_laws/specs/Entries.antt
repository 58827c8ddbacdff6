-- What the rules of a sheet, and of the bodies of its opened blocks, apply to a target: an entry for each declaration and each
-- selector of its rule that matches (own; CSS Cascading 3, section 5).
use Rattle.std.specs.Prelude.{ℕ, ◌+◌, Bool, if◌then◌else◌, List, [], ◌∷◌, ◌++◌, map, Option, Some, None}
use Rattle.std.specs.List.{enumerate_from, flat_map}
use Rattle.css_model.specs.declared.example.Example.{Example}
use Rattle.css_model.specs.declared.selector.Specificity.{Specificity}
use Rattle.css_model.specs.declared.sheet.Decl.{Decl}
use Rattle.css_model.specs.declared.sheet.DeclItem.{DeclItem}
use Rattle.css_model.specs.declared.sheet.Item.{Item}
use Rattle.css_model.specs.declared.sheet.Item.TheVariants.{Rule, KeptRule, KeptBlock}
use Rattle.css_model.specs.declared.sheet.SelItem.{SelItem}
use Rattle.css_model.specs.Documents.Matching.{matches}
use Rattle.css_model.specs.Documents.RunDocuments.{expand, target_of}
use Rattle.css_model.specs.Documents.SelectorParts.{SelectorParts}
use Rattle.css_model.specs.Documents.Specificity.{specificity_of}
use Rattle.css_model.specs.Sheets.Printed.{printed_declaration, printed_selector}
use Rattle.css_model.specs.Sheets.RuleParts.{RuleParts}
use Rattle.css_model.specs.Sheets.Spelling.{kept_text}
use Rattle.css_model.specs.Text.Characters.{close_curly, open_curly}
use Rattle.css_model.specs.Text.Source.{text_at}
use Rattle.media_groups.specs.declared.media.Media.{Media}
use Rattle.media_groups.specs.Opened.{opened_of}

-- ---- One entry

-- Where an entry stands, by numbers from 0: the item of the sheet; the item of its body, if the first one is an opened block,
-- and otherwise 0; the declaration of the rule; the selector of the rule.
pub record Spot : Type 0 where
  pub item : ℕ
  pub inner : ℕ
  pub declaration : ℕ
  pub selector : ℕ

-- A declaration, by a selector of its rule that matches: the specificity of the selector, where both stand, the kept text of the
-- head of the opened block that they stand in, if they do, where the declaration begins in the bytes of the sheet, and the
-- printed text of a rule of both.
pub record Entry : Type 0 where
  pub decl : Decl
  pub specificity : Specificity
  pub spot : Spot
  pub head : Option (List ℕ)
  pub at : ℕ
  pub text : List ℕ

-- ---- Those of a rule

-- A level of a sheet: the sheet itself, or the body of the opened block that is the item of this number, with the kept text of
-- its head; where its bytes begin in those of the sheet, these, and its items.
pub record Layer : Type 0 where
  pub block : Option ℕ
  pub head : Option (List ℕ)
  pub start : ℕ
  pub source : List ℕ
  pub items : List Item

-- a selector of a rule that matches: its number in the rule, its specificity and its printed text
pub record Matching : Type 0 where
  pub number : ℕ
  pub specificity : Specificity
  pub text : List ℕ

-- a selector with its number, if it matches by this test
abbrev pub matching_of : (SelectorParts → Bool) → (source : List ℕ) → ℕ × SelItem → List Matching
matching_of matched source (number, s) = if matched s.selector then record { number = number; specificity = specificity_of s.selector; text = printed_selector source s } ∷ [] else []

-- those of these selectors that match
abbrev pub matching_in : (SelectorParts → Bool) → (source : List ℕ) → List (ℕ × SelItem) → List Matching
matching_in matched source selectors = flat_map (matching_of matched source) selectors

-- the item of the sheet that an item of a level is or stands in
abbrev pub outer_item : (block : Option ℕ) → (item : ℕ) → ℕ
outer_item None item = item
outer_item (Some block) item = block

-- the item of its body, and 0 outside of bodies
abbrev pub inner_item : (block : Option ℕ) → (item : ℕ) → ℕ
inner_item None item = 0
inner_item (Some block) item = item

-- a declaration of the rule of this number, by a selector that matches
abbrev pub entry_of : Layer → (item : ℕ) → ℕ × DeclItem → Matching → Entry
entry_of l item (number, d) m = record {
  decl = d.decl;
  specificity = m.specificity;
  spot = record { item = outer_item l.block item; inner = inner_item l.block item; declaration = number; selector = m.number };
  head = l.head;
  at = l.start + d.name.start;
  text = m.text ++ open_curly ∷ printed_declaration l.source d ++ close_curly ∷ [];
}

-- the entries of a declaration of the rule of this number, by the selectors that match
abbrev pub by_declaration : Layer → (item : ℕ) → List Matching → ℕ × DeclItem → List Entry
by_declaration l item matching d = map (entry_of l item d) matching

-- the entries of the rule of this number
abbrev pub by_rule : (SelectorParts → Bool) → Layer → (item : ℕ) → RuleParts → List Entry
by_rule matched l item r = flat_map (by_declaration l item (matching_in matched l.source (enumerate_from 0 r.selectors))) (enumerate_from 0 r.decls)

-- ---- All entries

-- those of an item with its number: of a style rule its own, and of what is kept none
abbrev pub by_item : (SelectorParts → Bool) → Layer → ℕ × Item → List Entry
by_item matched l (number, (Rule r)) = by_rule matched l number r
by_item matched l (number, (KeptRule kept)) = []
by_item matched l (number, (KeptBlock piece)) = []

abbrev pub by_layer : (SelectorParts → Bool) → Layer → List Entry
by_layer matched l = flat_map (by_item matched l) (enumerate_from 0 l.items)

-- the sheet itself
abbrev pub outer_layer : (source : List ℕ) (items : List Item) → Layer
outer_layer source items = record { block = None; head = None; start = 0; source = source; items = items }

-- the body of an opened block
abbrev pub body_layer : (source : List ℕ) → Media → Layer
body_layer source m = record { block = Some m.item; head = Some (kept_text source m.head); start = m.body.start; source = text_at source m.body; items = m.sheet.items }

-- the entries of a sheet, and then those of the bodies of its opened blocks; by a test of selectors
abbrev pub entries_by : (SelectorParts → Bool) → (source : List ℕ) (items : List Item) → List Entry
entries_by matched source items = by_layer matched (outer_layer source items) ++ flat_map (λ m. by_layer matched (body_layer source m)) (opened_of items source)

-- those that apply to the target of an example
abbrev pub entries_of : Example → (source : List ℕ) (items : List Item) → List Entry
entries_of x source items = entries_by (matches (expand x) (target_of x)) source items
