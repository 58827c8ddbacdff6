-- A sheet laid flat: its pairs and its kept items, in the order in which they occur (own; CSS Cascading 3, section 6: the order of
-- appearance). The body of an opened block comes in the place of the block.
use Rattle.std.specs.Prelude.{ℕ, Bool, false, List, [], ◌∷◌, ◌++◌, map, Option, Some, None}
use Rattle.std.specs.List.{enumerate_from, flat_map}
use Rattle.css_model.specs.declared.sheet.DeclItem.{DeclItem}
use Rattle.css_model.specs.declared.sheet.Item.{Item}
use Rattle.css_model.specs.declared.sheet.Item.TheVariants.{Rule, KeptRule, KeptBlock}
use Rattle.css_model.specs.declared.sheet.SelItem.{SelItem}
use Rattle.css_model.specs.Documents.SelectorParts.{SelectorParts}
use Rattle.css_model.specs.Sheets.RuleParts.{RuleParts}
use Rattle.css_model.specs.Sheets.Spelling.{kept_text}
use Rattle.media_groups.specs.Heads.{head_text}
use Rattle.normal_text.specs.Normal.{normal_kept, normal_value}
use Rattle.order_laws.specs.Members.{has_selector}
use Rattle.sheet_members.specs.Layers.{Layer, body_at, body_layers, outer_layer}

-- a selector and a declaration of one rule, or a kept item
pub data Part : Type 0 where
  Paired : SelItem → DeclItem → Part
  Kept : Item → Part

-- Where one occurs: its layer and the number of its item in it, from 0. Its normal text is that of a declaration's value, or of a
-- kept item; its front is the normal text of the head of a kept item. A pair is repeated where its selector comes in its rule
-- before.
pub record Occurrence : Type 0 where
  pub layer : Layer
  pub item : ℕ
  pub part : Part
  pub text : List ℕ
  pub front : List ℕ
  pub repeated : Bool

-- ---- Those of an item

abbrev pub pair_of : Layer → (item : ℕ) → DeclItem → SelItem × Bool → Occurrence
pair_of l item d s = record { layer = l; item = item; part = Paired s.0 d; text = normal_value d.decl; front = []; repeated = s.1 }

-- selectors, each with whether it comes before: among these, or earlier
abbrev pub with_repeats : (before : List SelItem) → List SelItem → List (SelItem × Bool)
with_repeats before [] = []
with_repeats before (s ∷ selectors) = (s, has_selector before s.selector) ∷ with_repeats (before ++ s ∷ []) selectors

-- those of a rule, by the declaration and then by the selector
abbrev pub by_rule : Layer → (item : ℕ) → RuleParts → List Occurrence
by_rule l item r = flat_map (λ d. map (pair_of l item d) (with_repeats [] r.selectors)) r.decls

-- the kept text of an item; of a style rule nothing
abbrev pub item_text : (source : List ℕ) → Item → List ℕ
item_text source (Rule r) = []
item_text source (KeptRule k) = kept_text source k.piece
item_text source (KeptBlock piece) = kept_text source piece

abbrev pub kept_of : Layer → (item : ℕ) → Item → Occurrence
kept_of l number item = record {
  layer = l;
  item = number;
  part = Kept item;
  text = normal_kept (item_text l.source item);
  front = normal_kept (head_text l.source item);
  repeated = false;
}

-- those of an item with its number, which is not opened
abbrev pub by_item : Layer → ℕ × Item → List Occurrence
by_item l (number, (Rule r)) = by_rule l number r
by_item l (number, (KeptRule k)) = kept_of l number (KeptRule k) ∷ []
by_item l (number, (KeptBlock piece)) = kept_of l number (KeptBlock piece) ∷ []

-- ---- Those of a sheet

-- those of a body
abbrev pub by_body : Layer → List Occurrence
by_body l = flat_map (by_item l) (enumerate_from 0 l.items)

-- those of an item that is opened, where it has a body
abbrev pub by_opened : Layer → ℕ × Item → Option Layer → List Occurrence
by_opened l item None = by_item l item
by_opened l item (Some body) = by_body body

-- those of an item of the sheet itself, which has these bodies
abbrev pub by_outer_item : (bodies : List Layer) → Layer → ℕ × Item → List Occurrence
by_outer_item bodies l (number, (Rule r)) = by_item l (number, Rule r)
by_outer_item bodies l (number, (KeptRule k)) = by_item l (number, KeptRule k)
by_outer_item bodies l (number, (KeptBlock piece)) = by_opened l (number, KeptBlock piece) (body_at bodies number)

-- those of a sheet
abbrev pub occurrences : (source : List ℕ) (items : List Item) → List Occurrence
occurrences source items = flat_map (by_outer_item (body_layers source items) (outer_layer source items)) (enumerate_from 0 items)
