-- The layers of a sheet: the sheet itself, and the body of each opened block (own).
use Rattle.std.specs.Prelude.{ℕ, ◌==◌, Bool, false, List, map, find, Option, Some, None}
use Rattle.css_model.specs.declared.sheet.Item.{Item}
use Rattle.css_model.specs.Sheets.Spelling.{kept_text}
use Rattle.css_model.specs.Text.Source.{text_at}
use Rattle.media_groups.specs.declared.media.Media.{Media}
use Rattle.media_groups.specs.Opened.{opened_of}
use Rattle.normal_text.specs.Normal.{normal_head}

-- A layer: of a body the number of the item whose body it is, the kept text of the head of that item and the normal one; where
-- its bytes begin in those of the sheet, these, and its items.
pub record Layer : Type 0 where
  pub block : Option ℕ
  pub shell : Option (List ℕ)
  pub head : Option (List ℕ)
  pub start : ℕ
  pub source : List ℕ
  pub items : List Item

-- the sheet itself
abbrev pub outer_layer : (source : List ℕ) (items : List Item) → Layer
outer_layer source items = record { block = None; shell = None; head = None; start = 0; source = source; items = items }

-- the kept text of a head, and the normal one
pub record HeadTexts : Type 0 where
  pub shell : List ℕ
  pub head : List ℕ

-- those of the head of an opened block
abbrev pub head_texts : (source : List ℕ) → Media → HeadTexts
head_texts source m = record { shell = kept_text source m.head; head = normal_head (kept_text source m.head) }

-- the body of an opened block
abbrev pub body_layer : (source : List ℕ) → Media → Layer
body_layer source m = record {
  block = Some m.item;
  shell = Some (kept_text source m.head);
  head = Some (normal_head (kept_text source m.head));
  start = m.body.start;
  source = text_at source m.body;
  items = m.sheet.items;
}

-- those of a sheet
abbrev pub body_layers : (source : List ℕ) (items : List Item) → List Layer
body_layers source items = map (body_layer source) (opened_of items source)

-- whether a layer is the body of the item of this number
abbrev pub is_number : ℕ → Option ℕ → Bool
is_number number None = false
is_number number (Some block) = block == number

-- the body of the item of this number, if it is an opened block
abbrev pub body_at : List Layer → (number : ℕ) → Option Layer
body_at bodies number = find (λ l. is_number number l.block) bodies
