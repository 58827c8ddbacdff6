-- Small sheets with opened blocks: each theorem is by computation.
use Rattle.std.proofs.Common.{◌≡◌, ℕ, Bool, true, false, List, [], ◌∷◌, Option, Some, None, Result, Ok, Err, refl}
use Rattle.std.specs.Prelude.{codes}
use Rattle.std.specs.Char.{encode_utf8}
use Rattle.std.specs.Str.{chars, is_utf8}
use Rattle.std.specs.Str.Lossy.{utf8_valid_len, utf8_lossy}
use Rattle.css_model.specs.declared.fault.SheetFault.{SheetFault}
use Rattle.css_model.specs.declared.selector.Flag.{Flag}
use Rattle.css_model.specs.declared.sheet.Item.{Item}
use Rattle.css_model.specs.Cascade.Winner.{Understood, Winner}
use Rattle.css_model.specs.Documents.Document.{Document, Target, none}
use Rattle.css_model.specs.Sheets.Sheet.{sheet_of}
use Rattle.css_model.specs.Sheets.Spelling.{Block}
use Rattle.media_groups.specs.Opened.{opened_of}
use Rattle.opened_laws.specs.Media.Scenes.{KeptScene}
use Rattle.opened_merge_laws.specs.Contents.{Opened, OpenedContent, Plain, opened_content, winner_in}
use Rattle.opened_merge_laws.specs.Told.{items_opened}

-- ---- What is asked of a text

abbrev of_read : {A : Type 0} → (List Item → A) → Result (List Item) SheetFault → Option A
of_read f (Ok items) = Some (f items)
of_read f (Err fault) = None

-- what its kept items say
abbrev said : List ℕ → Option (List OpenedContent)
said text = of_read (λ items. opened_content text (opened_of items text) items) (sheet_of text)

-- how many items it has
abbrev count : List ℕ → Option ℕ
count text = of_read (λ items. items_opened items text) (sheet_of text)

-- a document of one element `p`
abbrev no_flags : Flag → Bool
no_flags flag = false

abbrev page : Document
page = record { root = record { kind = codes "p"; attributes = []; flags = no_flags; text = false }; children = none; root_is_child = false }

abbrev root : Target
root = record { path = []; pseudo = None }

abbrev colors : List Understood
colors = record { name = codes "color"; value = codes "red" } ∷ record { name = codes "color"; value = codes "blue" } ∷ []

-- a scene of one opened block without kept items, whose condition holds or not
abbrev scene : Bool → List KeptScene
scene holds = record { plain = []; holds = holds; inside = [] } ∷ []

-- the colour of `p` there
abbrev value : Option Winner → List ℕ
value None = []
value (Some w) = w.value

abbrev color : Bool → List ℕ → Option (List ℕ)
color holds text = of_read (λ items. value (winner_in page root text items (scene holds) colors)) (sheet_of text)

-- ---- What kept items say

-- of an opened block the head, and what is kept inside
kept_inside : said (codes "@media print{@x;a{b:c}}") ≡ Some (Opened (codes "@media print") (Block (codes "@x;") ∷ []) ∷ [])
unfolding utf8_valid_len is_utf8 chars encode_utf8 utf8_lossy
kept_inside = refl

-- rules inside do not count
other_rules : said (codes "@media print{a{b:c}}") ≡ said (codes "@media print{d{e:f}}")
unfolding utf8_valid_len is_utf8 chars encode_utf8 utf8_lossy
other_rules = refl

-- of a block that is not opened all of it
not_opened : said (codes "@page{a{b:c}}") ≡ Some (Plain (Block (codes "@page{a{b:c}}")) ∷ [])
unfolding utf8_valid_len is_utf8 chars encode_utf8 utf8_lossy
not_opened = refl

-- ---- How many items

inside_count : count (codes "a{b:c}@media print{a{b:c}d{e:f}}") ≡ Some 4
unfolding utf8_valid_len is_utf8 chars encode_utf8 utf8_lossy
inside_count = refl

others_do_not : count (codes "a{b:c}@page{a{b:c}d{e:f}}") ≡ Some 2
unfolding utf8_valid_len is_utf8 chars encode_utf8 utf8_lossy
others_do_not = refl

-- ---- Winners

-- rules in a block apply where its condition holds
in_block : color true (codes "p{color:red}@media print{p{color:blue}}") ≡ Some (codes "blue")
unfolding utf8_valid_len is_utf8 chars encode_utf8 utf8_lossy
in_block = refl

not_in_block : color false (codes "p{color:red}@media print{p{color:blue}}") ≡ Some (codes "red")
unfolding utf8_valid_len is_utf8 chars encode_utf8 utf8_lossy
not_in_block = refl

-- in the place of the block
behind_block : color true (codes "@media print{p{color:blue}}p{color:red}") ≡ Some (codes "red")
unfolding utf8_valid_len is_utf8 chars encode_utf8 utf8_lossy
behind_block = refl

-- another rule in it has another winner
other_in_block : color true (codes "p{color:red}@media print{p{top:0}}") ≡ Some (codes "red")
unfolding utf8_valid_len is_utf8 chars encode_utf8 utf8_lossy
other_in_block = refl
