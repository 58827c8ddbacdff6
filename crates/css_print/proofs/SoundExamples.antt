-- Items of small sheets that are sound, by computation.
use Rattle.std.proofs.Common.{ℕ, zero, suc, ◌≡◌, true, false, List, [], ◌∷◌, ◌++◌, None, Some, Ok, length, get_or, refl, arith}
use Rattle.std.specs.Prelude.{codes, nat_lt, pos}
use Rattle.std.specs.Char.{encode_utf8}
use Rattle.std.specs.List.{Contains}
use Rattle.std.specs.Str.{chars, is_utf8}
use Rattle.std.specs.Str.Lossy.{utf8_lossy, utf8_valid_len}
use Rattle.css_model.specs.declared.selector.Combinator.TheVariants.{Inside}
use Rattle.css_model.specs.declared.selector.Op.TheVariants.{Word}
use Rattle.css_model.specs.declared.selector.Test.{Test}
use Rattle.css_model.specs.declared.selector.Simple.{Simple}
use Rattle.css_model.specs.declared.selector.Test.TheVariants.{Attr, Kind, Nth}
use Rattle.css_model.specs.Documents.SelectorParts.{SelectorParts}
use Rattle.css_model.specs.declared.sheet.DeclItem.{DeclItem}
use Rattle.css_model.specs.declared.sheet.Piece.{Piece}
use Rattle.css_model.specs.declared.sheet.SelItem.{SelItem}
use Rattle.css_model.specs.declared.token.Lexeme.{Lexeme}
use Rattle.css_model.specs.Text.Characters.{backslash, line_feed}
use Rattle.css_model.specs.Sheets.Declarations.{declaration, is_nested}
use Rattle.css_model.specs.Sheets.Items.{selector_parts, entries}
use Rattle.css_model.specs.Positions.Reading.{body_of, past_word, past_blanks, numbers_of, offset_of, last_number}
use Rattle.css_model.specs.Text.Lexemes.{piece_of}
use Rattle.css_model.specs.Sheets.Selectors.{selector_item}
use Rattle.css_model.specs.Sheets.Sound.{raw_items, IsSoundSelector, IsSoundDeclaration, IsSoundBlock}
use Rattle.css_model.specs.Text.Tokens.{byte_order_mark}

nth_in : {X : Type 0} → (xs : List X) (k : ℕ) (d : X) → nat_lt k (length xs) ≡ true → Contains xs (get_or xs k d)
nth_in [] k d below = absurd (grind (arith, below))
nth_in (x ∷ xs) zero d below = (0, omega arith, refl)
nth_in (x ∷ xs) (suc k) d below =
    let less : nat_lt k (length xs) ≡ true = grind (arith, below) in
    let h = nth_in xs k d less in
    (suc h.0, omega arith, h.2)

-- an item of a source, by its number
abbrev nth_item : List ℕ → ℕ → List Lexeme
nth_item source i = get_or (raw_items source) i []

sound_selector : (source : List ℕ) (i j : ℕ) (s : SelItem) → nat_lt i (length (raw_items source)) ≡ true → nat_lt j (length (selector_parts (nth_item source i))) ≡ true
    → selector_item source (get_or (selector_parts (nth_item source i)) j []) ≡ Ok s → IsSoundSelector source s
sound_selector source i j s below inside reads = record {
  item = nth_item source i;
  part = get_or (selector_parts (nth_item source i)) j [];
  item_in = nth_in (raw_items source) i [] below;
  part_in = nth_in (selector_parts (nth_item source i)) j [] inside;
  reads = reads;
}

sound_declaration : (source : List ℕ) (i j : ℕ) (d : DeclItem) → nat_lt i (length (raw_items source)) ≡ true → nat_lt j (length (entries (nth_item source i))) ≡ true
    → is_nested source (get_or (entries (nth_item source i)) j []) ≡ false → declaration source (get_or (entries (nth_item source i)) j []) ≡ Some d → IsSoundDeclaration source d
sound_declaration source i j d below inside plain reads = record {
  item = nth_item source i;
  entry = get_or (entries (nth_item source i)) j [];
  item_in = nth_in (raw_items source) i [] below;
  entry_in = nth_in (entries (nth_item source i)) j [] inside;
  plain = plain;
  reads = reads;
}

sound_block : (source : List ℕ) (i : ℕ) (piece : Piece) → nat_lt i (length (raw_items source)) ≡ true → piece_of (nth_item source i) ≡ piece → IsSoundBlock source piece
sound_block source i piece below stands = record {
  item = nth_item source i;
  item_in = nth_in (raw_items source) i [] below;
  stands = stands;
}

abbrev pub rule : List ℕ
rule = codes "a,./**/b{top : 0;left:1px! important}"

abbrev simple : Test → Simple
simple test = record { negated = false; test = test }

-- the selector of one simple selector
abbrev pub of_one : Test → SelectorParts
of_one test = record { chain = (simple test ∷ []) ∷ []; links = []; pseudo = None }

abbrev type_item : SelItem
type_item = record { selector = of_one (Kind (97 ∷ [])); piece = record { start = 0; «end» = 1 } }

pub type_sound : IsSoundSelector rule type_item
unfolding chars utf8_lossy utf8_valid_len is_utf8 encode_utf8
type_sound = sound_selector rule 0 0 type_item refl refl refl

abbrev class_item : SelItem
class_item = record { selector = of_one (Attr (record { name = codes "class"; op = Word; value = 98 ∷ [] })); piece = record { start = 2; «end» = 8 } }

pub class_sound : IsSoundSelector rule class_item
unfolding chars utf8_lossy utf8_valid_len is_utf8 encode_utf8
class_sound = sound_selector rule 0 1 class_item refl refl refl

abbrev pub inside : List ℕ
inside = codes "b /**/a:nth-child( 2n + 1 ){top:0}"

abbrev inside_item : SelItem
inside_item = record {
  selector = record {
    chain = (simple (Kind (97 ∷ [])) ∷ simple (Nth (record { a = pos 2; b = pos 1 })) ∷ []) ∷ (simple (Kind (98 ∷ [])) ∷ []) ∷ [];
    links = Inside ∷ [];
    pseudo = None;
  };
  piece = record { start = 0; «end» = 27 };
}

pub inside_sound : IsSoundSelector inside inside_item
unfolding chars utf8_lossy utf8_valid_len is_utf8 encode_utf8 body_of past_word past_blanks numbers_of offset_of last_number
inside_sound = sound_selector inside 0 0 inside_item refl refl refl

abbrev top : DeclItem
top = record { decl = record { name = codes "top"; value = codes "0"; important = false }; name = record { start = 9; «end» = 12 }; value = record { start = 15; «end» = 16 } }

pub top_sound : IsSoundDeclaration rule top
unfolding chars utf8_lossy utf8_valid_len is_utf8 encode_utf8
top_sound = sound_declaration rule 0 0 top refl refl refl refl

abbrev left : DeclItem
left = record { decl = record { name = codes "left"; value = codes "1px"; important = true }; name = record { start = 17; «end» = 21 }; value = record { start = 22; «end» = 25 } }

pub left_sound : IsSoundDeclaration rule left
unfolding chars utf8_lossy utf8_valid_len is_utf8 encode_utf8
left_sound = sound_declaration rule 0 1 left refl refl refl refl

abbrev pub block : List ℕ
block = codes "@m  a /* */ b/* */(c)" ++ (backslash ∷ codes "31/**/ d ") ++ (backslash ∷ line_feed ∷ codes " {e}") ++ (line_feed ∷ [])

pub block_sound : IsSoundBlock block (record { start = 0; «end» = 37 })
block_sound = sound_block block 0 (record { start = 0; «end» = 37 }) refl refl

abbrev pub marked : List ℕ
marked = byte_order_mark ++ byte_order_mark ++ codes "{}"

pub marked_sound : IsSoundBlock marked (record { start = 3; «end» = 8 })
marked_sound = sound_block marked 0 (record { start = 3; «end» = 8 }) refl refl
