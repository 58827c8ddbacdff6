-- Places by line and column, texts as they are shown, and the lines of `list`.
use Rattle.std.proofs.Common.{◌≡◌, ℕ, List, [], ◌∷◌, ◌++◌, Some, None, true, false, refl}
use Rattle.std.specs.Char.{encode_utf8}
use Rattle.std.specs.Prelude.{codes}
use Rattle.std.specs.Str.{chars, is_utf8}
use Rattle.std.specs.Str.Lossy.{utf8_valid_len, utf8_lossy}
use Rattle.std.specs.Fmt.{digits}
use Rattle.body_examples.proofs.Texts.{of_sheet}
use Rattle.body_examples.proofs.Values.{at_rule, kept_rule, top}
use Rattle.css_model.specs.Sheets.Sheet.{sheet_of}
use Rattle.doc_text.specs.DocText.{ended}
use Rattle.line_places.specs.Lines.{place_of, place_text}
use Rattle.line_places.specs.Shown.{shown}
use Rattle.list_text.specs.ListTexts.{kind_text, list_lines, number_text}

-- ---- Lines and columns

-- `é` has two bytes and one column
column_counts_code_points : place_of (0xC3 ∷ 0xA9 ∷ codes "x") 2 ≡ record { line = 1; column = 2 }
column_counts_code_points = refl

mark_has_no_column : place_of (0xEF ∷ 0xBB ∷ 0xBF ∷ codes "ab") 4 ≡ record { line = 1; column = 2 }
mark_has_no_column = refl

line_begins_after_its_feed : place_of (codes "a\nb") 2 ≡ record { line = 2; column = 1 }
line_begins_after_its_feed = refl

feed_is_in_the_line_that_it_ends : place_of (codes "a\nb") 1 ≡ record { line = 1; column = 2 }
feed_is_in_the_line_that_it_ends = refl

return_and_feed_end_one_line : place_of (13 ∷ 10 ∷ codes "a") 2 ≡ record { line = 2; column = 1 }
return_and_feed_end_one_line = refl

return_ends_a_line : place_of (13 ∷ codes "a") 1 ≡ record { line = 2; column = 1 }
return_ends_a_line = refl

form_feed_ends_none : place_of (12 ∷ codes "a") 1 ≡ record { line = 1; column = 2 }
form_feed_ends_none = refl

line_comes_first : place_text (record { line = 2; column = 13 }) ≡ codes "2:13"
unfolding digits
line_comes_first = refl

-- an escape sequence of a terminal
escape_is_shown_as_a_space : shown (27 ∷ codes "[2J" ++ 127 ∷ []) ≡ codes " [2J "
escape_is_shown_as_a_space = refl

-- ---- `list`

number_has_its_block : number_text (Some 1) 3 ≡ codes "2.3"
unfolding digits
number_has_its_block = refl

opened_block_is_media : kind_text true at_rule ≡ codes "media"
opened_block_is_media = refl

other_block_is_kept : kind_text false at_rule ≡ codes "block"
other_block_is_kept = refl

kept_rule_has_its_reason : kind_text false (kept_rule top) ≡ codes "kept:1"
unfolding digits
kept_rule_has_its_reason = refl

-- each item has a line, those of a body after their block
each_item_has_a_line : of_sheet (λ items. ended (list_lines (codes "a{b:c}\n@media x{d{e:f}}g{h:i}") items)) (sheet_of (codes "a{b:c}\n@media x{d{e:f}}g{h:i}"))
    ≡ codes "1 1:1 rule a\n2 2:1 media @media x\n2.1 2:10 rule d\n3 2:17 rule g\n"
unfolding utf8_valid_len is_utf8 chars encode_utf8 utf8_lossy digits
each_item_has_a_line = refl
