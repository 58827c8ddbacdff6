-- What is printed of the winners in a document (own): how many items of the sheet are kept as they stand, and
-- then a line for each winner, as in
--     kept 0
--     color:green!important 0,1,1
use Rattle.std.specs.Prelude.{ℕ, Bool, true, false, List, [], ◌∷◌, ◌++◌, codes, decimal, encode_utf8_all}
use Rattle.std.specs.List.{count_by, flat_map}
use Rattle.css_model.specs.declared.selector.Specificity.{Specificity}
use Rattle.css_model.specs.declared.sheet.Item.{Item}
use Rattle.css_model.specs.Cascade.Winner.{Winner}
use Rattle.css_model.specs.Sheets.KeptItems.{is_kept}
use Rattle.css_model.specs.Text.Characters.{colon, comma, line_feed, space}

abbrev pub importance : Bool → List ℕ
importance true = codes "!important"
importance false = []

abbrev pub specificity_text : Specificity → List ℕ
specificity_text s = decimal s.a ++ comma ∷ decimal s.b ++ comma ∷ decimal s.c

-- a declaration that wins, and the specificity that it applies with
abbrev pub winner_line : Winner → List ℕ
winner_line w = encode_utf8_all w.name ++ colon ∷ w.value ++ importance w.important ++ space ∷ specificity_text w.specificity ++ line_feed ∷ []

abbrev pub kept_line : List Item → List ℕ
kept_line items = codes "kept " ++ decimal (count_by is_kept items) ++ line_feed ∷ []

abbrev pub style_text : List Item → List Winner → List ℕ
style_text items winners = kept_line items ++ flat_map winner_line winners
