-- The printed text of a style sheet: its parts, with no more between them than they need to be read
-- back (CSS Syntax 3, section 10, asks of a serialisation that it reads back; the rest is own).
use Rattle.std.specs.Prelude.{ℕ, nat_eq, Bool, if◌then◌else◌, List, [], ◌∷◌, ◌++◌, map, codes}
use Rattle.std.specs.List.{flat_map, join_with_byte, starts_with}
use Rattle.css_model.specs.declared.sheet.DeclItem.{DeclItem}
use Rattle.css_model.specs.declared.sheet.Item.{Item}
use Rattle.css_model.specs.declared.sheet.Item.TheVariants.{Rule, KeptRule, KeptBlock}
use Rattle.css_model.specs.declared.sheet.SelItem.{SelItem}
use Rattle.css_model.specs.Text.Characters.{comma, colon, semicolon, open_curly, close_curly, space}
use Rattle.css_model.specs.Sheets.PrintedSelector.{selector_text}
use Rattle.css_model.specs.Sheets.RuleParts.{RuleParts}
use Rattle.css_model.specs.Text.Kept.{solid}
use Rattle.css_model.specs.Text.Source.{text_at}
use Rattle.css_model.specs.Sheets.Spelling.{tokens_in, kept_text}
use Rattle.css_model.specs.Text.Tokens.{byte_order_mark}

-- the text of the tokens of a selector
abbrev pub printed_selector : List ℕ → SelItem → List ℕ
printed_selector source s = selector_text (map (solid source) (tokens_in source s.piece))

abbrev pub importance : Bool → List ℕ
importance important = if important then codes "!important" else []

-- the property, `:`, the text of the value, and `!important` where it is
abbrev pub printed_declaration : List ℕ → DeclItem → List ℕ
printed_declaration source d = text_at source d.name ++ colon ∷ d.decl.value ++ importance d.decl.important

-- the selectors with `,` between them, and the declarations with `;` between them, in `{` and `}`
abbrev pub printed_rule : List ℕ → RuleParts → List ℕ
printed_rule source r =
    join_with_byte comma (map (printed_selector source) r.selectors)
    ++ open_curly ∷ join_with_byte semicolon (map (printed_declaration source) r.decls) ++ close_curly ∷ []

abbrev pub printed_item : List ℕ → Item → List ℕ
printed_item source (Rule r) = printed_rule source r
printed_item source (KeptRule k) = kept_text source k.piece
printed_item source (KeptBlock piece) = kept_text source piece

-- A text that would begin with a byte order mark begins with a space before it: the mark would be
-- skipped when it is read back (CSS Syntax 3, section 3.2).
abbrev pub behind_mark : List ℕ → List ℕ
behind_mark text = if starts_with nat_eq text byte_order_mark then space ∷ text else text

-- the items, with nothing between them
abbrev pub printed : List ℕ → List Item → List ℕ
printed source items = behind_mark (flat_map (printed_item source) items)
