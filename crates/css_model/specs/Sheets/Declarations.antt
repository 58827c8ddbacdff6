-- The declarations of a block (CSS Syntax 3, section 5.4.6).
use Rattle.std.specs.Prelude.{ℕ, ◌-◌, ◌==◌, not, ◌&&◌, ◌||◌, Bool, true, false, if◌then◌else◌, List, [], ◌∷◌, map, take, drop, length, Option, Some, None, codes}
use Rattle.std.specs.List.{filter_map, list_any}
use Rattle.std.specs.Char.{to_ascii_lowercase}
use Rattle.std.specs.Str.{str_eq_ignore_ascii_case}
use Rattle.css_model.specs.declared.sheet.DeclItem.{DeclItem}
use Rattle.css_model.specs.declared.sheet.Piece.{Piece}
use Rattle.css_model.specs.declared.token.Lexeme.{Lexeme}
use Rattle.css_model.specs.declared.token.TokenKind.{TokenKind}
use Rattle.css_model.specs.declared.token.TokenKind.TheVariants as kind
use Rattle.css_model.specs.Lists.{begins_with}
use Rattle.css_model.specs.Text.Characters.{colon, exclamation_mark, open_curly, space}
use Rattle.css_model.specs.Sheets.Items.{is_at_rule, entries}
use Rattle.css_model.specs.Text.Kept.{solid, value_text, is_white_gap}
use Rattle.css_model.specs.Text.Lexemes.{is_sign_of, is_sign_at, piece_of, is_delim_of, is_ident}
use Rattle.css_model.specs.Text.Source.{text_at}
use Rattle.css_model.specs.Text.Names.{unescaped, decoded, lower, is_named}

-- the name of a custom property begins with two hyphens (CSS Custom Properties 1, section 2)
abbrev pub is_custom : List ℕ → Bool
is_custom name = begins_with name (codes "--")

-- the property that a name stands for: that of a custom property is compared with its case
abbrev pub property_of : List ℕ → List ℕ
property_of name = if is_custom name then name else lower name

-- `!` and `important`
abbrev pub is_importance : List ℕ → List Lexeme → Bool
is_importance source (x ∷ y ∷ []) =
    is_delim_of exclamation_mark x.kind && is_ident y.kind && is_named (codes "important") (text_at source y.span)
is_importance source _ = false

-- whether a value ends with them (CSS Syntax 3, section 5.4.6), and the value without
abbrev pub is_important : List ℕ → List Lexeme → Bool
is_important source value = is_importance source (drop (length value - 2) value)

abbrev pub without_importance : List ℕ → List Lexeme → List Lexeme
without_importance source value = if is_important source value then take (length value - 2) value else value

-- The text of a value behind this colon. Of a custom property, white space alone is a value too (own:
-- it is one space).
abbrev pub text_of_value : List ℕ → Bool → Lexeme → List Lexeme → List ℕ
text_of_value source custom sign [] = if custom && is_white_gap sign.gap then space ∷ [] else []
text_of_value source custom sign (x ∷ xs) = value_text (map (solid source) (x ∷ xs))

-- where it stands: an empty value right behind the colon
abbrev pub piece_of_value : Bool → Lexeme → List Lexeme → Piece
piece_of_value custom sign [] =
    if custom && is_white_gap sign.gap then sign.white else record { start = sign.span.«end»; «end» = sign.span.«end» }
piece_of_value custom sign (x ∷ xs) = piece_of (x ∷ xs)

-- a declaration of this name and this value, with its importance
abbrev pub decl_item : List ℕ → Lexeme → Lexeme → List Lexeme → DeclItem
decl_item source name sign value =
    let property = property_of (decoded (text_at source name.span)) in
    let plain = without_importance source value in
    record {
      decl = record { name = property; value = text_of_value source (is_custom property) sign plain; important = is_important source value };
      name = name.span;
      value = piece_of_value (is_custom property) sign plain;
    }

-- the declaration of an entry, if it is one: an ident, a colon and a value
abbrev pub declaration : List ℕ → List Lexeme → Option DeclItem
declaration source (name ∷ sign ∷ value) =
    if is_ident name.kind && is_sign_of colon sign.kind then Some (decl_item source name sign value) else None
declaration source _ = None

abbrev pub declares_custom : Option DeclItem → Bool
declares_custom None = false
declares_custom (Some d) = is_custom d.decl.name

-- An entry that is no declaration of its own: one that begins with an at-keyword, and one that holds
-- a block, as a nested rule does, and is no custom property.
abbrev pub is_nested : List ℕ → List Lexeme → Bool
is_nested source entry =
    is_at_rule entry || (list_any (is_sign_at open_curly 1) entry && not (declares_custom (declaration source entry)))

-- the declarations of a rule's block, where no entry is nested; any other entry is dropped
abbrev pub declarations : List ℕ → List Lexeme → Option (List DeclItem)
declarations source item =
    if list_any (is_nested source) (entries item) then None else Some (filter_map (declaration source) (entries item))
