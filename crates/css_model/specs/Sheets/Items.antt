-- The items of a style sheet, by their tokens (CSS Syntax 3, sections 5.4.1 to 5.4.4): at-rules and
-- qualified rules, their preludes, their blocks and the entries of these.
use Rattle.std.specs.Prelude.{ℕ, zero, suc, ◌+◌, ◌&&◌, ◌||◌, Bool, true, false, if◌then◌else◌, List, [], ◌∷◌, take, drop}
use Rattle.std.specs.List.{before_first, after_first, position_or_len, slice_split, list_any}
use Rattle.css_model.specs.declared.token.Lexeme.{Lexeme}
use Rattle.css_model.specs.declared.token.TokenKind.{TokenKind}
use Rattle.css_model.specs.declared.token.TokenKind.TheVariants as kind
use Rattle.css_model.specs.Text.Characters.{comma, semicolon, open_curly, close_curly}
use Rattle.css_model.specs.Text.Lexemes.{is_sign_at}
use Rattle.css_model.specs.Lists.{less_one}

abbrev pub is_at_keyword : TokenKind → Bool
is_at_keyword kind.AtKeyword = true
is_at_keyword _ = false

-- `<!--` or `-->`, which are skipped between items
abbrev pub is_between_items : TokenKind → Bool
is_between_items kind.CommentOpen = true
is_between_items kind.CommentClose = true
is_between_items _ = false

-- a `{` inside no bracket, and a `}` inside one alone: the ends of a block of the sheet's own level
abbrev pub opens_block : Lexeme → Bool
opens_block x = is_sign_at open_curly 0 x

abbrev pub closes_block : Lexeme → Bool
closes_block x = is_sign_at close_curly 1 x

-- what ends a prelude: the block and, of an at-rule, a semicolon
abbrev pub ends_prelude : Bool → Lexeme → Bool
ends_prelude at_rule x = opens_block x || (at_rule && is_sign_at semicolon 0 x)

-- how many tokens a block has whose `{` stands before these, or a semicolon has
abbrev pub end_len : List Lexeme → ℕ
end_len [] = 0
end_len (x ∷ xs) = if opens_block x then 2 + position_or_len closes_block xs else 1

-- how many tokens the item at the front has
abbrev pub item_len : List Lexeme → ℕ
item_len [] = 0
item_len (x ∷ xs) =
    let n = position_or_len (ends_prelude (is_at_keyword x.kind)) (x ∷ xs) in
    n + end_len (drop n (x ∷ xs))

-- the items, where the next `left` tokens belong to one that was read
abbrev pub items_from : ℕ → List Lexeme → List (List Lexeme)
items_from left [] = []
items_from (suc left) (x ∷ xs) = items_from left xs
items_from zero (x ∷ xs) =
    if is_between_items x.kind then items_from 0 xs
    else take (item_len (x ∷ xs)) (x ∷ xs) ∷ items_from (less_one (item_len (x ∷ xs))) xs

abbrev pub items : List Lexeme → List (List Lexeme)
items xs = items_from 0 xs

abbrev pub is_at_rule : List Lexeme → Bool
is_at_rule [] = false
is_at_rule (x ∷ xs) = is_at_keyword x.kind

-- an at-rule, or a qualified rule with its block: without one it is dropped
abbrev pub is_whole : List Lexeme → Bool
is_whole item = is_at_rule item || list_any opens_block item

-- the parts of a prelude between its commas
abbrev pub selector_parts : List Lexeme → List (List Lexeme)
selector_parts item = slice_split (is_sign_at comma 0) (before_first opens_block item)

-- what stands inside the block
abbrev pub block : List Lexeme → List Lexeme
block item = before_first closes_block (after_first opens_block item)

-- the entries of the block: what stands between its semicolons (CSS Syntax 3, section 5.4.4)
abbrev pub entries : List Lexeme → List (List Lexeme)
entries item = slice_split (is_sign_at semicolon 1) (block item)
