-- The items of a sheet (CSS Syntax 3, sections 5.4.1 to 5.4.3), as lists of tokens.
use Rattle.std.specs.Prelude.{◌≡◌, ◌<◌, Bool, true, false, List, [], ◌∷◌, ◌++◌, length, Some, None}
use Rattle.std.specs.List.{list_any}
use Rattle.css_model.specs.declared.token.Lexeme.{Lexeme}
use Rattle.css_model.specs.Sheets.Items.{ends_prelude, is_at_rule, is_between_items}
use Rattle.css_model.specs.Text.Characters.{close_curly, open_curly, semicolon}
use Rattle.css_model.specs.Text.Lexemes.{is_sign_at}
use Rattle.sheet_grammar.specs.Values.{AreValues}

-- a block of the sheet's own level: `{`, values and `}`
pub data IsBlock (text inside : List Lexeme) : Type 0 where
  block : (x y : Lexeme) → text ≡ x ∷ (inside ++ y ∷ []) → is_sign_at open_curly 0 x ≡ true → AreValues (Some close_curly) 1 inside → is_sign_at close_curly 1 y ≡ true
      → IsBlock text inside

-- `<!--` or `-->` at the front, where no item begins
abbrev pub begins_between : List Lexeme → Bool
begins_between [] = false
begins_between (x ∷ xs) = is_between_items x.kind

-- a prelude: values up to a block or, of an at-rule, which begins with its keyword, a semicolon
pub record IsPrelude (prelude : List Lexeme) : Type 0 where
  pub values : AreValues None 0 prelude
  pub apart : list_any (ends_prelude (is_at_rule prelude)) prelude ≡ false
  pub first : begins_between prelude ≡ false

-- an at-rule: a prelude, and a block, a semicolon, or the end of the sheet
pub data IsAtRule (item rest : List Lexeme) : Type 0 where
  with_block : (prelude block inside : List Lexeme) → item ≡ prelude ++ block → is_at_rule prelude ≡ true → IsPrelude prelude → IsBlock block inside → IsAtRule item rest
  with_semicolon : (prelude : List Lexeme) (y : Lexeme) → item ≡ prelude ++ y ∷ [] → is_at_rule prelude ≡ true → IsPrelude prelude → is_sign_at semicolon 0 y ≡ true
      → IsAtRule item rest
  at_end : is_at_rule item ≡ true → IsPrelude item → rest ≡ [] → IsAtRule item rest

-- a qualified rule: a prelude and a block
pub record IsQualifiedRule (item prelude inside : List Lexeme) : Type 0 where
  pub block : List Lexeme
  pub joined : item ≡ prelude ++ block
  pub no_at_rule : is_at_rule prelude ≡ false
  pub is_prelude : IsPrelude prelude
  pub is_block : IsBlock block inside

-- The items of tokens. Between them `<!--` and `-->` are skipped, and a prelude that no block follows is dropped.
pub data AreItems : List Lexeme → List (List Lexeme) → Type 0 where
  at_end : AreItems [] []
  skipped : (x : Lexeme) (rest : List Lexeme) (items : List (List Lexeme)) → is_between_items x.kind ≡ true → AreItems rest items → AreItems (x ∷ rest) items
  at_rule : (item rest : List Lexeme) (items : List (List Lexeme)) → IsAtRule item rest → AreItems rest items → AreItems (item ++ rest) (item ∷ items)
  qualified_rule : (item rest prelude inside : List Lexeme) (items : List (List Lexeme)) → IsQualifiedRule item prelude inside → AreItems rest items
      → AreItems (item ++ rest) (item ∷ items)
  dropped : (prelude : List Lexeme) → 0 < length prelude → is_at_rule prelude ≡ false → IsPrelude prelude → AreItems prelude []
