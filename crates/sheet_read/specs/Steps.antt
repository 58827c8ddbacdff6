-- What the steps of reading a sheet give, each where no step before it found a fault.
use Rattle.std.specs.Prelude.{ℕ, nat_lt, ◌==◌, ◌&&◌, Bool, true, if◌then◌else◌, List, [], ◌∷◌, length, Option, Some, None, Result, Ok, Err}
use Rattle.std.specs.List.{count_by, filter, last_or}
use Rattle.std.specs.Option.{option_map}
use Rattle.std.specs.Str.Lossy.{utf8_valid_len}
use Rattle.css_model.specs.declared.fault.FaultKind.TheVariants.{NotUtf8, EndInside, TooDeep, Namespace, TooManyItems}
use Rattle.css_model.specs.declared.fault.SheetFault.{SheetFault}
use Rattle.css_model.specs.declared.limits.TheConstants.{MAX_DEPTH}
use Rattle.css_model.specs.declared.sheet.Item.{Item}
use Rattle.css_model.specs.declared.sheet.Item.TheVariants.{KeptBlock}
use Rattle.css_model.specs.declared.token.Bracket.{Bracket}
use Rattle.css_model.specs.declared.token.Lexeme.{Lexeme}
use Rattle.css_model.specs.declared.token.Token.{Token}
use Rattle.css_model.specs.declared.token.TokenFault.{TokenFault}
use Rattle.css_model.specs.Sheets.Items.{items, is_whole}
use Rattle.css_model.specs.Text.Lexemes.{lexemes, piece_of}
use Rattle.css_model.specs.Sheets.Sheet.{token_fault, too_deep, unclosed, is_import, namespace_at, item_of, read_items, too_many_items}
use Rattle.css_model.specs.Sheets.Fault.{fault_of, unless}
use Rattle.css_model.specs.Text.Lexemes.{opens}
use Rattle.css_model.specs.Text.Tokens.{Stream, tokens}

-- all tokens of a stream, or the fault that ends it
abbrev pub all_tokens : Option TokenFault → List Token → Result (List Token) SheetFault
all_tokens None ts = Ok ts
all_tokens (Some f) ts = Err (token_fault f)

abbrev pub tokens_of : List ℕ → Result (List Token) SheetFault
tokens_of source =
    if nat_lt (utf8_valid_len source) (length source) then Err (record { kind = NotUtf8; at = utf8_valid_len source })
    else all_tokens (tokens source true).fault (tokens source true).tokens

-- where the outermost of open brackets opens
abbrev pub outermost : List Bracket → Option ℕ
outermost brackets = option_map (λ b. b.at) (last_or None brackets)

-- a token opens a bracket that is one too many
abbrev pub is_too_deep : Lexeme → Bool
is_too_deep x = opens x.kind && x.level == MAX_DEPTH

abbrev pub lexemes_of : List Token → Result (List Lexeme) SheetFault
lexemes_of ts = unless (fault_of TooDeep (too_deep (lexemes ts)) ∷ fault_of EndInside (unclosed ts) ∷ []) (lexemes ts)

-- the tokens that are no white space, where nothing is wrong with any token
abbrev pub lexed : Result (List Token) SheetFault → Result (List Lexeme) SheetFault
lexed (Ok ts) = lexemes_of ts
lexed (Err f) = Err f

abbrev pub sorted : Stream → Result (List Lexeme) SheetFault
sorted s = lexed (all_tokens s.fault s.tokens)

-- what is wrong with tokens, or this fault where nothing is
abbrev pub fault_before : Option TokenFault → SheetFault → SheetFault
fault_before None fault = fault
fault_before (Some f) fault = token_fault f

-- the items that are not dropped for want of a block
abbrev pub whole_items : List Lexeme → List (List Lexeme)
whole_items xs = filter is_whole (items xs)

abbrev pub count_imports : List ℕ → List (List Lexeme) → ℕ
count_imports source raw = count_by (is_import source) raw

abbrev pub imports_of : List ℕ → List (List Lexeme) → Result ℕ SheetFault
imports_of source raw = unless (fault_of Namespace (namespace_at source raw) ∷ []) (count_imports source raw)

-- an item with so many `@import` rules behind it
abbrev pub item_before : List ℕ → List Lexeme → ℕ → Option Item
item_before source item imports = if nat_lt 0 imports then Some (KeptBlock (piece_of item)) else item_of source item

abbrev pub items_of : List ℕ → List (List Lexeme) → Result (List Item) SheetFault
items_of source raw = unless (fault_of TooManyItems (too_many_items (read_items source raw)) ∷ []) (read_items source raw)
