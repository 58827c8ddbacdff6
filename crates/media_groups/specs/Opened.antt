-- The blocks of a sheet that are opened: `@media` rules whose body is a sheet of its own (CSS Syntax 3,
-- section 5.4.1, and CSS Conditional Rules 3, section 2: the body of such a rule is a list of rules; which ones are opened is own).
use Rattle.std.specs.Prelude.{ℕ, suc, nat_eq, ◌==◌, ◌&&◌, ◌||◌, Bool, false, if◌then◌else◌, List, [], ◌∷◌, Option, Some, None, Result, Ok, Err, codes}
use Rattle.std.specs.List.{before_first, cons_option, list_any, starts_with}
use Rattle.std.specs.Option.{option_map}
use Rattle.css_model.specs.declared.fault.SheetFault.{SheetFault}
use Rattle.css_model.specs.declared.sheet.Item.{Item}
use Rattle.css_model.specs.declared.sheet.Item.TheVariants.{Rule, KeptRule, KeptBlock}
use Rattle.css_model.specs.declared.sheet.Piece.{Piece}
use Rattle.css_model.specs.declared.token.Lexeme.{Lexeme}
use Rattle.css_model.specs.Sheets.Items.{is_between_items, opens_block, closes_block}
use Rattle.css_model.specs.Sheets.Sheet.{is_at_rule_named, is_import, sheet_of}
use Rattle.css_model.specs.Sheets.Spelling.{lexemes_of, tokens_in}
use Rattle.css_model.specs.Text.Lexemes.{piece_of}
use Rattle.css_model.specs.Text.Source.{text_at}
use Rattle.css_model.specs.Text.Tokens.{byte_order_mark}
use Rattle.media_groups.specs.declared.media.Media.{Media}

-- ---- The parts of a rule with a block

-- from its first token to the last one before its block (CSS Syntax 3, section 5.4.2: the name and the prelude)
abbrev pub head_of : List Lexeme → Piece
head_of item = piece_of (before_first opens_block item)

-- where the `}` of a block stands, or where these tokens end
abbrev pub body_end : ℕ → List Lexeme → ℕ
body_end at [] = at
body_end at (x ∷ xs) = if closes_block x then x.span.start else body_end x.span.«end» xs

-- what stands between the `{` of its block and the `}` that closes it (CSS Syntax 3, section 5.4.8)
abbrev pub body_of : List Lexeme → Piece
body_of [] = record { start = 0; «end» = 0 }
body_of (x ∷ xs) = if opens_block x then record { start = x.span.«end»; «end» = body_end x.span.«end» xs } else body_of xs

-- ---- What is opened

-- a kept item that is an `@import`
abbrev pub is_import_item : List ℕ → Item → Bool
is_import_item source (Rule r) = false
is_import_item source (KeptRule k) = false
is_import_item source (KeptBlock piece) = is_import source (tokens_in source piece)

-- a kept item that is an at-rule which counts at the top of a sheet alone
abbrev pub is_top_item : List ℕ → Item → Bool
is_top_item source (Rule r) = false
is_top_item source (KeptRule k) = false
is_top_item source (KeptBlock piece) =
    is_import source (tokens_in source piece) || is_at_rule_named (codes "charset") source (tokens_in source piece)

-- `<!--` or `-->` inside no bracket
abbrev pub is_comment_sign : Lexeme → Bool
is_comment_sign x = is_between_items x.kind && x.level == 0

-- The items of a body, where it has no at-rule that counts at the top of a sheet alone. An `@namespace` there is a fault
-- of the sheet.
abbrev pub plain_items : List ℕ → Result (List Item) SheetFault → Option (List Item)
plain_items body (Err fault) = None
plain_items body (Ok items) = if list_any (is_top_item body) items then None else Some items

-- the same, where no `<!--` and no `-->` stands in it inside no bracket
abbrev pub unless_marked : List ℕ → Option (List Item)
unless_marked body = if list_any is_comment_sign (lexemes_of body) then None else plain_items body (sheet_of body)

-- A body is a sheet of its own where it is read as one and means the same inside a block: it does not begin with a byte order
-- mark, which is skipped in a sheet alone (CSS Syntax 3, section 3.2), has no `<!--` and no `-->` inside no bracket,
-- which are skipped at the top of a sheet alone (section 5.4.1), and no at-rule that counts there alone (own).
abbrev pub sheet_of_body : List ℕ → Option (List Item)
sheet_of_body body = if starts_with nat_eq body byte_order_mark then None else unless_marked body

-- an at-rule `@media` with a block
abbrev pub is_media : List ℕ → List Lexeme → Bool
is_media source item = is_at_rule_named (codes "media") source item && list_any opens_block item

-- a rule of this number as an opened block, with its body's items
abbrev pub media_of : ℕ → List Lexeme → List Item → Media
media_of number item items = record { item = number; head = head_of item; body = body_of item; sheet = record { items = items } }

abbrev pub opened_rule : List ℕ → ℕ → List Lexeme → Option Media
opened_rule source number item =
    if is_media source item then option_map (media_of number item) (sheet_of_body (text_at source (body_of item))) else None

-- an item of this number, where it is opened
abbrev pub opened_item : List ℕ → ℕ → Item → Option Media
opened_item source number (Rule r) = None
opened_item source number (KeptRule k) = None
opened_item source number (KeptBlock piece) = opened_rule source number (tokens_in source piece)

-- Those of items that are opened, the first of which has this number: what stands before an `@import` is not (own; it
-- decides whether the import counts, CSS Cascading 3, section 2).
abbrev pub opened_from : List ℕ → ℕ → List Item → List Media
opened_from source number [] = []
opened_from source number (item ∷ items) =
    cons_option (if list_any (is_import_item source) items then None else opened_item source number item) (opened_from source (suc number) items)

-- The opened blocks of a sheet, in their order.
abbrev pub opened_of : List Item → List ℕ → List Media
opened_of items source = opened_from source 0 items
