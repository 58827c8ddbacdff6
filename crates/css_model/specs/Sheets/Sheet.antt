-- What the bytes of a style sheet are read as: its items, or its fault.
use Rattle.std.specs.Prelude.{ℕ, ◌+◌, ◌*◌, ◌==◌, nat_lt, ◌&&◌, Bool, true, false, if◌then◌else◌, List, [], ◌∷◌, map, drop, length, Option, Some, None, Result, Ok, Err, codes, slice_get}
use Rattle.std.specs.List.{cons_option, filter, find, list_any, last_or}
use Rattle.std.specs.Option.{option_map}
use Rattle.std.specs.Str.Lossy.{utf8_valid_len}
use Rattle.css_model.specs.declared.fault.FaultKind.{FaultKind}
use Rattle.css_model.specs.declared.fault.FaultKind.TheVariants.{TooLong, NotUtf8, BadString, BadUrl, EndInside, TooDeep, Namespace, TooManyItems, TooManyPairs}
use Rattle.css_model.specs.declared.fault.SheetFault.{SheetFault}
use Rattle.css_model.specs.Sheets.Limits.{max_bytes, max_depth, max_items, max_pairs}
use Rattle.css_model.specs.declared.reason.Reason.{Reason}
use Rattle.css_model.specs.declared.sheet.DeclItem.{DeclItem}
use Rattle.css_model.specs.declared.sheet.Item.{Item}
use Rattle.css_model.specs.declared.sheet.Item.TheVariants.{Rule, KeptRule, KeptBlock}
use Rattle.css_model.specs.declared.sheet.Piece.{Piece}
use Rattle.css_model.specs.declared.sheet.SelItem.{SelItem}
use Rattle.css_model.specs.declared.token.Lexeme.{Lexeme}
use Rattle.css_model.specs.declared.token.Token.{Token}
use Rattle.css_model.specs.declared.token.TokenFault.{TokenFault}
use Rattle.css_model.specs.declared.token.TokenFault.TheVariants as fault
use Rattle.css_model.specs.declared.token.TokenKind.{TokenKind}
use Rattle.css_model.specs.Text.Names.{is_named}
use Rattle.css_model.specs.Sheets.Declarations.{declarations}
use Rattle.css_model.specs.Sheets.Items.{items, is_at_rule, is_whole}
use Rattle.css_model.specs.Text.Lexemes.{closer_of, after_all, lexemes, piece_of, opens}
use Rattle.css_model.specs.Selectors.Reasons.{number_of}
use Rattle.css_model.specs.Sheets.Selectors.{selectors}
use Rattle.css_model.specs.Text.Source.{text_at}
use Rattle.css_model.specs.Text.Tokens.{tokens}
use Rattle.css_model.specs.Sheets.Fault.{fault_of, unless}

-- an at-rule whose name is this word without ASCII case
abbrev pub is_at_rule_named : List ℕ → List ℕ → List Lexeme → Bool
is_at_rule_named word source [] = false
is_at_rule_named word source (x ∷ xs) = is_at_rule (x ∷ xs) && is_named word (drop 1 (text_at source x.span))

abbrev pub is_import : List ℕ → List Lexeme → Bool
is_import source item = is_at_rule_named (codes "import") source item

abbrev pub is_namespace : List ℕ → List Lexeme → Bool
is_namespace source item = is_at_rule_named (codes "namespace") source item

-- A rule whose selectors are all of the profile is a style rule, and is dropped where it declares nothing;
-- with any other selector it is kept as it stands, for the reason against the first one (own).
abbrev pub rule_of : Piece → Result (List SelItem) Reason → List DeclItem → Option Item
rule_of piece (Err reason) decls =
    Some (KeptRule (record { piece = piece; decls = map (λ d. d.decl) decls; reason = number_of reason }))
rule_of piece (Ok read) [] = None
rule_of piece (Ok read) (d ∷ decls) = Some (Rule (record { selectors = read; decls = d ∷ decls }))

-- a rule with a nested entry may apply anything
abbrev pub rule_or_block : Piece → Result (List SelItem) Reason → Option (List DeclItem) → Option Item
rule_or_block piece read None = Some (KeptBlock piece)
rule_or_block piece read (Some decls) = rule_of piece read decls

-- an item, if it is not dropped
abbrev pub item_of : List ℕ → List Lexeme → Option Item
item_of source item =
    if is_at_rule item then Some (KeptBlock (piece_of item))
    else rule_or_block (piece_of item) (selectors source item) (declarations source item)

-- The items of a sheet. What stands before an `@import` decides whether that one counts (CSS Cascading 3,
-- section 2), so it is kept as it stands.
abbrev pub read_items : List ℕ → List (List Lexeme) → List Item
read_items source [] = []
read_items source (item ∷ rest) =
    cons_option (if list_any (is_import source) rest then Some (KeptBlock (piece_of item)) else item_of source item) (read_items source rest)

-- where an item begins
abbrev pub start_of_first : List SelItem → ℕ
start_of_first [] = 0
start_of_first (s ∷ rest) = s.piece.start

abbrev pub start_of : Item → ℕ
start_of (Rule r) = start_of_first r.selectors
start_of (KeptRule k) = k.piece.start
start_of (KeptBlock piece) = piece.start

-- the pairs of a selector and a declaration of a style rule
abbrev pub pairs_of : Item → ℕ
pairs_of (Rule r) = length r.selectors * length r.decls
pairs_of (KeptRule k) = 0
pairs_of (KeptBlock piece) = 0

-- where the pairs become too many, n of which stand before these items
abbrev pub too_many_pairs : ℕ → List Item → Option ℕ
too_many_pairs n [] = None
too_many_pairs n (item ∷ rest) = if nat_lt max_pairs (n + pairs_of item) then Some (start_of item) else too_many_pairs (n + pairs_of item) rest

-- where the bracket opens that is one too many
abbrev pub too_deep : List Lexeme → Option ℕ
too_deep xs = option_map (λ x. x.span.start) (find (λ x. opens x.kind && x.level == max_depth) xs)

-- where the outermost bracket opens that is open at the end
abbrev pub unclosed : List Token → Option ℕ
unclosed ts = option_map (λ b. b.at) (last_or None (after_all [] ts))

-- where the first `@namespace` stands
abbrev pub namespace_at : List ℕ → List (List Lexeme) → Option ℕ
namespace_at source xs = option_map (λ item. (piece_of item).start) (find (is_namespace source) xs)

-- where the first item stands that is one too many
abbrev pub too_many_items : List Item → Option ℕ
too_many_items xs = option_map start_of (slice_get xs max_items)

-- the items of tokens, whose faults are tested in this order, each over the whole sheet (own)
abbrev pub sheet_of_tokens : List ℕ → List Token → Result (List Item) SheetFault
sheet_of_tokens source ts =
    let raw = filter is_whole (items (lexemes ts)) in
    let read = read_items source raw in
    unless
    (fault_of TooDeep (too_deep (lexemes ts))
    ∷ fault_of EndInside (unclosed ts)
    ∷ fault_of Namespace (namespace_at source raw)
    ∷ fault_of TooManyItems (too_many_items read)
    ∷ fault_of TooManyPairs (too_many_pairs 0 read)
    ∷ [])
    read

abbrev pub token_fault : TokenFault → SheetFault
token_fault (fault.BadString at) = record { kind = BadString; at = at }
token_fault (fault.BadUrl at) = record { kind = BadUrl; at = at }
token_fault (fault.EndInside at) = record { kind = EndInside; at = at }

abbrev pub sheet_of_stream : List ℕ → Option TokenFault → List Token → Result (List Item) SheetFault
sheet_of_stream source (Some f) ts = Err (token_fault f)
sheet_of_stream source None ts = sheet_of_tokens source ts

-- The items of a style sheet, or its first fault. That a sheet can have a fault is own: CSS Syntax 3,
-- section 2.2, knows none.
abbrev pub sheet_of : List ℕ → Result (List Item) SheetFault
sheet_of source =
    if nat_lt max_bytes (length source) then Err (record { kind = TooLong; at = max_bytes })
    else if nat_lt (utf8_valid_len source) (length source) then Err (record { kind = NotUtf8; at = utf8_valid_len source })
    else sheet_of_stream source (tokens source true).fault (tokens source true).tokens
