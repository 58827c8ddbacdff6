-- Whether the text of a sheet with opened blocks begins with a byte order mark hangs on nothing that stands inside the blocks.
use Rattle.std.proofs.Common.{◌≡◌, ℕ, Bool, true, false, List, [], ◌∷◌, ◌++◌, map, drop, sym, ◌∙◌, subst, append_assoc}
use Rattle.std.specs.Prelude.{nat_eq, if◌then◌else◌}
use Rattle.std.specs.List.{AllByRecursion, AllZip, join_with_byte, starts_with}
use Rattle.std.specs.Str.{IsUtf8, chars, is_utf8}
use Rattle.std.proofs.lemmas.Bool.{and_parts, eqb-true, false≢true}
use Rattle.std.proofs.lemmas.Str.{is_utf8-from_IsUtf8}
use Rattle.css_model.specs.declared.sheet.Item.{Item}
use Rattle.css_model.specs.declared.sheet.Item.TheVariants.{Rule, KeptRule, KeptBlock}
use Rattle.css_model.specs.declared.sheet.Piece.{Piece}
use Rattle.css_model.specs.declared.token.Lexeme.{Lexeme}
use Rattle.css_model.specs.Sheets.Printed.{printed, printed_declaration, printed_item, printed_selector}
use Rattle.css_model.specs.Sheets.SheetParts.{SheetParts}
use Rattle.css_model.specs.Sheets.Spelling.{kept_text, lexemes_of, stands_in, tokens_in}
use Rattle.css_model.specs.Text.Characters.{close_curly, comma, open_curly, semicolon}
use Rattle.css_model.specs.Text.Source.{text_at}
use Rattle.css_model.specs.Text.Tokens.{byte_order_mark}
use Rattle.media_groups.specs.declared.media.Media.{Media}
use Rattle.media_groups.specs.Printed.{begins_at, block_text, texts_with}
use Rattle.print_laws.proofs.ForCallers.{Ground, IsGoodLexeme, IsLoneBeforeWhite, filtered, kept-text, kept-utf8, shown-utf8}
use Rattle.sheet_laws.proofs.ForCallers.{kept_shown}

abbrev pub IsMarked : List ℕ → Type 0
IsMarked text = starts_with nat_eq text byte_order_mark ≡ true

-- a text with a `{` is marked by what stands before that, if it is
before_curly : (front more tail : List ℕ) → IsMarked (front ++ open_curly ∷ more) → IsMarked (front ++ open_curly ∷ tail)
before_curly [] more tail is = absurd (false≢true is)
before_curly (a ∷ []) more tail is = absurd (false≢true (and_parts (nat_eq 0xEF a) _ is).1)
before_curly (a ∷ b ∷ []) more tail is = absurd (false≢true (and_parts (nat_eq 0xBB b) _ (and_parts (nat_eq 0xEF a) _ is).1).1)
before_curly (a ∷ b ∷ c ∷ front) more tail is = is

abbrev in_curlies : List ℕ → List ℕ → List ℕ
in_curlies front inside = front ++ open_curly ∷ inside ++ close_curly ∷ []

curly_first : (front inside inside' more tail : List ℕ) → IsMarked (in_curlies front inside ++ more) → IsMarked (in_curlies front inside' ++ tail)
curly_first front inside inside' more tail is =
    subst IsMarked (sym (apart inside' tail)) (before_curly front (inside ++ close_curly ∷ more) (inside' ++ close_curly ∷ tail) (subst IsMarked (apart inside more) is))
  where
    apart : (inside more : List ℕ) → in_curlies front inside ++ more ≡ front ++ (open_curly ∷ (inside ++ close_curly ∷ more))
    apart inside more = append_assoc (front ++ open_curly ∷ inside) (close_curly ∷ []) more ∙ append_assoc front (open_curly ∷ inside) (close_curly ∷ more)

-- the first byte of a mark, and the first two, are no text in UTF-8
one_short : IsUtf8 (0xEF ∷ []) → ⊥
unfolding is_utf8 chars
one_short utf8 = absurd (false≢true (is_utf8-from_IsUtf8 (0xEF ∷ []) utf8))

two_short : IsUtf8 (0xEF ∷ 0xBB ∷ []) → ⊥
unfolding is_utf8 chars
two_short utf8 = absurd (false≢true (is_utf8-from_IsUtf8 (0xEF ∷ 0xBB ∷ []) utf8))

-- so a text in UTF-8 is marked by itself, where it is not empty
utf8_first : (text more tail : List ℕ) → IsUtf8 text → (IsMarked more → IsMarked tail) → IsMarked (text ++ more) → IsMarked (text ++ tail)
utf8_first [] more tail utf8 later is = later is
utf8_first (a ∷ []) more tail utf8 later is =
    let first = eqb-true 0xEF a (and_parts (nat_eq 0xEF a) _ is).0 in
    absurd (one_short (subst (λ (c : ℕ). IsUtf8 (c ∷ [])) (sym first) utf8))
utf8_first (a ∷ b ∷ []) more tail utf8 later is =
    let both = and_parts (nat_eq 0xEF a) _ is in
    let first = eqb-true 0xEF a both.0 in
    let second = eqb-true 0xBB b (and_parts (nat_eq 0xBB b) _ both.1).0 in
    absurd (two_short (subst (λ (c : ℕ). IsUtf8 (0xEF ∷ c ∷ [])) (sym second) (subst (λ (c : ℕ). IsUtf8 (c ∷ b ∷ [])) (sym first) utf8)))
utf8_first (a ∷ b ∷ c ∷ text) more tail utf8 later is = is

-- kept text is in UTF-8
kept_whole : (source : List ℕ) → Ground source → (piece : Piece) → IsUtf8 (kept_text source piece)
kept_whole source ground piece =
    let each = filtered (IsGoodLexeme source) (stands_in piece) (lexemes_of source) ground.each in
    subst IsUtf8 (kept-text source (tokens_in source piece) (lone (tokens_in source piece) each)) (shown-utf8 (kept_shown source (tokens_in source piece)) (kept-utf8 source (tokens_in source piece) each))
  where
    lone : (xs : List Lexeme) → AllByRecursion (IsGoodLexeme source) xs → AllByRecursion IsLoneBeforeWhite xs
    lone [] each = tt
    lone (x ∷ xs) (one, rest) = (one.good.lone, lone xs rest)

item_first : (source : List ℕ) → Ground source → (item : Item) (more tail : List ℕ) → (IsMarked more → IsMarked tail) → IsMarked (printed_item source item ++ more) → IsMarked (printed_item source item ++ tail)
item_first source ground (Rule r) more tail later is =
    let inside = join_with_byte semicolon (map (printed_declaration source) r.decls) in
    curly_first (join_with_byte comma (map (printed_selector source) r.selectors)) inside inside more tail is
item_first source ground (KeptRule k) more tail later is = utf8_first (kept_text source k.piece) more tail (kept_whole source ground k.piece) later is
item_first source ground (KeptBlock piece) more tail later is = utf8_first (kept_text source piece) more tail (kept_whole source ground piece) later is

block_first : (source : List ℕ) (m : Media) (body other : SheetParts) (more tail : List ℕ) → IsMarked (block_text source m body ++ more) → IsMarked (block_text source m other ++ tail)
block_first source m body other more tail is =
    curly_first (kept_text source m.head) (printed (text_at source m.body) body.items) (printed (text_at source m.body) other.items) more tail is

-- so a sheet printed with other bodies begins with a mark only where it does with its own
pub marked_alike : (P : Media → SheetParts → Type 0) (source : List ℕ) → Ground source → (media : List Media) (bodies : List SheetParts) (items : List Item) → AllZip P media bodies →
    IsMarked (texts_with source media bodies items) → IsMarked (texts_with source media (map (λ m. m.sheet) media) items)
marked_alike P source ground media bodies [] all is = is
marked_alike P source ground [] [] (item ∷ items) all is = is
marked_alike P source ground [] (body ∷ bodies) (item ∷ items) all is = absurd all
marked_alike P source ground (m ∷ media) [] (item ∷ items) all is = absurd all
marked_alike P source ground (m ∷ media) (body ∷ bodies) (item ∷ items) all is =
    which (begins_at m.head.start item) (marked_alike P source ground (m ∷ media) (body ∷ bodies) items all) is
  where
    which : (b : Bool) → (IsMarked (texts_with source (m ∷ media) (body ∷ bodies) items) → IsMarked (texts_with source (m ∷ media) (map (λ m. m.sheet) (m ∷ media)) items)) →
        IsMarked ((if b then block_text source m body else printed_item source item) ++ texts_with source (drop (if b then 1 else 0) (m ∷ media)) (drop (if b then 1 else 0) (body ∷ bodies)) items) →
        IsMarked ((if b then block_text source m m.sheet else printed_item source item)
        ++ texts_with source (drop (if b then 1 else 0) (m ∷ media)) (drop (if b then 1 else 0) (map (λ m. m.sheet) (m ∷ media))) items)
    which true later is = block_first source m body m.sheet (texts_with source media bodies items) (texts_with source media (map (λ m. m.sheet) media) items) is
    which false later is =
        item_first source ground item (texts_with source (m ∷ media) (body ∷ bodies) items) (texts_with source (m ∷ media) (map (λ m. m.sheet) (m ∷ media)) items) later is
