-- Kept blocks with one kept text are both opened by themselves, or none is: each is where this text is, read by itself.
use Rattle.std.proofs.Common.{◌≡◌, ◌≤◌, ℕ, ◌+◌, nat_eq, Bool, true, false, List, [], ◌∷◌, length, map, Option, Some, None, Ok, refl, sym, ◌∙◌, ap, ap₂, subst, arith}
use Rattle.std.proofs.lemmas.Bool.{and_parts, cond-true}
use Rattle.std.proofs.lemmas.List.{append-nil, length-append}
use Rattle.std.specs.Prelude.{◌&&◌, codes, is_some}
use Rattle.std.specs.List.{AllZip, list_any, starts_with}
use Rattle.std.specs.Option.{option_map}
use Rattle.std.specs.Str.{IsUtf8}
use Rattle.css_model.specs.declared.limits.TheConstants.{MAX_BYTES}
use Rattle.css_model.specs.declared.sheet.Item.{Item}
use Rattle.css_model.specs.declared.sheet.Item.TheVariants.{KeptBlock}
use Rattle.css_model.specs.declared.sheet.Piece.{Piece}
use Rattle.css_model.specs.declared.token.Lexeme.{Lexeme}
use Rattle.css_model.specs.Sheets.Items.{opens_block}
use Rattle.css_model.specs.Sheets.Sheet.{is_at_rule_named, is_import, sheet_of}
use Rattle.css_model.specs.Sheets.Sound.{IsSoundBlock}
use Rattle.css_model.specs.Sheets.Spelling.{kept_text, lexemes_of, tokens_in}
use Rattle.css_model.specs.Text.Characters.{open_curly}
use Rattle.css_model.specs.Text.Kept.{Solid, kept}
use Rattle.css_model.specs.Text.Lexemes.{lexemes_in}
use Rattle.css_model.specs.Text.Source.{text_at}
use Rattle.css_model.specs.Text.Tokens.{byte_order_mark, text_of, tokens_at}
use Rattle.css_tokens.specs.Lexed.{IsLexed}
use Rattle.list_facts.proofs.Zips.{AllLast, some_not_none, zip_any}
use Rattle.media_groups.specs.declared.media.Media.{Media}
use Rattle.media_groups.specs.Opened.{body_of, is_media, media_of, opened_rule, sheet_of_body}
use Rattle.print_laws.proofs.ForCallers.{Chain, Ground, IsItemOf, IsReadPiece, SoundItem, chain-shown, closers_after, closers_after_all, ground-of, kept-alone, kept-chain, kept-is-lexed, kept-text, names-of, open_behind, part-solids, parts_of, shown-utf8, sound-item, tokens-shown}
use Rattle.sheet_laws.proofs.ForCallers.{IsInner, IsLike, Shown, at_rule_named_like, inner, item_like, kept_shown, last_from_shown, last_of_item, shown, sign_like}
use Rattle.token_laws.specs.Solids.{KeptIsShort, solids_of}
use Rattle.opened_laws.specs.Texts.{SameTextsAreOpenedAlike}
use Rattle.opened_laws.proofs.Alike.Bodies.{IsLastOfItem, bodies_alike, bodies_back}
use Rattle.opened_laws.proofs.Back.Blocks.{piece_item, rule_opened}
use Rattle.opened_laws.proofs.Back.Kept.{closable_piece}
use Rattle.opened_laws.proofs.Back.Law.{source_short}
use Rattle.opened_laws.proofs.Block.Text.{IsNoMark, import_word, media_word, rule_first}
use Rattle.opened_laws.proofs.Pieces.Alone.{IsAlone, alone}

-- ---- The kept text by itself

-- a kept block of a source that is read
record IsKeptOf (source : List ℕ) (piece : Piece) : Type 0 where
  items : List Item
  reads : sheet_of source ≡ Ok items
  sound : IsSoundBlock source piece

-- a text whose tokens are those that are printed for a kept block
record IsTextAlone (text source : List ℕ) (piece : Piece) : Type 0 where
  ground : Ground text
  shown_as : map (shown text) (lexemes_of text) ≡ kept_shown source (tokens_in source piece)

-- what is open behind tokens, by what is shown of them
open_shown : (text cs : List ℕ) (zs : List Lexeme) → closers_after_all cs (map (shown text) zs) ≡ open_behind cs zs
open_shown text cs [] = refl
open_shown text cs (z ∷ zs) = open_shown text (closers_after z.kind cs) zs

sound_of : (source : List ℕ) (piece : Piece) → IsKeptOf source piece → SoundItem source (KeptBlock piece)
sound_of source piece k = sound-item source (ground-of source k.items k.reads) (names-of source k.items k.reads) (KeptBlock piece) k.sound

text_alone : (source : List ℕ) (piece : Piece) → IsKeptOf source piece → starts_with nat_eq (kept_text source piece) byte_order_mark ≡ false → IsTextAlone (kept_text source piece) source piece
text_alone source piece k unmarked = record {
  ground = a.ground;
  shown_as = ap (map (shown (kept_text source piece))) a.tokens_are ∙ tokens_;
}
  where
    g : Ground source
    g = ground-of source k.items k.reads

    i : SoundItem source (KeptBlock piece)
    i = sound_of source piece k

    ss : List Shown
    ss = kept_shown source (tokens_in source piece)

    spells : kept_text source piece ≡ text_of (parts_of ss)
    spells = sym (kept-text source (tokens_in source piece) i.text)

    lexed : IsLexed (parts_of ss)
    lexed = subst IsLexed (append-nil (parts_of ss)) (kept-alone kept-is-lexed source g.parts.ps (record { lexed = g.parts.lexed; solids = g.parts.spelled }) (tokens_in source piece) i.read)

    chain : Chain [] ss []
    chain = kept-chain source (tokens_in source piece) i.flat.leveled i.flat.ends

    tokens_ : map (shown (kept_text source piece)) (lexemes_in [] (tokens_at 0 false (parts_of ss))) ≡ ss
    tokens_ = tokens-shown (kept_text source piece) [] (parts_of ss) false [] spells ∙ chain-shown [] ss chain.chain

    closed : open_behind [] (lexemes_in [] (tokens_at 0 false (parts_of ss))) ≡ []
    closed = sym (open_shown (kept_text source piece) [] (lexemes_in [] (tokens_at 0 false (parts_of ss)))) ∙ ap (closers_after_all []) tokens_ ∙ chain.ends

    a : IsAlone (kept_text source piece) (parts_of ss)
    a = alone (kept_text source piece) (parts_of ss) spells lexed (subst IsUtf8 (sym spells) (shown-utf8 ss i.utf8)) unmarked closed

-- ---- What the tokens of that text say

last_alone : (text source : List ℕ) (piece : Piece) → IsTextAlone text source piece → AllLast (IsInner text source) (IsLastOfItem text source) (lexemes_of text) (tokens_in source piece)
last_alone text source piece a = last_from_shown (shown text) (inner source) (last_of_item source) (lexemes_of text) (tokens_in source piece) a.shown_as

item_alone : (text source : List ℕ) (piece : Piece) → IsTextAlone text source piece → IsItemOf (lexemes_of text) (lexemes_of text)
item_alone text source piece a = record { before = []; behind = []; are = sym (append-nil (lexemes_of text)); leveled = a.ground.leveled; ends = a.ground.ends }

like_alone : (text source : List ℕ) (piece : Piece) → IsKeptOf source piece → IsTextAlone text source piece → AllZip (IsLike text source) (lexemes_of text) (tokens_in source piece)
like_alone text source piece k a = item_like text source (lexemes_of text) (tokens_in source piece) (last_alone text source piece a) (closable_piece source (ground-of source k.items k.reads) piece)

named_alone : (word text source : List ℕ) (piece : Piece) → IsKeptOf source piece → IsTextAlone text source piece → is_at_rule_named word text (lexemes_of text) ≡ is_at_rule_named word source (tokens_in source piece)
named_alone word text source piece k a = at_rule_named_like word text source (lexemes_of text) (tokens_in source piece) (like_alone text source piece k a)

media_alone : (text source : List ℕ) (piece : Piece) → IsKeptOf source piece → IsTextAlone text source piece → is_media text (lexemes_of text) ≡ is_media source (tokens_in source piece)
media_alone text source piece k a =
    ap₂ (λ (b c : Bool). b && c) (named_alone (codes "media") text source piece k a)
    (zip_any (IsLike text source) opens_block opens_block (sign_like text source open_curly 0) (lexemes_of text) (tokens_in source piece) (like_alone text source piece k a))

-- it is no longer than the source
short_alone : KeptIsShort → (source : List ℕ) (piece : Piece) → IsKeptOf source piece → length (kept_text source piece) ≤ MAX_BYTES
short_alone short source piece k =
    let g = ground-of source k.items k.reads in
    let r : IsReadPiece source (tokens_in source piece) = (sound_of source piece k).read in
    let front = length r.part.before in
    let size = length (tokens_in source piece) in
    let same : length (kept_text source piece) ≡ length (kept (solids_of g.parts.ps front size)) =
    ap (λ (ss : List Solid). length (kept ss)) (part-solids source g.parts.ps (tokens_in source piece) (record { lexed = g.parts.lexed; solids = g.parts.spelled }) r.part) in
    let few : length (kept (solids_of g.parts.ps front size)) ≤ length (text_of g.parts.ps) = (short g.parts.ps front size g.parts.lexed).0 in
    let whole : length source ≡ length g.parts.front + length (text_of g.parts.ps) = ap length g.parts.are ∙ length-append g.parts.front (text_of g.parts.ps) in
    let fits = source_short source k.items k.reads in
    omega (arith, same, few, whole, fits)

-- ---- Two kept blocks with one kept text

-- an at-rule of such a name does not begin as a byte order mark does
no_mark : (word : List ℕ) → IsNoMark word → (source : List ℕ) (piece : Piece) → is_at_rule_named word source (tokens_in source piece) ≡ true → starts_with nat_eq (kept_text source piece) byte_order_mark ≡ false
no_mark word w source piece named = ap (λ (cs : List ℕ). starts_with nat_eq cs byte_order_mark) (sym (append-nil (kept_text source piece))) ∙ rule_first word w source (tokens_in source piece) [] named

both_alone : (source : List ℕ) (piece : Piece) → IsKeptOf source piece → (other : List ℕ) (piece' : Piece) → IsKeptOf other piece' → kept_text source piece ≡ kept_text other piece' →
    starts_with nat_eq (kept_text other piece') byte_order_mark ≡ false → IsTextAlone (kept_text other piece') source piece × IsTextAlone (kept_text other piece') other piece'
both_alone source piece k other piece' k' same unmarked = (
  subst (λ (text : List ℕ). IsTextAlone text source piece) same (text_alone source piece k (ap (λ (text : List ℕ). starts_with nat_eq text byte_order_mark) same ∙ unmarked)),
  text_alone other piece' k' unmarked,
)

import_in : (source : List ℕ) (piece : Piece) → IsKeptOf source piece → (other : List ℕ) (piece' : Piece) → IsKeptOf other piece' → kept_text source piece ≡ kept_text other piece' →
    is_import other (tokens_in other piece') ≡ true → is_import source (tokens_in source piece) ≡ true
import_in source piece k other piece' k' same import =
    let both = both_alone source piece k other piece' k' same (no_mark (codes "import") import_word other piece' import) in
    sym (named_alone (codes "import") (kept_text other piece') source piece k both.0) ∙ named_alone (codes "import") (kept_text other piece') other piece' k' both.1 ∙ import

-- from the one to the text by itself, and from there to the other one
opened_in : KeptIsShort → (source : List ℕ) (piece : Piece) → IsKeptOf source piece → (other : List ℕ) (piece' : Piece) → IsKeptOf other piece' → kept_text source piece ≡ kept_text other piece' →
    (n n' : ℕ) (m' : Media) → opened_rule other n' (tokens_in other piece') ≡ Some m' → (m : Media) × (opened_rule source n (tokens_in source piece) ≡ Some m)
opened_in short source piece k other piece' k' same n n' m' opened =
    let text = kept_text other piece' in
    let zs = lexemes_of text in
    let xs = tokens_in source piece in
    let ys = tokens_in other piece' in
    let g = ground-of source k.items k.reads in
    let g' = ground-of other k'.items k'.reads in
    let rule = rule_opened other n' ys m' opened in
    let tests = and_parts (is_at_rule_named (codes "media") other ys) (list_any opens_block ys) rule.media in
    let both = both_alone source piece k other piece' k' same (no_mark (codes "media") media_word other piece' tests.0) in
    let inside = bodies_back text other both.1.ground g' (short_alone short other piece' k') zs ys (item_alone text other piece' both.1) (piece_item other g' piece' k'.sound).item
    (last_alone text other piece' both.1) (closable_piece other g' piece') tests.1 m'.sheet.items (ap (λ p. sheet_of_body (text_at other p)) (sym rule.body) ∙ rule.is_sheet) in
    let media : is_media source xs ≡ true = sym (media_alone text source piece k both.0) ∙ media_alone text other piece' k' both.1 ∙ rule.media in
    let some = (and_parts (is_at_rule_named (codes "media") source xs) (list_any opens_block xs) media).1 in
    let read = bodies_alike text source both.0.ground g (source_short source k.items k.reads) zs xs (item_alone text source piece both.0) (piece_item source g piece k.sound).item
    (last_alone text source piece both.0) (closable_piece source g piece) some inside.0 inside.1 in
    (media_of n xs read.0, cond-true _ (option_map (media_of n xs) (sheet_of_body (text_at source (body_of xs)))) None media ∙ ap (option_map (media_of n xs)) read.1)

same_tests : (b c : Bool) → (b ≡ true → c ≡ true) → (c ≡ true → b ≡ true) → b ≡ c
same_tests true true f g = refl
same_tests true false f g = sym (f refl)
same_tests false true f g = g refl
same_tests false false f g = refl

both_there : (o o' : Option Media) → ((m : Media) → o ≡ Some m → (m' : Media) × (o' ≡ Some m')) → ((m' : Media) → o' ≡ Some m' → (m : Media) × (o ≡ Some m)) → is_some o ≡ is_some o'
both_there (Some m) (Some m') f g = refl
both_there None None f g = refl
both_there (Some m) None f g = absurd (some_not_none (f m refl).0 (sym (f m refl).1))
both_there None (Some m') f g = absurd (some_not_none (g m' refl).0 (sym (g m' refl).1))

pub opened_alike : KeptIsShort → SameTextsAreOpenedAlike
opened_alike short source items other others reads reads' piece piece' sound sound' same =
    let k : IsKeptOf source piece = record { items = items; reads = reads; sound = sound } in
    let k' : IsKeptOf other piece' = record { items = others; reads = reads'; sound = sound' } in
    record {
      imports = same_tests (is_import source (tokens_in source piece)) (is_import other (tokens_in other piece')) (import_in other piece' k' source piece k (sym same)) (import_in source piece k other piece' k' same);
      opened = λ n n'. both_there (opened_rule source n (tokens_in source piece)) (opened_rule other n' (tokens_in other piece'))
          (λ m is. opened_in short other piece' k' source piece k (sym same) n' n m is) (λ m' is. opened_in short source piece k other piece' k' same n n' m' is);
    }
