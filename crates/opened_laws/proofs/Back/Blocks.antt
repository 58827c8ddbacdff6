-- A kept block that is read back is opened where it was, and only there.
use Rattle.std.proofs.Common.{◌≡◌, ◌≤◌, ℕ, ◌==◌, Bool, true, false, List, [], ◌∷◌, ◌++◌, length, drop, take, Option, Some, None, refl, sym, ◌∙◌, ap, ap₂, subst, arith}
use Rattle.std.specs.Prelude.{◌&&◌, codes, if◌then◌else◌}
use Rattle.std.specs.List.{list_any}
use Rattle.std.specs.Option.{option_map}
use Rattle.std.specs.Str.{str_eq_ignore_ascii_case, str_to_ascii_lowercase}
use Rattle.std.proofs.lemmas.Bool.{and_parts, cond-true, cond-false, false≢true}
use Rattle.std.proofs.lemmas.Slice.Eq.{bytes_eq-Decides}
use Rattle.css_model.specs.declared.limits.TheConstants.{MAX_BYTES}
use Rattle.css_model.specs.declared.sheet.Item.{Item}
use Rattle.css_model.specs.declared.sheet.Item.TheVariants.{KeptBlock}
use Rattle.css_model.specs.declared.sheet.Piece.{Piece}
use Rattle.css_model.specs.declared.token.Lexeme.{Lexeme}
use Rattle.css_model.specs.declared.token.TokenKind.{TokenKind}
use Rattle.css_model.specs.declared.token.TokenKind.TheVariants as kind
use Rattle.css_model.specs.Sheets.Items.{is_at_keyword, opens_block}
use Rattle.css_model.specs.Sheets.Printed.{printed}
use Rattle.css_model.specs.Sheets.Sheet.{is_at_rule_named, is_import}
use Rattle.css_model.specs.Sheets.SheetParts.{SheetParts}
use Rattle.css_model.specs.Sheets.Sound.{IsSoundBlock, raw_items}
use Rattle.css_model.specs.Sheets.Spelling.{kept_text, lexemes_of, tokens_in}
use Rattle.css_model.specs.Text.Characters.{close_curly, open_curly}
use Rattle.css_model.specs.Text.Lexemes.{is_sign_of, piece_of}
use Rattle.css_model.specs.Text.Names.{is_named, unescaped}
use Rattle.css_model.specs.Text.Source.{text_at}
use Rattle.list_facts.proofs.Cuts.{position_later}
use Rattle.list_facts.proofs.Zips.{some_not_none, zip_any}
use Rattle.media_groups.specs.declared.media.Media.{Media}
use Rattle.media_groups.specs.Opened.{body_of, head_of, is_media, media_of, opened_rule, sheet_of_body}
use Rattle.media_groups.specs.Printed.{block_text}
use Rattle.opened_laws.specs.Block.Blocks.{IsMediaText}
use Rattle.print_laws.specs.Replaced.{whole_piece}
use Rattle.print_laws.proofs.ForCallers.{Ground, IsItemOf, IsKeptBack, ground-of, member, whole-stands}
use Rattle.sheet_laws.specs.Twins.{AreTwins}
use Rattle.sheet_laws.proofs.ForCallers.{IsLike, IsRawItem, is_ended, sheet-sound, sign_like, stand_alone_in}
use Rattle.opened_laws.specs.Again.{IsBlockAgain}
use Rattle.opened_laws.proofs.Alike.Bodies.{bodies_alike}
use Rattle.opened_laws.proofs.Back.Bodies.{IsBodyBack}
use Rattle.opened_laws.proofs.Back.Kept.{closable_piece, kept_last, kept_like, kept_named}
use Rattle.opened_laws.proofs.Pieces.Whole.{same_block}

-- ---- the tokens of a kept block

pub record IsPieceItem (text : List ℕ) (piece : Piece) : Type 0 where
  pub item : IsItemOf (lexemes_of text) (tokens_in text piece)
  pub stands : piece_of (tokens_in text piece) ≡ piece
  pub ended : list_any opens_block (tokens_in text piece) ≡ true → is_ended (tokens_in text piece) ≡ true

pub piece_item : (text : List ℕ) → Ground text → (piece : Piece) → IsSoundBlock text piece → IsPieceItem text piece
piece_item text g piece sound =
    let raw = member (IsRawItem (lexemes_of text)) (raw_items text) sound.item g.raw.each sound.item_in in
    let alone : tokens_in text piece ≡ sound.item = ap (tokens_in text) (sym sound.stands) ∙ stand_alone_in text g.good sound.item raw.is_item.stands in
    record {
      item = subst (IsItemOf (lexemes_of text)) (sym alone) (member (IsItemOf (lexemes_of text)) (raw_items text) sound.item g.items sound.item_in);
      stands = ap piece_of alone ∙ sound.stands;
      ended = λ some. ap is_ended alone ∙ raw.is_item.with_block (ap (list_any opens_block) (sym alone) ∙ some);
    }

-- ---- what is opened

-- a rule that is opened
pub record IsOpenedRule (source : List ℕ) (xs : List Lexeme) (m : Media) : Type 0 where
  pub media : is_media source xs ≡ true
  pub head : m.head ≡ head_of xs
  pub body : m.body ≡ body_of xs
  pub is_sheet : sheet_of_body (text_at source m.body) ≡ Some m.sheet.items

pub rule_opened : (source : List ℕ) (n : ℕ) (xs : List Lexeme) (m : Media) → opened_rule source n xs ≡ Some m → IsOpenedRule source xs m
rule_opened source n xs m e = which (is_media source xs) refl (sheet_of_body (text_at source (body_of xs))) refl e
  where
    media_or : Media → Option Media → Media
    media_or d None = d
    media_or d (Some m) = m

    which : (b : Bool) → is_media source xs ≡ b → (o : Option (List Item)) → sheet_of_body (text_at source (body_of xs)) ≡ o →
        ◌≡◌ {A = Option Media} (if b then option_map (media_of n xs) o else None) (Some m) → IsOpenedRule source xs m
    which false is o read e = absurd (cc)
    which true is None read e = absurd (cc)
    which true is (Some its) read e =
        let same : media_of n xs its ≡ m = ap (media_or m) e in
        subst (IsOpenedRule source xs) same (record { media = is; head = refl; body = refl; is_sheet = read })

no_block : (x : Lexeme) → is_at_keyword x.kind ≡ true → opens_block x ≡ false
no_block x is = ap (λ b. b && x.level == 0) (at x.kind is)
  where
    at : (k : TokenKind) → is_at_keyword k ≡ true → is_sign_of open_curly k ≡ false
    at kind.AtKeyword is = refl
    at _ is = absurd (false≢true is)

-- The head of an opened block begins where the block does.
pub head_start : (source : List ℕ) (xs : List Lexeme) → is_media source xs ≡ true → (head_of xs).start ≡ (piece_of xs).start
head_start source [] media = absurd (false≢true media)
head_start source (x ∷ xs) media =
    let named = (and_parts (is_at_rule_named (codes "media") source (x ∷ xs)) (list_any opens_block (x ∷ xs)) media).0 in
    ap (λ (n : ℕ). (piece_of (take n (x ∷ xs))).start) (position_later opens_block x xs (no_block x (and_parts (is_at_keyword x.kind) _ named).0))

same_word : (name word : List ℕ) → str_eq_ignore_ascii_case name word ≡ true → str_to_ascii_lowercase name ≡ str_to_ascii_lowercase word
same_word name word is = (bytes_eq-Decides (str_to_ascii_lowercase name) (str_to_ascii_lowercase word)).0 is

-- An opened block is no `@import`.
pub media_no_import : (source : List ℕ) (xs : List Lexeme) → is_media source xs ≡ true → is_import source xs ≡ false
media_no_import source [] media = refl
media_no_import source (x ∷ xs) media =
    let named = (and_parts (is_at_rule_named (codes "media") source (x ∷ xs)) (list_any opens_block (x ∷ xs)) media).0 in
    which (is_named (codes "import") (drop 1 (text_at source x.span))) refl (and_parts (is_at_keyword x.kind) (is_named (codes "media") (drop 1 (text_at source x.span))) named).1
  where
    none : (b : Bool) → b && false ≡ false
    none true = refl
    none false = refl

    which : (b : Bool) → is_named (codes "import") (drop 1 (text_at source x.span)) ≡ b → is_named (codes "media") (drop 1 (text_at source x.span)) ≡ true → is_import source (x ∷ xs) ≡ false
    which false is named = ap (λ b. is_at_keyword x.kind && b) is ∙ none (is_at_keyword x.kind)
    which true is named =
        let name = unescaped (drop 1 (text_at source x.span)) in
        let words : codes "media" ≡ codes "import" = sym (same_word name (codes "media") named) ∙ same_word name (codes "import") is in
        absurd (let n : 5 ≡ 6 = ap length words in omega (arith, n))

media_like : (source text : List ℕ) → Ground source → (piece piece' : Piece) → IsKeptBack source piece text piece' → is_media text (tokens_in text piece') ≡ is_media source (tokens_in source piece)
media_like source text g piece piece' back =
    ap₂ (λ (b c : Bool). b && c) (kept_named (codes "media") source text g piece piece' back)
    (zip_any (IsLike text source) opens_block opens_block (sign_like text source open_curly 0) (tokens_in text piece') (tokens_in source piece) (kept_like source text g piece piece' back))

-- What is not opened in a source is not opened in its print.
pub not_opened : (source text : List ℕ) → Ground source → Ground text → length source ≤ MAX_BYTES → (piece piece' : Piece) → IsPieceItem source piece → IsPieceItem text piece' →
    IsKeptBack source piece text piece' → (n n' : ℕ) → opened_rule source n (tokens_in source piece) ≡ None → opened_rule text n' (tokens_in text piece') ≡ None
not_opened source text g g' short piece piece' item item' back n n' none =
    which (is_media source (tokens_in source piece)) refl none
  where
    no_sheet : (its' : List Item) → is_media source (tokens_in source piece) ≡ true → sheet_of_body (text_at text (body_of (tokens_in text piece'))) ≡ Some its' →
        sheet_of_body (text_at source (body_of (tokens_in source piece))) ≡ None → ⊥
    no_sheet its' media is none =
        let some = (and_parts (is_at_rule_named (codes "media") source (tokens_in source piece)) (list_any opens_block (tokens_in source piece)) media).1 in
        let read = bodies_alike text source g' g short (tokens_in text piece') (tokens_in source piece) item'.item item.item (kept_last source text piece piece' back) (closable_piece source g piece) some its' is in
        some_not_none read.0 (sym read.1 ∙ none)

    unread : (o : Option (List Item)) → option_map (media_of n (tokens_in source piece)) o ≡ None → o ≡ None
    unread None e = refl
    unread (Some its) e = absurd (some_not_none (media_of n (tokens_in source piece) its) e)

    closed : (o : Option (List Item)) → ((its' : List Item) → o ≡ Some its' → ⊥) → option_map (media_of n' (tokens_in text piece')) o ≡ None
    closed None none = refl
    closed (Some its') none = absurd (none its' refl)

    which : (b : Bool) → is_media source (tokens_in source piece) ≡ b →
        (if b then option_map (media_of n (tokens_in source piece)) (sheet_of_body (text_at source (body_of (tokens_in source piece)))) else None) ≡ None → opened_rule text n' (tokens_in text piece') ≡ None
    which false is none = cond-false _ _ None (media_like source text g piece piece' back ∙ is)
    which true is none =
        cond-true _ (option_map (media_of n' (tokens_in text piece')) (sheet_of_body (text_at text (body_of (tokens_in text piece'))))) None (media_like source text g piece piece' back ∙ is)
        ∙ closed (sheet_of_body (text_at text (body_of (tokens_in text piece')))) (λ its' read. no_sheet its' is read (unread (sheet_of_body (text_at source (body_of (tokens_in source piece)))) none))

-- ---- what is opened again

-- The printed text of an opened block with this body, by itself.
abbrev pub IsPrintedBlock : List ℕ → Media → SheetParts → List ℕ → Type 0
IsPrintedBlock source m body block = IsMediaText block (kept_text source m.head) (printed (text_at source m.body) body.items)

-- the opened block that it is read back as
pub record IsOpenedAgain (source : List ℕ) (m : Media) (body : SheetParts) (text : List ℕ) (n' : ℕ) (piece' : Piece) : Type 0 where
  pub again : Media
  pub opened : opened_rule text n' (tokens_in text piece') ≡ Some again
  pub is_block : IsBlockAgain source m body text again
  pub text_again : block_text text again again.sheet ≡ block_text source m body

pub opened_again : (source : List ℕ) (m : Media) (body : SheetParts) (block : List ℕ) → IsPrintedBlock source m body block → IsBodyBack (text_at source m.body) body.items →
    (text : List ℕ) → Ground text → (piece' : Piece) → IsPieceItem text piece' → IsKeptBack block (whole_piece block) text piece' → (n' : ℕ) → IsOpenedAgain source m body text n' piece'
opened_again source m body block b again text g piece' item' back n' =
    let ys = tokens_in text piece' in
    let xs = tokens_in block (whole_piece block) in
    let g_block = ground-of block (KeptBlock (whole_piece block) ∷ []) b.whole.reads in
    let item = piece_item block g_block (whole_piece block) (sheet-sound block (KeptBlock (whole_piece block) ∷ []) b.whole.reads).0 in
    let media' : is_media text ys ≡ true = media_like block text g_block (whole_piece block) piece' back ∙ b.media in
    let some' = (and_parts (is_at_rule_named (codes "media") text ys) (list_any opens_block ys) media').1 in
    let same = same_block text g ys item'.item (item'.ended some') some' block g_block xs item.item (item.ended b.whole.has_block) b.whole.has_block
    (ap (text_at text) item'.stands ∙ whole-stands block text piece' b.whole back) item.stands in
    let head' : kept_text text (head_of ys) ≡ kept_text source m.head = same.head ∙ b.same_head in
    let body' : text_at text (body_of ys) ≡ printed (text_at source m.body) body.items = same.body ∙ b.same_body in
    record {
      again = media_of n' ys again.again;
      opened = cond-true _ (option_map (media_of n' ys) (sheet_of_body (text_at text (body_of ys)))) None media' ∙ ap (option_map (media_of n' ys)) (ap sheet_of_body body' ∙ again.is_sheet);
      is_block = record { head = head'; text = body'; twins = subst (λ t. AreTwins (text_at source m.body) t body.items again.again) (sym body') again.twins };
      text_again = ap₂ (λ (front inside : List ℕ). front ++ open_curly ∷ inside ++ close_curly ∷ []) head' (ap (λ t. printed t again.again) body' ∙ again.prints);
    }
