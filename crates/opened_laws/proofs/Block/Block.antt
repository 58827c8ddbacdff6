-- A block that is printed by the parts of its head and of its body, as it is read.
use Rattle.std.proofs.Common.{◌≡◌, ℕ, suc, ◌+◌, ◌==◌, ◌≤◌, nat_eq, Bool, true, false, List, [], ◌∷◌, ◌++◌, map, length, drop, Ok, refl, sym, ◌∙◌, ap, ap₂, subst, arith, append_assoc}
use Rattle.std.specs.Prelude.{◌&&◌, ◌||◌, codes}
use Rattle.std.specs.Char.{to_ascii_lowercase}
use Rattle.std.specs.Str.{str_eq_ignore_ascii_case}
use Rattle.std.specs.List.{AllByRecursion, AllZip, before_first, filter, flat_map, list_any, starts_with}
use Rattle.std.proofs.lemmas.Bool.{and_parts, eqb-true, false≢true, or_parts, true≢false}
use Rattle.std.proofs.lemmas.List.{length-append}
use Rattle.css_model.specs.declared.limits.TheConstants.{MAX_DEPTH}
use Rattle.css_model.specs.declared.sheet.Item.{Item}
use Rattle.css_model.specs.declared.sheet.Item.TheVariants.{KeptBlock}
use Rattle.css_model.specs.declared.sheet.Piece.{Piece}
use Rattle.css_model.specs.declared.token.Lexeme.{Lexeme}
use Rattle.css_model.specs.Sheets.Items.{ends_prelude, is_at_rule, is_whole, items, opens_block}
use Rattle.css_model.specs.Sheets.Limits.{max_bytes}
use Rattle.css_model.specs.Sheets.Printed.{behind_mark, printed_item}
use Rattle.css_model.specs.Sheets.Sheet.{is_at_rule_named, is_import}
use Rattle.css_model.specs.Sheets.Spelling.{kept_text, lexemes_of, tokens_in}
use Rattle.css_model.specs.Text.Characters.{close_curly, open_curly, semicolon}
use Rattle.css_model.specs.Text.Kept.{kept, solid}
use Rattle.css_model.specs.Text.Lexemes.{is_sign_of, opens, piece_of}
use Rattle.css_model.specs.Text.Names.{is_named, unescaped}
use Rattle.css_model.specs.Text.Source.{text_at}
use Rattle.css_model.specs.Text.Tokens.{byte_order_mark}
use Rattle.list_facts.proofs.Cuts.{None_of, before_at, none_append}
use Rattle.sheet_laws.proofs.ForCallers.{IsLike, Shown, StandsIn, at_rule_named_like, inner, item_like, kept_shown, last_from_shown, last_of_item, sheet_shown, shown, sign_shown, stand_alone_in, stands_whole}
use Rattle.print_laws.specs.Replaced.{IsWholeBlock, whole_piece}
use Rattle.print_laws.proofs.ForCallers.{gap_size, kept-text, shown_text, text-between, to_solid}
use Rattle.media_groups.specs.Opened.{body_of, head_of, is_media}
use Rattle.opened_laws.specs.Block.Blocks.{IsMediaText}
use Rattle.opened_laws.proofs.Block.Body.{PrintedBody}
use Rattle.opened_laws.proofs.Block.Item.{IsAtBlock, block_items, block_opens, block_tokens, is_at_rule_block}
use Rattle.opened_laws.proofs.Block.Levels.{deeper, is_stray}
use Rattle.opened_laws.proofs.Block.AtRules.{body_is}
use Rattle.opened_laws.proofs.Block.Places.{block_size}
use Rattle.opened_laws.proofs.Block.Sheet.{IsOneItem, reads_one}
use Rattle.opened_laws.proofs.Block.Spared.{none_kept}
use Rattle.opened_laws.proofs.Block.Spelled.{EndsBare, IsSpelled, bare_last, kept_bare, kept_spells}
use Rattle.opened_laws.proofs.Block.Text.{BlockTokens, IsBlockText, block_text_of, media_first, none_as, none_deeper, stays_deeper}
use Rattle.opened_laws.proofs.Block.Whole.{IsHead, block_chain, block_lexed, block_spells, block_utf8, open_shown}

-- ---- texts of tokens

solids_shown : (text : List ℕ) (xs : List Lexeme) → map (solid text) xs ≡ map to_solid (map (shown text) xs)
solids_shown text [] = refl
solids_shown text (x ∷ xs) = ap (λ ss. solid text x ∷ ss) (solids_shown text xs)

-- the kept text of tokens that are shown so
kept_as : (text : List ℕ) (xs : List Lexeme) (ss : List Shown) → map (shown text) xs ≡ ss → AllByRecursion IsSpelled ss → EndsBare ss → kept (map (solid text) xs) ≡ shown_text ss
kept_as text xs ss same each bare = ap kept (solids_shown text xs ∙ ap (map to_solid) same) ∙ kept_spells ss each bare

each_front : {A : Type 0} (P : A → Type 0) (xs ys : List A) → AllByRecursion P (xs ++ ys) → AllByRecursion P xs
each_front P [] ys each = tt
each_front P (x ∷ xs) ys (one, each) = (one, each_front P xs ys each)

-- ---- names

pub no_second : (a b : Bool) → b ≡ false → a && b ≡ false
no_second true b is = is
no_second false b is = refl

-- `media` is no name that begins with another letter
other_name : (w : ℕ) (ws : List ℕ) → nat_eq 109 (to_ascii_lowercase w) ≡ false → (name : List ℕ) → str_eq_ignore_ascii_case name (codes "media") ≡ true → str_eq_ignore_ascii_case name (w ∷ ws) ≡ false
other_name w ws other [] media = refl
other_name w ws other (c ∷ cs) media =
    let first : to_ascii_lowercase c ≡ 109 = eqb-true (to_ascii_lowercase c) 109 (and_parts (nat_eq (to_ascii_lowercase c) 109) _ media).0 in
    no_first _ _ (ap (λ (n : ℕ). nat_eq n (to_ascii_lowercase w)) first ∙ other)
  where
    no_first : (a b : Bool) → a ≡ false → a && b ≡ false
    no_first true b is = absurd (true≢false is)
    no_first false b is = refl

other_rule : (w : ℕ) (ws : List ℕ) → nat_eq 109 (to_ascii_lowercase w) ≡ false → (source : List ℕ) (xs : List Lexeme) → is_at_rule_named (codes "media") source xs ≡ true → is_at_rule_named (w ∷ ws) source xs ≡ false
other_rule w ws other source [] media = refl
other_rule w ws other source (x ∷ xs) media =
    let both = and_parts (is_at_rule (x ∷ xs)) (is_named (codes "media") (drop 1 (text_at source x.span))) media in
    no_second (is_at_rule (x ∷ xs)) _ (other_name w ws other (unescaped (drop 1 (text_at source x.span))) both.1)

front_names : (word text : List ℕ) (front : List Lexeme) (open_ : Lexeme) (within : List Lexeme) (close : Lexeme) → is_at_rule front ≡ true
    → is_at_rule_named word text (block_tokens front open_ within close) ≡ is_at_rule_named word text front
front_names word text [] open_ within close is = absurd (false≢true is)
front_names word text (x ∷ front) open_ within close is = refl

at_rule_is : (word source : List ℕ) (xs : List Lexeme) → is_at_rule_named word source xs ≡ true → is_at_rule xs ≡ true
at_rule_is word source [] named = absurd (false≢true named)
at_rule_is word source (x ∷ xs) named = (and_parts (is_at_rule (x ∷ xs)) _ named).0

-- ---- a block that is printed

-- a head of a source, a sheet that is printed inside its block, and the text of both
module _ (source : List ℕ) (xs : List Lexeme) (h : IsHead source xs) (body : List ℕ) (its : List Item) (b : PrintedBody body its)
    (stays : None_of is_stray (sheet_shown body its)) (deep : None_of (λ s. opens s.kind && suc s.level == MAX_DEPTH) (sheet_shown body its))
    (text : List ℕ) (are : text ≡ kept (map (solid source) xs) ++ (open_curly ∷ (behind_mark (flat_map (printed_item body) its) ++ close_curly ∷ []))) (short : length text ≤ max_bytes) where
  abbrev head : List Shown
  head = kept_shown source xs

  abbrev o : Shown
  o = open_shown (flat_map (printed_item body) its)

  abbrev within : List Shown
  within = map deeper (sheet_shown body its)

  abbrev c : Shown
  c = sign_shown close_curly 1

  abbrev ss : List Shown
  ss = head ++ o ∷ (within ++ c ∷ [])

  abbrev is_deep : Shown → Bool
  is_deep s = opens s.kind && s.level == MAX_DEPTH

  bt : IsBlockText text head o within c
  bt = block_text_of text head o within c (are ∙ sym (block_spells source xs h body its b)) (block_lexed source xs h body its b) (block_chain source xs h body its b stays) (block_utf8 source xs h body its b)
      (ap (λ (cs : List ℕ). starts_with nat_eq cs byte_order_mark) are ∙ media_first source xs (open_curly ∷ (behind_mark (flat_map (printed_item body) its) ++ close_curly ∷ [])) h.media)

  abbrev t : BlockTokens text (lexemes_of text) head o within c
  t = bt.tokens_are

  abbrev ys : List Lexeme
  ys = block_tokens t.front t.open_ t.inner t.close

  like : AllZip (IsLike text source) t.front xs
  like = item_like text source t.front xs (last_from_shown (shown text) (inner source) (last_of_item source) t.front xs t.front_as) h.closable

  media_front : is_at_rule_named (codes "media") text t.front ≡ true
  media_front = at_rule_named_like (codes "media") text source t.front xs like ∙ h.media

  at_block : IsAtBlock t.front t.open_ t.inner t.close
  at_block = record {
    at_rule = at_rule_is (codes "media") text t.front media_front;
    no_end = none_as (shown text) (λ s. (is_sign_of open_curly s.kind && s.level == 0) || (true && (is_sign_of semicolon s.kind && s.level == 0))) t.front head t.front_as
        (none_kept (λ k level. (is_sign_of open_curly k && level == 0) || (true && (is_sign_of semicolon k && level == 0))) source xs h.no_end);
    opens = ap (λ s. is_sign_of open_curly s.kind && s.level == 0) t.open_as;
    stays = none_as (shown text) (λ s. is_sign_of close_curly s.kind && s.level == 1) t.inner within t.inner_as (stays_deeper (sheet_shown body its) stays);
    closes = ap (λ s. is_sign_of close_curly s.kind && s.level == 1) t.close_as;
  }

  deep_all : None_of is_deep ss
  deep_all = none_append is_deep head (o ∷ (within ++ c ∷ [])) (none_kept (λ k level. opens k && level == MAX_DEPTH) source xs h.shallow)
      (refl, none_append is_deep within (c ∷ []) (none_deeper is_deep (sheet_shown body its) deep) (refl, tt))

  media_block : is_at_rule_named (codes "media") text ys ≡ true
  media_block = front_names (codes "media") text t.front t.open_ t.inner t.close at_block.at_rule ∙ media_front

  one : IsOneItem text ys
  one = record {
    short = short;
    utf8 = bt.utf8;
    clean = bt.clean;
    closed = bt.closed;
    shallow = none_as (shown text) is_deep (lexemes_of text) ss bt.shown_as deep_all;
    raw = ap (λ (zs : List Lexeme). filter is_whole (items zs)) t.are ∙ block_items t.front t.open_ t.inner t.close at_block;
    at_rule = is_at_rule_block t.front t.open_ t.inner t.close at_block.at_rule;
    no_namespace = other_rule 110 (codes "amespace") refl text ys media_block;
  }

  size : length text ≡ length (shown_text head) + 1 + gap_size o + length (shown_text within) + 1
  size = ap length bt.spells ∙ block_size head o within c refl

  piece : piece_of ys ≡ whole_piece text
  piece =
      let end : t.close.span.«end» ≡ length (shown_text head) + 1 + gap_size o + length (shown_text within) + 1 = ap (λ (p : Piece). p.«end») bt.places.closes in
      bt.places.whole ∙ ap (λ (n : ℕ). record { start = 0; «end» = n }) (end ∙ sym size)

  tokens_whole : tokens_in text (whole_piece text) ≡ ys
  tokens_whole =
      ap (tokens_in text) (sym piece) ∙ ap (λ (zs : List Lexeme). tokens_in text (piece_of zs)) (sym t.are)
      ∙ stand_alone_in text bt.ground.good (lexemes_of text) (stands_whole (lexemes_of text)) ∙ t.are

  bare : EndsBare ss
  bare = subst EndsBare (append_assoc head (o ∷ within) (c ∷ [])) (bare_last (head ++ o ∷ within) c refl)

  whole_block : IsWholeBlock text
  whole_block = record {
    reads = reads_one text ys one ∙ ap (λ p. Ok (KeptBlock p ∷ [])) piece;
    kept = ap (λ (zs : List Lexeme). kept (map (solid text) zs)) (tokens_whole ∙ sym t.are) ∙ kept_as text (lexemes_of text) ss bt.shown_as bt.spelled bare ∙ sym bt.spells;
    has_block = ap (list_any opens_block) tokens_whole ∙ block_opens t.front t.open_ t.inner t.close at_block.opens;
    no_import = ap (is_import text) tokens_whole ∙ other_rule 105 (codes "mport") refl text ys media_block;
  }

  none_open : (zs : List Lexeme) → None_of (ends_prelude true) zs → None_of opens_block zs
  none_open [] none = tt
  none_open (z ∷ zs) (here, none) = ((or_parts (opens_block z) _ here).0, none_open zs none)

  -- what stands before its block
  head_tokens : before_first opens_block ys ≡ t.front
  head_tokens = before_at opens_block t.front t.open_ (t.inner ++ t.close ∷ []) (none_open t.front at_block.no_end) at_block.opens

  head_stands : StandsIn (lexemes_of text) t.front
  head_stands = record { front = []; behind = t.open_ ∷ (t.inner ++ t.close ∷ []); is = t.are }

  head_text : kept_text text (piece_of (before_first opens_block ys)) ≡ kept (map (solid source) xs)
  head_text =
      ap (λ (zs : List Lexeme). kept_text text (piece_of zs)) head_tokens
      ∙ ap (λ (zs : List Lexeme). kept (map (solid text) zs)) (stand_alone_in text bt.ground.good t.front head_stands)
      ∙ kept_as text t.front head t.front_as (each_front IsSpelled head (o ∷ (within ++ c ∷ [])) bt.spelled) (kept_bare source xs)
      ∙ kept-text source xs h.read.lone

  -- what stands inside its brackets
  body_piece : body_of ys ≡ record { start = t.open_.span.«end»; «end» = t.close.span.start }
  body_piece = body_is t.front t.open_ t.inner t.close [] (none_open t.front at_block.no_end) at_block.opens at_block.stays at_block.closes

  abbrev printed_text : List ℕ
  printed_text = behind_mark (flat_map (printed_item body) its)

  -- the text up to and with the `{`
  abbrev opened_text : List ℕ
  opened_text = kept (map (solid source) xs) ++ open_curly ∷ []

  text_parts : text ≡ opened_text ++ (printed_text ++ close_curly ∷ [])
  text_parts = are ∙ sym (append_assoc (kept (map (solid source) xs)) (open_curly ∷ []) (printed_text ++ close_curly ∷ []))

  opened_size : length opened_text ≡ length (shown_text head) + 1
  opened_size = length-append (kept (map (solid source) xs)) (open_curly ∷ []) ∙ ap (λ (cs : List ℕ). length cs + 1) (sym (kept-text source xs h.read.lone))

  text_size : length text ≡ length opened_text + (length printed_text + 1)
  text_size =
      ap length text_parts ∙ length-append opened_text (printed_text ++ close_curly ∷ [])
      ∙ ap (λ (n : ℕ). length opened_text + n) (length-append printed_text (close_curly ∷ []))

  body_starts : t.open_.span.«end» ≡ length opened_text
  body_starts = ap (λ (p : Piece). p.«end») bt.places.opens ∙ sym opened_size

  body_ends : t.close.span.start ≡ length opened_text + length printed_text
  body_ends = ap (λ (p : Piece). p.start) bt.places.closes ∙ omega (arith, opened_size, text_size, size)

  body_text : text_at text (body_of ys) ≡ printed_text
  body_text =
      ap (text_at text) (body_piece ∙ ap₂ (λ (n k : ℕ). record { start = n; «end» = k }) body_starts body_ends)
      ∙ ap (λ (cs : List ℕ). text_at cs (record { start = length opened_text; «end» = length opened_text + length printed_text })) text_parts
      ∙ text-between opened_text printed_text (close_curly ∷ [])

  pub media_text : IsMediaText text (kept (map (solid source) xs)) (behind_mark (flat_map (printed_item body) its))
  media_text = record {
    whole = whole_block;
    media = ap (is_media text) tokens_whole ∙ ap₂ (λ (a b : Bool). a && b) media_block (block_opens t.front t.open_ t.inner t.close at_block.opens);
    same_head = ap (λ (zs : List Lexeme). kept_text text (head_of zs)) tokens_whole ∙ head_text;
    same_body = ap (λ (zs : List Lexeme). text_at text (body_of zs)) tokens_whole ∙ body_text;
  }
