-- The printed text of a sheet as read, with its blocks opened, is no longer than its source.
use Rattle.std.proofs.Common.{◌≡◌, inl, inr, ℕ, zero, suc, ◌+◌, ◌-◌, ◌<◌, ◌≤◌, ◌==◌, Bool, true, false, cond, List, [], ◌∷◌, ◌++◌, map, length, drop, take, Option, Some, None, Result, Ok, Err, refl, sym, ◌∙◌, ap, subst, arith}
use Rattle.std.specs.Prelude.{⊤, ◌&&◌, ◌||◌, if◌then◌else◌, codes}
use Rattle.std.specs.List.{AllByRecursion, before_first, cons_option, filter, list_any}
use Rattle.std.specs.Option.{option_map}
use Rattle.std.proofs.lemmas.Bool.{and_parts, false≢true, ne_eqb, eq-eqb}
use Rattle.std.proofs.lemmas.List.{length-append, take-append-drop}
use Rattle.css_model.specs.declared.reason.Reason.{Reason}
use Rattle.css_model.specs.declared.sheet.DeclItem.{DeclItem}
use Rattle.css_model.specs.declared.sheet.Item.{Item}
use Rattle.css_model.specs.declared.sheet.Item.TheVariants.{Rule, KeptRule, KeptBlock}
use Rattle.css_model.specs.declared.sheet.Piece.{Piece}
use Rattle.css_model.specs.declared.sheet.SelItem.{SelItem}
use Rattle.css_model.specs.declared.token.Lexeme.{Lexeme}
use Rattle.css_model.specs.declared.token.TokenKind.{TokenKind}
use Rattle.css_model.specs.declared.token.TokenKind.TheVariants as kind
use Rattle.css_model.specs.Lists.{less_one}
use Rattle.css_model.specs.Sheets.Declarations.{declarations}
use Rattle.css_model.specs.Sheets.Items.{closes_block, is_at_keyword, is_at_rule, is_between_items, is_whole, item_len, items_from, opens_block}
use Rattle.css_model.specs.Sheets.Printed.{printed, printed_item}
use Rattle.css_model.specs.Sheets.Selectors.{selectors}
use Rattle.css_model.specs.Sheets.Sheet.{is_at_rule_named, is_import, item_of, read_items, rule_or_block}
use Rattle.css_model.specs.Sheets.SheetParts.{SheetParts}
use Rattle.css_model.specs.Sheets.Sound.{raw_items}
use Rattle.css_model.specs.Sheets.Spelling.{kept_text, lexemes_of, tokens_in}
use Rattle.css_model.specs.Text.Characters.{close_curly, open_curly, semicolon}
use Rattle.css_model.specs.Text.Lexemes.{is_sign_at, is_sign_of, piece_of}
use Rattle.css_model.specs.Text.Source.{text_at}
use Rattle.list_facts.proofs.Cuts.{before_here, before_later}
use Rattle.list_facts.proofs.Elements.{all_with}
use Rattle.sheet_laws.proofs.ForCallers.{IsRawItem, StandsIn, ends_in, ends_with_block, is_nil, stands_inside, stands_taken}
use Rattle.media_groups.specs.declared.media.Media.{Media}
use Rattle.media_groups.specs.Opened.{body_end, body_of, head_of, is_import_item, is_media, media_of, opened_from, opened_item, opened_of, sheet_of_body}
use Rattle.media_groups.specs.Printed.{begins_at, block_text, blocks_at, next_text, printed_opened, texts_with}
use Rattle.print_laws.proofs.ForCallers.{AreFilled, AreRaw, BeginsAs, BeginsWith, Fills, Fits, HasFilling, begins_more, cost, fits_split, fits_weights, has-filling}
use Rattle.opened_laws.specs.Media.Bodies.{BodiesAreNoLonger}
use Rattle.opened_laws.specs.Media.Lengths.{OpenedIsNoLonger}

passes : (source : List ℕ) (from : ℕ) (xs : List Lexeme) (to : ℕ) → Fits source from xs to → from ≤ to
passes source from xs to fits = omega (arith, fits_weights source from xs to fits)

-- ---- A rule with a block, cut where this opens

-- tokens before the first one that opens a block, this one, and those behind it, among which the block closes
record IsCut (xs : List Lexeme) : Type 0 where
  opening : Lexeme
  behind : List Lexeme
  are : xs ≡ before_first opens_block xs ++ opening ∷ behind
  opens : opens_block opening ≡ true
  body : body_of xs ≡ record { start = opening.span.«end»; «end» = body_end opening.span.«end» behind }
  closes : list_any closes_block behind ≡ true

block_closes : (xs : List Lexeme) → ends_with_block xs ≡ true → list_any closes_block xs ≡ true
block_closes [] ended = absurd (false≢true ended)
block_closes (x ∷ xs) ended = which (closes_block x) ended (block_closes xs)
  where
    which : (b : Bool) → (if b then is_nil xs else ends_with_block xs) ≡ true → (ends_with_block xs ≡ true → list_any closes_block xs ≡ true) → (b || list_any closes_block xs) ≡ true
    which true ended later = refl
    which false ended later = later ended

none_of_nil : (xs : List Lexeme) → is_nil xs ≡ true → list_any opens_block xs ≡ false
none_of_nil [] nil = refl
none_of_nil (x ∷ xs) nil = absurd (false≢true nil)

cut_block : (a : Bool) (xs : List Lexeme) → list_any opens_block xs ≡ true → ends_in a xs ≡ true → IsCut xs
cut_block a [] some ended = absurd (false≢true some)
cut_block a (x ∷ xs) some ended = which (opens_block x) refl some (a && is_sign_at semicolon 0 x) ended (cut_block a xs)
  where
    which : (o : Bool) → opens_block x ≡ o → (o || list_any opens_block xs) ≡ true → (s : Bool) → (if o then ends_with_block xs else if s then is_nil xs else ends_in a xs) ≡ true
        → (list_any opens_block xs ≡ true → ends_in a xs ≡ true → IsCut xs) → IsCut (x ∷ xs)
    which true is some s ended later = record {
      opening = x;
      behind = xs;
      are = ap (λ (ys : List Lexeme). ys ++ x ∷ xs) (sym (before_here opens_block x xs is));
      opens = is;
      body = ap (λ (b : Bool). if b then record { start = x.span.«end»; «end» = body_end x.span.«end» xs } else body_of xs) is;
      closes = block_closes xs ended;
    }
    which false is some true ended later = absurd (false≢true (sym (none_of_nil xs ended) ∙ some))
    which false is some false ended later =
        let c = later some ended in
        record {
          opening = c.opening;
          behind = c.behind;
          are = ap (λ (ys : List Lexeme). x ∷ ys) c.are ∙ ap (λ (ys : List Lexeme). ys ++ c.opening ∷ c.behind) (sym (before_later opens_block x xs is));
          opens = c.opens;
          body = ap (λ (b : Bool). if b then record { start = x.span.«end»; «end» = body_end x.span.«end» xs } else body_of xs) is ∙ c.body;
          closes = c.closes;
        }

-- the place where a block closes has room for its sign
close_room : (source : List ℕ) (xs : List Lexeme) (at from to : ℕ) → at ≤ from → list_any closes_block xs ≡ true → Fits source from xs to → (at ≤ body_end at xs) × (suc (body_end at xs) ≤ to)
close_room source [] at from to le some fits = absurd (false≢true some)
close_room source (x ∷ xs) at from to le some (low, long, fits) =
    which (closes_block x) some (λ some. close_room source xs x.span.«end» (x.span.«end» + cost source x) to (omega arith) some fits)
  where
    which : (b : Bool) → (b || list_any closes_block xs) ≡ true
        → (list_any closes_block xs ≡ true → (x.span.«end» ≤ body_end x.span.«end» xs) × (suc (body_end x.span.«end» xs) ≤ to))
        → (at ≤ (if b then x.span.start else body_end x.span.«end» xs)) × (suc (if b then x.span.start else body_end x.span.«end» xs) ≤ to)
    which true some later = (omega (arith, le, low), omega (arith, long, passes source (x.span.«end» + cost source x) xs to fits))
    which false some later = let l = later some in (omega (arith, le, low, long, l.0), l.1)

take_short : {A : Type 0} (n : ℕ) (xs : List A) → length (take n xs) ≤ n
take_short zero xs = omega arith
take_short (suc n) [] = omega arith
take_short (suc n) (x ∷ xs) = omega (arith, take_short n xs)

-- ---- The text of an opened block

no_opening : (k : TokenKind) → is_at_keyword k ≡ true → is_sign_of open_curly k ≡ false
no_opening kind.AtKeyword is = refl
no_opening _ is = absurd (false≢true is)

at_rule_opens : (source : List ℕ) (x : Lexeme) (xs : List Lexeme) → is_at_rule_named (codes "media") source (x ∷ xs) ≡ true → opens_block x ≡ false
at_rule_opens source x xs is = ap (λ (b : Bool). b && x.level == 0) (no_opening x.kind (and_parts (is_at_keyword x.kind) _ is).0)

-- a body's printed text is no longer than the body
abbrev HasShortBody : List ℕ → Media → Type 0
HasShortBody source m = length (printed (text_at source m.body) m.sheet.items) ≤ length (text_at source m.body)

module _ (source : List ℕ) (old : List Item) (f : HasFilling source old) where
  -- an opened block has room where its tokens have it
  block_fills : (item : List Lexeme) → IsRawItem (lexemes_of source) item → is_media source item ≡ true → (m : Media) → m.head ≡ head_of item → m.body ≡ body_of item → HasShortBody source m
      → Fills source item (block_text source m m.sheet)
  block_fills [] raw is m head body short = absurd (false≢true is)
  block_fills (x ∷ xs) raw is m head body short = record { size = size; begins = begins }
    where
      item : List Lexeme
      item = x ∷ xs

      both : (is_at_rule_named (codes "media") source item ≡ true) × (list_any opens_block item ≡ true)
      both = and_parts (is_at_rule_named (codes "media") source item) (list_any opens_block item) is

      front : List Lexeme
      front = before_first opens_block item

      kept : List ℕ
      kept = kept_text source m.head

      inside : List ℕ
      inside = printed (text_at source m.body) m.sheet.items

      c : IsCut item
      c = cut_block (is_at_keyword x.kind) item both.1 (raw.is_item.with_block both.1)

      stands : StandsIn (lexemes_of source) front
      stands = stands_inside (lexemes_of source) item front raw.is_item.stands (stands_taken _ item)

      head_fills : Fills source front kept
      head_fills = subst (λ (p : Piece). Fills source front (kept_text source p)) (sym head) (f.kept front stands)

      size : (from to : ℕ) → Fits source from item to → from + length (block_text source m m.sheet) ≤ to
      size from to fits =
          let cut = fits_split source from front (c.opening ∷ c.behind) to (subst (λ (ys : List Lexeme). Fits source from ys to) c.are fits) in
          let after = c.opening.span.«end» + cost source c.opening in
          let room = close_room source c.behind c.opening.span.«end» after to (omega arith) c.closes cut.2.2 in
          let body_is : m.body ≡ record { start = c.opening.span.«end»; «end» = body_end c.opening.span.«end» c.behind } = body ∙ c.body in
          let whole : length (block_text source m m.sheet) ≡ length kept + suc (length inside) + 1 =
          length-append (kept ++ open_curly ∷ inside) (close_curly ∷ []) ∙ ap (λ (n : ℕ). n + 1) (length-append kept (open_curly ∷ inside)) in
          let body_size : length (text_at source m.body) ≤ body_end c.opening.span.«end» c.behind - c.opening.span.«end» =
          subst (λ (p : Piece). length (text_at source p) ≤ body_end c.opening.span.«end» c.behind - c.opening.span.«end») (sym body_is)
          (take_short (body_end c.opening.span.«end» c.behind - c.opening.span.«end») (drop c.opening.span.«end» source)) in
          omega (arith, whole, short, body_size, room.0, room.1, head_fills.size from cut.0 cut.1, cut.2.0, cut.2.1)

      no_open : opens_block x ≡ false
      no_open = at_rule_opens source x xs both.0

      begins : BeginsWith source x (block_text source m m.sheet)
      begins = begins_more source x (kept ++ open_curly ∷ inside) (close_curly ∷ [])
          (begins_more source x kept (open_curly ∷ inside) (subst (λ (ys : List Lexeme). BeginsAs source ys kept) (before_later opens_block x xs no_open) head_fills.begins))

-- ---- Where blocks begin

-- items each of which begins behind the place where the one before it does
abbrev AreRising : ℕ → List (List Lexeme) → Type 0
AreRising at [] = ⊤
AreRising at (item ∷ raw) = (at ≤ (piece_of item).start) × AreRising (suc (piece_of item).start) raw

rising_lower : (low at : ℕ) (raw : List (List Lexeme)) → low ≤ at → AreRising at raw → AreRising low raw
rising_lower low at [] le up = tt
rising_lower low at (item ∷ raw) le (first, up) = (omega (arith, le, first), up)

-- those of tokens in order are
rising : (source : List ℕ) (left : ℕ) (xs : List Lexeme) (from to : ℕ) → Fits source from (drop left xs) to → AreRising from (filter is_whole (items_from left xs))
rising source left [] from to fits = tt
rising source (suc left) (x ∷ xs) from to fits = rising source left xs from to fits
rising source zero (x ∷ xs) from to (low, some, fits) = which (is_between_items x.kind) (item_len (x ∷ xs)) (λ left from fits. rising source left xs from to fits)
  where
    after : ℕ
    after = x.span.«end» + cost source x

    later_rising : (m : ℕ) → ((left from : ℕ) → Fits source from (drop left xs) to → AreRising from (filter is_whole (items_from left xs))) → AreRising (suc x.span.start) (filter is_whole (items_from m xs))
    later_rising m later =
        let cut = fits_split source after (take m xs) (drop m xs) to (subst (λ (ys : List Lexeme). Fits source after ys to) (sym (take-append-drop m xs)) fits) in
        rising_lower (suc x.span.start) cut.0 (filter is_whole (items_from m xs)) (omega (arith, some, passes source after (take m xs) cut.0 cut.1)) (later m cut.0 cut.2)

    kept : (m : ℕ) (b : Bool) → AreRising (suc x.span.start) (filter is_whole (items_from m xs))
        → AreRising from (if b then (x ∷ take m xs) ∷ filter is_whole (items_from m xs) else filter is_whole (items_from m xs))
    kept m true later = (low, later)
    kept m false later = rising_lower from (suc x.span.start) (filter is_whole (items_from m xs)) (omega (arith, low)) later

    which : (b : Bool) (n : ℕ) → ((left from : ℕ) → Fits source from (drop left xs) to → AreRising from (filter is_whole (items_from left xs)))
        → AreRising from (filter is_whole (if b then items_from 0 xs else take n (x ∷ xs) ∷ items_from (less_one n) xs))
    which true n later = rising_lower from (suc x.span.start) (filter is_whole (items_from 0 xs)) (omega (arith, low)) (later_rising 0 later)
    which false zero later = rising_lower from (suc x.span.start) (filter is_whole (items_from 0 xs)) (omega (arith, low)) (later_rising 0 later)
    which false (suc m) later = kept m (is_whole (x ∷ take m xs)) (later_rising m later)

-- blocks that begin at this place or behind it
abbrev AreBehind : ℕ → List Media → Type 0
AreBehind at media = AllByRecursion (λ m. at ≤ m.head.start) media

behind_lower : (low at : ℕ) (media : List Media) → low ≤ at → AreBehind at media → AreBehind low media
behind_lower low at media le = all_with (λ (m : Media). at ≤ m.head.start) (λ (m : Media). low ≤ m.head.start) (λ m behind. omega (arith, le, behind)) media

-- the piece of a kept block that is read is that of its tokens
block_piece : (source : List ℕ) (item : List Lexeme) (b : Bool) (piece : Piece) → cond b (Some (KeptBlock (piece_of item))) (item_of source item) ≡ Some (KeptBlock piece) → piece_of item ≡ piece
block_piece source item true piece e = block_same (piece_of item) piece e
  where
    block_same : (p q : Piece) → Some (KeptBlock p) ≡ Some (KeptBlock q) → p ≡ q
    block_same p q e = cc
block_piece source item false piece e = which (is_at_rule item) (selectors source item) (declarations source item) e
  where
    block_same : (p q : Piece) → Some (KeptBlock p) ≡ Some (KeptBlock q) → p ≡ q
    block_same p q e = cc

    which : (b : Bool) (read : Result (List SelItem) Reason) (ds : Option (List DeclItem)) → cond b (Some (KeptBlock (piece_of item))) (rule_or_block (piece_of item) read ds) ≡ Some (KeptBlock piece) → piece_of item ≡ piece
    which true read ds e = block_same (piece_of item) piece e
    which false read None e = block_same (piece_of item) piece e
    which false (Err reason) (Some ds) e = absurd cc
    which false (Ok read) (Some []) e = absurd cc
    which false (Ok read) (Some (d ∷ ds)) e = absurd cc

-- an item that is opened
record IsOpened (source : List ℕ) (x : Item) (m : Media) : Type 0 where
  piece : Piece
  is : x ≡ KeptBlock piece
  is_media : is_media source (tokens_in source piece) ≡ true
  head : m.head ≡ head_of (tokens_in source piece)
  body : m.body ≡ body_of (tokens_in source piece)

opened_is : (source : List ℕ) (number : ℕ) (x : Item) (m : Media) → opened_item source number x ≡ Some m → IsOpened source x m
opened_is source number (Rule r) m e = absurd cc
opened_is source number (KeptRule k) m e = absurd cc
opened_is source number (KeptBlock piece) m e = which (is_media source xs) refl (sheet_of_body (text_at source (body_of xs))) e
  where
    xs : List Lexeme
    xs = tokens_in source piece

    which : (b : Bool) → is_media source xs ≡ b → (o : Option (List Item)) → (if b then option_map (media_of number xs) o else None) ≡ Some m → IsOpened source (KeptBlock piece) m
    which false is o e = absurd cc
    which true is None e = absurd cc
    which true is (Some items) e =
        let same : media_of number xs items ≡ m = cc in
        record { piece = piece; is = refl; is_media = is; head = ap (λ (m : Media). m.head) (sym same); body = ap (λ (m : Media). m.body) (sym same) }

-- ---- The text of items among which blocks are opened

-- the blocks' own bodies
abbrev own_bodies : List Media → List SheetParts
own_bodies media = map (λ m. m.sheet) media

-- an item before the first of the blocks is printed as it is
before_blocks : (source : List ℕ) (at : ℕ) (x : Item) (media : List Media) → ((piece : Piece) → x ≡ KeptBlock piece → piece.start < at) → AreBehind at media
    → (next_text source media (own_bodies media) x ≡ printed_item source x) × (blocks_at media x ≡ 0)
before_blocks source at x [] starts behind = (refl, refl)
before_blocks source at x (m ∷ media) starts (first, behind) =
    let other : begins_at m.head.start x ≡ false = apart x starts in
    (ap (λ (b : Bool). if b then block_text source m m.sheet else printed_item source x) other, ap (λ (b : Bool). if b then 1 else 0) other)
  where
    apart : (x : Item) → ((piece : Piece) → x ≡ KeptBlock piece → piece.start < at) → begins_at m.head.start x ≡ false
    apart (Rule r) starts = refl
    apart (KeptRule k) starts = refl
    apart (KeptBlock piece) starts = ne_eqb piece.start m.head.start (λ e. absurd (omega (arith, e, first, starts piece refl)))

-- the head of a rule begins where the rule does
head_start : (source : List ℕ) (item : List Lexeme) → is_media source item ≡ true → (head_of item).start ≡ (piece_of item).start
head_start source [] is = absurd (false≢true is)
head_start source (x ∷ xs) is = ap (λ (ys : List Lexeme). (piece_of ys).start) (before_later opens_block x xs no_open)
  where
    no_open : opens_block x ≡ false
    no_open = at_rule_opens source x xs (and_parts (is_at_rule_named (codes "media") source (x ∷ xs)) (list_any opens_block (x ∷ xs)) is).0

module _ (source : List ℕ) (old : List Item) (f : HasFilling source old) where
  -- the text of items, where the opened blocks are printed with their own bodies, has room in their tokens
  abbrev IsOpenedText : List (List Lexeme) → ℕ → ℕ → List Item → Type 0
  IsOpenedText raw at number its =
      let media = opened_from source number its in
      AllByRecursion (HasShortBody source) media → AreFilled source raw (texts_with source media (own_bodies media) its) × AreBehind at media

  opened_first : (item : List Lexeme) (rest : List (List Lexeme)) → IsRawItem (lexemes_of source) item → (at : ℕ) → at ≤ (piece_of item).start
      → ((n : ℕ) → IsOpenedText rest (suc (piece_of item).start) n (read_items source rest)) → (number : ℕ) → IsOpenedText (item ∷ rest) at number (read_items source (item ∷ rest))
  opened_first item rest first at low later number =
      let b = list_any (is_import source) rest in
      which (cond b (Some (KeptBlock (piece_of item))) (item_of source item)) (f.fills item first b) (block_piece source item b)
    where
      start : ℕ
      start = (piece_of item).start

      its : List Item
      its = read_items source rest

      lower : (media : List Media) → AreBehind (suc start) media → AreBehind at media
      lower media behind = behind_lower at (suc start) media (omega (arith, low)) behind

      by : (x : Item) → Fills source item (printed_item source x) → ((piece : Piece) → x ≡ KeptBlock piece → piece_of item ≡ piece) → (q : Option Media) → ((m : Media) → q ≡ Some m → IsOpened source x m)
          → AllByRecursion (HasShortBody source) (cons_option q (opened_from source (suc number) its))
          → AreFilled source (item ∷ rest) (texts_with source (cons_option q (opened_from source (suc number) its)) (own_bodies (cons_option q (opened_from source (suc number) its))) (x ∷ its))
          × AreBehind at (cons_option q (opened_from source (suc number) its))
      by x fills piece None opened short =
          let media = opened_from source (suc number) its in
          let l = later (suc number) short in
          let before = before_blocks source (suc start) x media (λ p is. let e : start ≡ p.start = ap (λ (p : Piece). p.start) (piece p is) in omega (arith, e)) l.1 in
          let more : ℕ → List ℕ = λ (n : ℕ). texts_with source (drop n media) (drop n (own_bodies media)) its in
          (inr (printed_item source x, more 0, ap (λ (t : List ℕ). t ++ more (blocks_at media x)) before.0 ∙ ap (λ (n : ℕ). printed_item source x ++ more n) before.1, fills, l.0), lower media l.1)
      by x fills piece (Some m) opened short =
          let media = opened_from source (suc number) its in
          let l = later (suc number) short.1 in
          let o = opened m refl in
          let tokens : tokens_in source o.piece ≡ item = ap (tokens_in source) (sym (piece o.piece o.is)) ∙ f.alone item first.is_item.stands in
          let is : is_media source item ≡ true = ap (is_media source) (sym tokens) ∙ o.is_media in
          let head : m.head ≡ head_of item = o.head ∙ ap head_of tokens in
          let at_start : m.head.start ≡ start = ap (λ (p : Piece). p.start) head ∙ head_start source item is in
          let same : o.piece.start ≡ m.head.start = ap (λ (p : Piece). p.start) (sym (piece o.piece o.is)) ∙ sym at_start in
          let begins : begins_at m.head.start x ≡ true = ap (begins_at m.head.start) o.is ∙ eq-eqb o.piece.start m.head.start same in
          let text : Bool → List ℕ = λ (b : Bool). (if b then block_text source m m.sheet else printed_item source x)
          ++ texts_with source (drop (if b then 1 else 0) (m ∷ media)) (drop (if b then 1 else 0) (own_bodies (m ∷ media))) its in
          let block : Fills source item (block_text source m m.sheet) = block_fills source old f item first is m head (o.body ∙ ap body_of tokens) short.0 in
          (inr (block_text source m m.sheet, texts_with source media (own_bodies media) its, ap text begins, block, l.0), (omega (arith, low, at_start), lower media l.1))

      which : (o : Option Item) → ((x : Item) → o ≡ Some x → Fills source item (printed_item source x)) → ((piece : Piece) → o ≡ Some (KeptBlock piece) → piece_of item ≡ piece)
          → IsOpenedText (item ∷ rest) at number (cons_option o (read_items source rest))
      which None fills piece short = let l = later number short in (inl l.0, lower (opened_from source number its) l.1)
      which (Some x) fills piece short = chosen (list_any (is_import_item source) its) short
        where
          chosen : (b : Bool) → AllByRecursion (HasShortBody source) (cons_option (if b then None else opened_item source number x) (opened_from source (suc number) its))
              → AreFilled source (item ∷ rest) (texts_with source (cons_option (if b then None else opened_item source number x) (opened_from source (suc number) its))
              (own_bodies (cons_option (if b then None else opened_item source number x) (opened_from source (suc number) its))) (x ∷ its))
              × AreBehind at (cons_option (if b then None else opened_item source number x) (opened_from source (suc number) its))
          chosen true short = by x (fills x refl) (λ p is. piece p (ap Some is)) None (λ m e. absurd cc) short
          chosen false short = by x (fills x refl) (λ p is. piece p (ap Some is)) (opened_item source number x) (opened_is source number x) short

  opened_filled : (raw : List (List Lexeme)) → AreRaw source raw → (at : ℕ) → AreRising at raw → (number : ℕ) → IsOpenedText raw at number (read_items source raw)
  opened_filled [] all at up number = λ short. (refl, tt)
  opened_filled (item ∷ rest) (first, all) at (low, up) number = opened_first item rest first at low (λ n. opened_filled rest all (suc (piece_of item).start) up n) number

pub opened_no_longer : BodiesAreNoLonger → OpenedIsNoLonger
opened_no_longer short source old e =
    let f = has-filling source old e in
    let raw = raw_items source in
    let bodies : AllByRecursion (HasShortBody source) (opened_of (read_items source raw) source) = subst (λ (its : List Item). AllByRecursion (HasShortBody source) (opened_of its source)) (sym f.same) (short source old) in
    let filled = opened_filled source old f raw f.each f.room.from (rising source 0 (lexemes_of source) f.room.from (length source) f.room.fits) 0 bodies in
    let media = opened_of (read_items source raw) source in
    subst (λ (its : List Item). length (printed_opened its source) ≤ length source) f.same (f.no_longer (texts_with source media (own_bodies media) (read_items source raw)) filled.0)
