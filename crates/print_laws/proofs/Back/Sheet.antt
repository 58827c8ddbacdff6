-- The printed text of items, each of its own source, is read back as these items.
use Rattle.std.proofs.Common.{◌≡◌, ℕ, ◌+◌, ◌≤◌, nat_eq, nat_lt, Bool, true, false, cond, List, [], ◌∷◌, length, Option, Some, None, Ok, Err, refl, sym, ap, subst, arith}
use Rattle.std.specs.Prelude.{◌&&◌}
use Rattle.std.specs.List.{AllByRecursion, flat_map, last_or, starts_with}
use Rattle.std.specs.Option.{option_map}
use Rattle.std.specs.Str.{IsUtf8}
use Rattle.std.specs.Str.Lossy.{utf8_valid_len}
use Rattle.std.proofs.lemmas.Bool.{false≢true, and_parts, eqb-true, ltb-true, ltb-false}
use Rattle.std.proofs.lemmas.Str.{IsUtf8-append, utf8_valid_len-IsUtf8, utf8_valid_len_le}
use Rattle.css_model.specs.declared.fault.FaultKind.TheVariants.{TooLong, NotUtf8}
use Rattle.css_model.specs.declared.limits.TheConstants.{MAX_BYTES, MAX_PAIRS}
use Rattle.css_model.specs.declared.sheet.Item.{Item}
use Rattle.css_model.specs.declared.sheet.Item.TheVariants.{Rule, KeptRule, KeptBlock}
use Rattle.css_model.specs.declared.token.Lexeme.{Lexeme}
use Rattle.css_model.specs.declared.token.TokenFault.{TokenFault}
use Rattle.css_model.specs.declared.token.TokenKind.{TokenKind}
use Rattle.css_model.specs.declared.token.TokenKind.TheVariants as kind
use Rattle.css_model.specs.Text.Characters.{close_curly, semicolon, space}
use Rattle.css_model.specs.Sheets.Items.{closes_block, opens_block}
use Rattle.css_model.specs.Text.Lexemes.{is_sign_at, is_sign_of}
use Rattle.css_model.specs.Sheets.Printed.{behind_mark}
use Rattle.css_model.specs.Sheets.Sheet.{namespace_at, pairs_of, read_items, sheet_of, sheet_of_stream, sheet_of_tokens, start_of, too_deep, too_many_items, too_many_pairs, unclosed}
use Rattle.css_model.specs.Sheets.Sound.{raw_items}
use Rattle.css_model.specs.Sheets.Spelling.{lexemes_of, tokens_in}
use Rattle.css_model.specs.Text.Tokens.{byte_order_mark, text_of, tokens}
use Rattle.css_tokens.proofs.ForCallers.{whole_is_utf8}
use Rattle.css_model.specs.Sheets.ComesFrom.{pair_count}
use Rattle.css_model.specs.Sheets.Limits.{max_bytes}
use Rattle.sheet_laws.specs.Sourced.{SourcedItem, items_of, printed_sourced, sourced_text}
use Rattle.sheet_laws.proofs.ForCallers.{AreSourcedInOrder, DoFit, HasNoFault, IsFrom, IsPrintOf, IsSameSheet, IsShallow, ends_in, ends_itself, ends_with_block, is_ended, is_nil, item_shown, places_in_order, sheet_reads_back, sourced_shown, tested}
use Rattle.print_laws.proofs.Tokens.Chain.{chain-shown, parts_of}
use Rattle.print_laws.proofs.Source.Items.{Ground, ground, sheet-bytes}
use Rattle.print_laws.proofs.Tokens.Lexed.{AreReadSourced, HasParts, IsEndedBySign, IsEndedItem, sourced-lexed}
use Rattle.print_laws.proofs.Back.Tokens.{printed-places, printed-tokens}
use Rattle.print_laws.proofs.Levels.Sheet.{IsFlatItem, sourced-chain}
use Rattle.print_laws.proofs.Back.Items.{SoundItem}
use Rattle.print_laws.proofs.Source.Tokens.{kept-is-lexed}
use Rattle.print_laws.proofs.Tokens.Places.{ArePlaced}
use Rattle.print_laws.proofs.Tokens.Texts.{IsTextOfItem, sourced-text}
use Rattle.print_laws.proofs.Tokens.Utf8.{each-append, one-space, shown-utf8}

-- a source that is read without a fault
pub record Clean (source : List ℕ) (its : List Item) : Type 0 where
  pub utf8 : IsUtf8 source
  pub clean : (tokens source true).fault ≡ None
  pub reads : sheet_of_tokens source (tokens source true).tokens ≡ Ok its

pub clean-of : (source : List ℕ) (its : List Item) → sheet_of source ≡ Ok its → Clean source its
clean-of source its e = which (nat_lt MAX_BYTES (length source)) (nat_lt (utf8_valid_len source) (length source)) refl (tokens source true).fault refl e
  where
    which : (long wrong : Bool) → nat_lt (utf8_valid_len source) (length source) ≡ wrong → (f : Option TokenFault) → (tokens source true).fault ≡ f
        → cond long (Err (record { kind = TooLong; at = MAX_BYTES })) (cond wrong (Err (record { kind = NotUtf8; at = utf8_valid_len source })) (sheet_of_stream source f (tokens source true).tokens)) ≡ Ok its
        → Clean source its
    which true wrong is f fault e = absurd cc
    which false true is f fault e = absurd cc
    which false false is (Some f) fault e = absurd cc
    which false false is None fault e =
        let le = utf8_valid_len_le source in
        let ge = ltb-false (utf8_valid_len source) (length source) is in
        record { utf8 = whole_is_utf8 source (let same : utf8_valid_len source ≡ length source = omega (arith, le, ge) in same); clean = fault; reads = e }

-- it has none of the faults that are tested over the whole of it
abbrev pub Tested : List ℕ → List Item → Type 0
Tested source its =
    HasNoFault (too_deep (lexemes_of source)) (unclosed (tokens source true).tokens) (namespace_at source (raw_items source))
    (too_many_items (read_items source (raw_items source))) (too_many_pairs 0 (read_items source (raw_items source))) (read_items source (raw_items source)) its

pub tested-of : (source : List ℕ) (its : List Item) → Clean source its → Tested source its
tested-of source its c =
    tested (too_deep (lexemes_of source)) (unclosed (tokens source true).tokens) (namespace_at source (raw_items source))
    (too_many_items (read_items source (raw_items source))) (too_many_pairs 0 (read_items source (raw_items source))) (read_items source (raw_items source)) its c.reads

pub ground-of : (source : List ℕ) (its : List Item) → sheet_of source ≡ Ok its → Ground source
ground-of source its e =
    let c = clean-of source its e in
    ground source c.clean c.utf8 (tested-of source its c).no_unclosed

-- an item that ends by itself ends with a sign
sign-first : (b level : ℕ) (x : Lexeme) → is_sign_at b level x ≡ true → x.kind ≡ kind.Sign b
sign-first b level x is = at x.kind (and_parts (is_sign_of b x.kind) _ is).0
  where
    at : (k : TokenKind) → is_sign_of b k ≡ true → k ≡ kind.Sign b
    at (kind.Sign c) is = ap kind.Sign (eqb-true c b is)
    at _ is = absurd (false≢true is)

nil-is : (xs : List Lexeme) → is_nil xs ≡ true → xs ≡ []
nil-is [] e = refl
nil-is (x ∷ xs) e = absurd (false≢true e)

more-ended : (x : Lexeme) (xs : List Lexeme) → IsEndedBySign xs → IsEndedBySign (x ∷ xs)
more-ended x xs e = record { front = x ∷ e.front; last = e.last; sign = e.sign; are = ap (λ (ys : List Lexeme). x ∷ ys) e.are; is_sign = e.is_sign }

last-ended : (x : Lexeme) (xs : List Lexeme) (b : ℕ) → x.kind ≡ kind.Sign b → xs ≡ [] → IsEndedBySign (x ∷ xs)
last-ended x xs b is none = record { front = []; last = x; sign = b; are = ap (λ (ys : List Lexeme). x ∷ ys) none; is_sign = is }

block-ended : (xs : List Lexeme) → ends_with_block xs ≡ true → IsEndedBySign xs
block-ended [] e = absurd (false≢true e)
block-ended (x ∷ xs) e = which (closes_block x) refl e (λ h. block-ended xs h)
  where
    which : (b : Bool) → closes_block x ≡ b → cond b (is_nil xs) (ends_with_block xs) ≡ true → (ends_with_block xs ≡ true → IsEndedBySign xs) → IsEndedBySign (x ∷ xs)
    which true is h later = last-ended x xs close_curly (sign-first close_curly 1 x is) (nil-is xs h)
    which false is h later = more-ended x xs (later h)

pub item-ended : (a : Bool) (xs : List Lexeme) → ends_in a xs ≡ true → IsEndedBySign xs
item-ended a [] e = absurd (false≢true e)
item-ended a (x ∷ xs) e = which (opens_block x) (a && is_sign_at semicolon 0 x) refl e (λ h. item-ended a xs h)
  where
    which : (b c : Bool) → (a && is_sign_at semicolon 0 x) ≡ c → cond b (ends_with_block xs) (cond c (is_nil xs) (ends_in a xs)) ≡ true → (ends_in a xs ≡ true → IsEndedBySign xs) → IsEndedBySign (x ∷ xs)
    which true c is h later = more-ended x xs (block-ended xs h)
    which false true is h later = last-ended x xs semicolon (sign-first semicolon 0 x (and_parts a (is_sign_at semicolon 0 x) is).1) (nil-is xs h)
    which false false is h later = more-ended x xs (later h)

pub whole-ended : (xs : List Lexeme) → is_ended xs ≡ true → IsEndedBySign xs
whole-ended [] e = absurd (false≢true e)
whole-ended (x ∷ xs) e = item-ended _ (x ∷ xs) e

pub ended-of : (source : List ℕ) (item : Item) → ends_itself source item ≡ true → IsEndedItem source item
ended-of source (Rule r) e = tt
ended-of source (KeptRule k) e = whole-ended (tokens_in source k.piece) e
ended-of source (KeptBlock piece) e = whole-ended (tokens_in source piece) e

-- the items of sheets, each of its own source
abbrev pub AreSound : List SourcedItem → Type 0
AreSound xs = AllByRecursion (λ x. SoundItem x.source x.item) xs

pub read-all : (xs : List SourcedItem) → AreSourcedInOrder xs → AreSound xs → AreReadSourced xs
read-all [] order each = tt
read-all (x ∷ []) order (one, rest) = one.read
read-all (x ∷ next ∷ xs) (before, ended, order) (one, rest) = (one.read, ended-of x.source x.item ended, read-all (next ∷ xs) order rest)

pub each-is : {A : Type 0} (P Q : A → Type 0) (xs : List A) → ((x : A) → P x → Q x) → AllByRecursion P xs → AllByRecursion Q xs
each-is P Q [] f each = tt
each-is P Q (x ∷ xs) f (one, rest) = (f x one, each-is P Q xs f rest)

-- few pairs are not too many
pub pairs-fit : (n : ℕ) (items : List Item) → n + pair_count items ≤ MAX_PAIRS → too_many_pairs n items ≡ None
pairs-fit n [] fit = refl
pairs-fit n (item ∷ items) fit = which (nat_lt MAX_PAIRS (n + pairs_of item)) refl (pairs-fit (n + pairs_of item) items (omega (arith, fit)))
  where
    which : (b : Bool) → nat_lt MAX_PAIRS (n + pairs_of item) ≡ b → too_many_pairs (n + pairs_of item) items ≡ None
        → cond b (Some (start_of item)) (too_many_pairs (n + pairs_of item) items) ≡ None
    which true is later = absurd (let h = ltb-true MAX_PAIRS (n + pairs_of item) is in omega (arith, h, fit))
    which false is later = later

pub marked-utf8 : (text : List ℕ) → IsUtf8 text → IsUtf8 (behind_mark text)
marked-utf8 text utf8 = which (starts_with nat_eq text byte_order_mark)
  where
    which : (b : Bool) → IsUtf8 (cond b (space ∷ text) text)
    which true = IsUtf8-append (space ∷ []) text one-space utf8
    which false = utf8

pub items-utf8 : (xs : List SourcedItem) → AreSound xs → AllByRecursion (λ s. IsUtf8 s.bytes) (sourced_shown xs)
items-utf8 [] each = tt
items-utf8 (x ∷ xs) (one, rest) = each-append (λ s. IsUtf8 s.bytes) (item_shown x.source x.item) (sourced_shown xs) one.utf8 (items-utf8 xs rest)

-- an item of a source that is read, which is not too deep
pub record IsReady (x : SourcedItem) : Type 0 where
  pub ground : Ground x.source
  pub sound : SoundItem x.source x.item
  pub shallow : IsShallow x

-- what the printed text of items is read as, and where their tokens stand in it
pub record IsBack (xs : List SourcedItem) : Type 0 where
  pub sheet : IsSameSheet (printed_sourced xs) xs
  pub placed : ArePlaced (printed_sourced xs) (sourced_shown xs)

-- The printed text of items, each of its own source, is read back.
pub sourced-back : (xs : List SourcedItem) → AllByRecursion IsReady xs → AreSourcedInOrder xs → DoFit (items_of xs) → length (printed_sourced xs) ≤ max_bytes → IsBack xs
sourced-back xs ready order fit short =
    let each : AreSound xs = each-is IsReady (λ x. SoundItem x.source x.item) xs (λ x h. h.sound) ready in
    let spelled : AllByRecursion HasParts xs = each-is IsReady HasParts xs (λ x h. (h.ground.parts.ps, record { lexed = h.ground.parts.lexed; solids = h.ground.parts.spelled })) ready in
    let shown_ = sourced_shown xs in
    let ps = parts_of shown_ in
    let text = flat_map sourced_text xs in
    let lexed = sourced-lexed kept-is-lexed xs spelled (read-all xs order each) in
    let spells : text ≡ text_of ps = sym (sourced-text xs (each-is (λ x. SoundItem x.source x.item) (λ x. IsTextOfItem x.source x.item) xs (λ x h. h.text) each)) in
    let chain = sourced-chain xs (each-is (λ x. SoundItem x.source x.item) (λ x. IsFlatItem x.source x.item) xs (λ x h. h.flat) each) in
    let has = printed-tokens ps shown_ text spells lexed (chain-shown [] shown_ chain.chain) chain in
    let utf8 : IsUtf8 (printed_sourced xs) = marked-utf8 text (subst IsUtf8 (sym spells) (shown-utf8 shown_ (items-utf8 xs each))) in
    let print : IsPrintOf (printed_sourced xs) xs = record {
      short = short;
      valid = (let same = utf8_valid_len-IsUtf8 (printed_sourced xs) utf8 in omega (arith, same));
      clean = has.clean;
      closed = ap (λ bs. option_map (λ b. b.at) (last_or None bs)) has.open_none;
      ascending = (places_in_order (printed_sourced xs) (sheet-bytes (printed_sourced xs) has.clean)).0;
      shown_as = has.shown_as;
    } in
    record {
      sheet = sheet_reads_back (printed_sourced xs) xs (each-is (λ x. SoundItem x.source x.item) (λ x. IsFrom x.source x.item) xs (λ x h. h.from) each) order fit (each-is IsReady IsShallow xs (λ x h. h.shallow) ready) print;
      placed = printed-places shown_ text spells lexed chain;
    }
