-- The printed text of a sheet as read is no longer than its source.
use Rattle.std.proofs.Common.{ℕ, suc, ◌<◌, ◌≤◌, ◌≡◌, ◌⊎◌, inl, inr, Bool, true, false, cond, List, [], ◌∷◌, Option, Some, None, Ok, Err, length, map, drop, refl, sym, subst, arith}
use Rattle.std.specs.Prelude.{nat_eq, nat_lt}
use Rattle.std.specs.List.{AllByRecursion, cons_option, flat_map, list_any, starts_with}
use Rattle.std.specs.Str.Lossy.{utf8_valid_len}
use Rattle.std.proofs.lemmas.Bool.{ltb-false}
use Rattle.css_model.specs.declared.fault.FaultKind.TheVariants.{TooLong, NotUtf8, TooDeep, EndInside, Namespace, TooManyItems, TooManyPairs}
use Rattle.css_model.specs.declared.fault.SheetFault.{SheetFault}
use Rattle.css_model.specs.declared.limits.TheConstants.{MAX_BYTES}
use Rattle.css_model.specs.declared.sheet.Item.{Item}
use Rattle.css_model.specs.declared.sheet.Item.TheVariants.{KeptBlock}
use Rattle.css_model.specs.declared.token.Lexeme.{Lexeme}
use Rattle.css_model.specs.declared.token.TokenFault.{TokenFault}
use Rattle.css_model.specs.Text.Lexemes.{lexemes, piece_of}
use Rattle.css_model.specs.Sheets.Printed.{printed_item, behind_mark, printed}
use Rattle.css_model.specs.Sheets.Sheet.{read_items, item_of, is_import, too_deep, unclosed, namespace_at, too_many_items, too_many_pairs, sheet_of, sheet_of_stream}
use Rattle.css_model.specs.Sheets.Fault.{unless, fault_of}
use Rattle.css_model.specs.Sheets.Sound.{raw_items}
use Rattle.css_model.specs.Sheets.Spelling.{kept_text, lexemes_of, tokens_in}
use Rattle.css_model.specs.Text.Kept.{solid}
use Rattle.css_model.specs.Text.Tokens.{Stream, stream, tokens, byte_order_mark}
use Rattle.css_tokens.specs.Laws.{Cover, Restarts, place_of}
use Rattle.css_tokens.proofs.ForCallers.{tokens_cover, tokens_restart, mark_len}
use Rattle.print_laws.specs.Printing.{PrintedIsNoLonger}
use Rattle.sheet_laws.proofs.ForCallers.{AreAscending, IsRawItem, StandsIn, all_closed, raw_stand, stand_alone}
use Rattle.selector_text_laws.specs.Text.{IsSelectorIn}
use Rattle.selector_text_laws.proofs.ForCallers.{selector_texts_are_short}
use Rattle.print_laws.proofs.Back.Parts.{part-of-stands}
use Rattle.print_laws.proofs.Source.Tokens.{source-of}
use Rattle.print_laws.proofs.Tokens.Lexed.{part-solids}
use Rattle.print_laws.proofs.Length.Filled.{AreFilled, Fills, filled_size, marked_room, print_fills}
use Rattle.print_laws.proofs.Length.Items.{AreShort, IsPrint, block_print, item_print, fits_ascending}
use Rattle.print_laws.proofs.Length.Mark.{FirstReads, first_reads, valid_utf8}
use Rattle.print_laws.proofs.Length.Room.{Fits, tokens_fit}

-- what is printed for the items that are read of these
abbrev text_of_items : List ℕ → List (List Lexeme) → List ℕ
text_of_items source raw = flat_map (printed_item source) (read_items source raw)

abbrev pub AreRaw : List ℕ → List (List Lexeme) → Type 0
AreRaw source raw = AllByRecursion (IsRawItem (lexemes_of source)) raw

module _ (source : List ℕ) (at : ℕ) (ascending : AreAscending at (lexemes_of source)) (short : AreShort source) where
  read_print : (item : List Lexeme) → IsRawItem (lexemes_of source) item → (b : Bool) (x : Item) → cond b (Some (KeptBlock (piece_of item))) (item_of source item) ≡ Some x
      → IsPrint source item (printed_item source x)
  read_print item raw true x e =
      let same : KeptBlock (piece_of item) ≡ x = cc in
      subst (λ (y : Item). IsPrint source item (printed_item source y)) same (block_print source at ascending short item raw.is_item.stands)
  read_print item raw false x e = item_print source at ascending short item raw x e

-- the tokens of a source have room in it, behind a byte order mark that is skipped
pub record HasRoom (source : List ℕ) (s : Stream) : Type 0 where
  pub from : ℕ
  pub fits : Fits source from (lexemes s.tokens) (length source)
  pub reads : FirstReads source (lexemes s.tokens)
  pub mark : (0 < from) ⊎ (starts_with nat_eq source byte_order_mark ≡ false)

pub has_room : (source : List ℕ) → (tokens source true).fault ≡ None → HasRoom source (tokens source true)
has_room source = which (starts_with nat_eq source byte_order_mark) refl
  where
    at : (s : Stream) (from : ℕ) → Cover source from s.tokens (place_of s.fault (length source)) → Restarts source from s.tokens
        → (0 < from) ⊎ (starts_with nat_eq source byte_order_mark ≡ false) → s.fault ≡ None → HasRoom source s
    at s from cover restart mark clean = record {
      from = from;
      fits = tokens_fit source [] from s.tokens (subst (λ (f : Option TokenFault). Cover source from s.tokens (place_of f (length source))) clean cover) restart;
      reads = first_reads source [] from s.tokens restart;
      mark = mark;
    }

    which : (b : Bool) → starts_with nat_eq source byte_order_mark ≡ b → (cond b (stream 3 (drop 3 source)) (stream 0 source)).fault ≡ None
        → HasRoom source (cond b (stream 3 (drop 3 source)) (stream 0 source))
    which true is clean = at (stream 3 (drop 3 source)) 3 (tokens_cover source 3 (mark_len source is)) (tokens_restart source 3 (mark_len source is)) (inl (omega arith)) clean
    which false is clean = at (stream 0 source) 0 (tokens_cover source 0 (omega arith)) (tokens_restart source 0 (omega arith)) (inr is) clean

-- what is known of a source that is read without a fault
record IsRead (source : List ℕ) (old : List Item) : Type 0 where
  valid : length source ≤ utf8_valid_len source
  clean : (tokens source true).fault ≡ None
  shut : unclosed (tokens source true).tokens ≡ None
  same : read_items source (raw_items source) ≡ old

unless_ok : {A : Type 0} (faults : List (Option SheetFault)) (x y : A) → unless faults x ≡ Ok y → AllByRecursion (λ f. f ≡ None) faults × (x ≡ y)
unless_ok [] x y e = (tt, cc)
unless_ok (None ∷ faults) x y e = let rest = unless_ok faults x y e in ((refl, rest.0), rest.1)
unless_ok (Some f ∷ faults) x y e = absurd cc

no_fault : (o : Option ℕ) → fault_of EndInside o ≡ None → o ≡ None
no_fault None e = refl
no_fault (Some at) e = absurd cc

stream_read : (source : List ℕ) (old : List Item) → length source ≤ utf8_valid_len source → (f : Option TokenFault) → (tokens source true).fault ≡ f
    → sheet_of_stream source f (tokens source true).tokens ≡ Ok old → IsRead source old
stream_read source old valid (Some f) is e = absurd cc
stream_read source old valid None is e =
    let ts = (tokens source true).tokens in
    let raw = raw_items source in
    let read = read_items source raw in
    let faults : List (Option SheetFault) =
    fault_of TooDeep (too_deep (lexemes ts)) ∷ fault_of EndInside (unclosed ts) ∷ fault_of Namespace (namespace_at source raw)
    ∷ fault_of TooManyItems (too_many_items read) ∷ fault_of TooManyPairs (too_many_pairs 0 read) ∷ [] in
    let parts = unless_ok faults read old e in
    record { valid = valid; clean = is; shut = no_fault (unclosed ts) parts.0.1.0; same = parts.1 }

is_read : (source : List ℕ) (old : List Item) → sheet_of source ≡ Ok old → IsRead source old
is_read source old e = which (nat_lt MAX_BYTES (length source)) (nat_lt (utf8_valid_len source) (length source)) refl e
  where
    which : (long wrong : Bool) → nat_lt (utf8_valid_len source) (length source) ≡ wrong
        → cond long (Err (record { kind = TooLong; at = MAX_BYTES })) (cond wrong (Err (record { kind = NotUtf8; at = utf8_valid_len source }))
        (sheet_of_stream source (tokens source true).fault (tokens source true).tokens)) ≡ Ok old → IsRead source old
    which true wrong valid here = absurd cc
    which false true valid here = absurd cc
    which false false valid here = stream_read source old (ltb-false (utf8_valid_len source) (length source) valid) (tokens source true).fault refl here

-- A source that is read, and the room of its tokens.
pub record HasFilling (source : List ℕ) (old : List Item) : Type 0 where
  pub room : HasRoom source (tokens source true)
  pub same : read_items source (raw_items source) ≡ old
  pub each : AreRaw source (raw_items source)
  pub alone : (xs : List Lexeme) → StandsIn (lexemes_of source) xs → tokens_in source (piece_of xs) ≡ xs
  pub fills : (item : List Lexeme) → IsRawItem (lexemes_of source) item → (b : Bool) (x : Item) → cond b (Some (KeptBlock (piece_of item))) (item_of source item) ≡ Some x
      → Fills source item (printed_item source x)
  pub kept : (xs : List Lexeme) → StandsIn (lexemes_of source) xs → Fills source xs (kept_text source (piece_of xs))
  pub no_longer : (text : List ℕ) → AreFilled source (raw_items source) text → length (behind_mark text) ≤ length source

pub has-filling : (source : List ℕ) (old : List Item) → sheet_of source ≡ Ok old → HasFilling source old
has-filling source old e = record {
  room = room;
  same = read.same;
  each = (raw_stand xs (all_closed (tokens source true).tokens read.shut)).each;
  alone = λ ys stands. stand_alone room.from xs ys ascending stands;
  fills = λ item raw b x is. print_fills source item (printed_item source x) (read_print source room.from ascending short item raw b x is);
  kept = λ ys stands. print_fills source ys (kept_text source (piece_of ys)) (block_print source room.from ascending short ys stands);
  no_longer = λ text filled. which (starts_with nat_eq text byte_order_mark) text refl filled;
}
  where
    read : IsRead source old
    read = is_read source old e

    xs : List Lexeme
    xs = lexemes_of source

    room : HasRoom source (tokens source true)
    room = has_room source read.clean

    ascending : AreAscending room.from xs
    ascending = fits_ascending source room.from room.from xs (length source) (omega arith) room.fits

    short : AreShort source
    short part s stands reads =
        let parts = source-of source read.clean (valid_utf8 source read.valid) in
        let p = part-of-stands stands in
        let inside : IsSelectorIn parts.ps (length p.before) (length part) (map (solid source) part) s =
        record { lexed = parts.lexed; are = sym (part-solids source parts.ps part (record { lexed = parts.lexed; solids = parts.spelled }) p); reads = reads } in
        selector_texts_are_short parts.ps (length p.before) (length part) (map (solid source) part) s inside

    which : (b : Bool) (text : List ℕ) → starts_with nat_eq text byte_order_mark ≡ b → AreFilled source (raw_items source) text → length (behind_mark text) ≤ length source
    which true text is filled =
        let marked : length (behind_mark text) ≡ suc (length text) = rw is refl in
        omega (arith, marked, marked_room source room.from xs text (valid_utf8 source read.valid) room.fits room.reads room.mark filled is)
    which false text is filled =
        let bare : length (behind_mark text) ≡ length text = rw is refl in
        omega (arith, bare, filled_size source 0 xs room.from (length source) text room.fits filled)

-- what is printed for items that are read
read_filled : (source : List ℕ) (old : List Item) → HasFilling source old → (raw : List (List Lexeme)) → AreRaw source raw → AreFilled source raw (text_of_items source raw)
read_filled source old f [] all = refl
read_filled source old f (item ∷ rest) (first, all) =
    let b = list_any (is_import source) rest in
    which (cond b (Some (KeptBlock (piece_of item))) (item_of source item)) (f.fills item first b) (read_filled source old f rest all)
  where
    which : (o : Option Item) → ((x : Item) → o ≡ Some x → Fills source item (printed_item source x)) → AreFilled source rest (text_of_items source rest)
        → AreFilled source (item ∷ rest) (flat_map (printed_item source) (cons_option o (read_items source rest)))
    which None fills later = inl later
    which (Some x) fills later = inr (printed_item source x, text_of_items source rest, refl, fills x refl, later)

pub no-longer : PrintedIsNoLonger
no-longer source old e =
    let f = has-filling source old e in
    subst (λ (its : List Item). length (printed source its) ≤ length source) f.same
    (f.no_longer (text_of_items source (raw_items source)) (read_filled source old f (raw_items source) f.each))
