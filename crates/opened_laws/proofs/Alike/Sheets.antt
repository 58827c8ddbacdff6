-- A text is read as a sheet where the print of its tokens is.
use Rattle.std.proofs.Common.{◌≡◌, ◌≤◌, ℕ, ◌==◌, true, List, [], ◌∷◌, length, map, None, Ok, Err, refl, sym, ◌∙◌, ap, ap₂, subst, arith}
use Rattle.std.proofs.lemmas.Bool.{le-ltb}
use Rattle.std.proofs.lemmas.Option.{slice_get_past}
use Rattle.std.proofs.lemmas.Str.{utf8_valid_len-IsUtf8}
use Rattle.std.specs.Prelude.{◌&&◌, if◌then◌else◌, nat_lt, codes}
use Rattle.std.specs.List.{AllZip, find, list_any}
use Rattle.std.specs.Option.{option_map}
use Rattle.std.specs.Str.{IsUtf8}
use Rattle.std.specs.Str.Lossy.{utf8_valid_len}
use Rattle.css_model.specs.declared.fault.FaultKind.TheVariants.{TooLong, NotUtf8}
use Rattle.css_model.specs.declared.limits.TheConstants.{MAX_BYTES, MAX_ITEMS}
use Rattle.css_model.specs.declared.sheet.Item.{Item}
use Rattle.css_model.specs.declared.token.Lexeme.{Lexeme}
use Rattle.css_model.specs.declared.token.Token.{Token}
use Rattle.css_model.specs.Sheets.Items.{is_between_items, is_whole, items}
use Rattle.css_model.specs.Sheets.Sheet.{is_namespace, namespace_at, pairs_of, read_items, sheet_of, sheet_of_stream, sheet_of_tokens, start_of, too_deep, too_many_items, too_many_pairs, unclosed}
use Rattle.css_model.specs.Sheets.Sound.{raw_items}
use Rattle.css_model.specs.Sheets.Spelling.{lexemes_of}
use Rattle.css_model.specs.Text.Lexemes.{opens, piece_of}
use Rattle.css_model.specs.Text.Tokens.{tokens}
use Rattle.list_facts.proofs.Zips.{zip_any, zip_length}
use Rattle.media_groups.specs.Opened.{is_comment_sign, is_top_item}
use Rattle.print_laws.proofs.ForCallers.{Ground, clean-of, tested-of}
use Rattle.sheet_laws.proofs.ForCallers.{IsPrinted, by_tests, is_deep, no_map, pairs_fit, printed_like, read_from}
use Rattle.opened_laws.proofs.Alike.Items.{AreAlikeItems, ArePrinted, find_back, items_in, items_printed, named_printed, read_alike, whole_printed, zip_filter, zip_find}

-- the tests of tokens answer the same
deep_printed : (new old : List ℕ) (y x : Lexeme) → IsPrinted new old y x → is_deep y ≡ is_deep x
deep_printed new old y x p =
    let like = printed_like new old y x p in
    ap₂ (λ k (n : ℕ). opens k && n == 256) like.kind like.level

sign_printed : (new old : List ℕ) (y x : Lexeme) → IsPrinted new old y x → is_comment_sign y ≡ is_comment_sign x
sign_printed new old y x p =
    let like = printed_like new old y x p in
    ap₂ (λ k (n : ℕ). is_between_items k && n == 0) like.kind like.level

pub signs_printed : (new old : List ℕ) (ys xs : List Lexeme) → ArePrinted new old ys xs → list_any is_comment_sign ys ≡ list_any is_comment_sign xs
signs_printed new old = zip_any (IsPrinted new old) is_comment_sign is_comment_sign (sign_printed new old)

pairs_alike : (new old : List ℕ) (its' its : List Item) → AllZip (AreAlikeItems new old) its' its → map pairs_of its' ≡ map pairs_of its
pairs_alike new old [] [] z = refl
pairs_alike new old [] (item ∷ its) z = absurd z
pairs_alike new old (item' ∷ its') [] z = absurd z
pairs_alike new old (item' ∷ its') (item ∷ its) z = ap₂ (λ (n : ℕ) (ns : List ℕ). n ∷ ns) z.0.pairs (pairs_alike new old its' its z.1)

-- a text without a fault of a token or a bracket
pub record IsSpotless (text : List ℕ) : Type 0 where
  pub ground : Ground text
  pub short : length text ≤ MAX_BYTES
  pub utf8 : IsUtf8 text
  pub clean : (tokens text true).fault ≡ None
  pub no_unclosed : unclosed (tokens text true).tokens ≡ None

-- a spotless text is read where no test finds a fault in its tokens
spotless_reads : (text : List ℕ) → IsSpotless text → too_deep (lexemes_of text) ≡ None → namespace_at text (raw_items text) ≡ None →
    too_many_items (read_items text (raw_items text)) ≡ None → too_many_pairs 0 (read_items text (raw_items text)) ≡ None → sheet_of text ≡ Ok (read_items text (raw_items text))
spotless_reads text s not_deep names few_items few_pairs =
    ap (λ b. if b then Err (record { kind = TooLong; at = MAX_BYTES }) else if nat_lt (utf8_valid_len text) (length text) then Err (record { kind = NotUtf8; at = utf8_valid_len text }) else sheet_of_stream text (tokens text true).fault ts)
    (le-ltb MAX_BYTES (length text) s.short)
    ∙ ap (λ b. if b then Err (record { kind = NotUtf8; at = utf8_valid_len text }) else sheet_of_stream text (tokens text true).fault ts)
    (le-ltb (utf8_valid_len text) (length text) (let same = utf8_valid_len-IsUtf8 text s.utf8 in omega (arith, same)))
    ∙ ap (λ f. sheet_of_stream text f ts) s.clean
    ∙ of_tokens
  where
    ts : List Token
    ts = (tokens text true).tokens

    its : List Item
    its = read_items text (raw_items text)

    of_tokens : sheet_of_tokens text ts ≡ Ok its
    of_tokens =
        ap (λ deep. by_tests deep (unclosed ts) (namespace_at text (raw_items text)) (too_many_items its) (too_many_pairs 0 its) its) not_deep
        ∙ ap (λ closed. by_tests None closed (namespace_at text (raw_items text)) (too_many_items its) (too_many_pairs 0 its) its) s.no_unclosed
        ∙ ap (λ names. by_tests None None names (too_many_items its) (too_many_pairs 0 its) its) names
        ∙ ap (λ many. by_tests None None None many (too_many_pairs 0 its) its) few_items
        ∙ ap (λ pairs. by_tests None None None None pairs its) few_pairs

-- what a text is read as whose tokens these are the print of
pub record IsReadAlike (new old : List ℕ) (its' : List Item) : Type 0 where
  pub read : List Item
  pub reads : sheet_of old ≡ Ok read
  pub alike : AllZip (AreAlikeItems new old) its' read

pub sheet_alike : (new old : List ℕ) → Ground new → IsSpotless old → ArePrinted new old (lexemes_of new) (lexemes_of old) → (its' : List Item) → sheet_of new ≡ Ok its' → IsReadAlike new old its'
sheet_alike new old g' s z its' e = record { read = read_items old (raw_items old); reads = spotless_reads old s not_deep names few_items few_pairs; alike = alike }
  where
    raw : AllZip (ArePrinted new old) (raw_items new) (raw_items old)
    raw = zip_filter (ArePrinted new old) is_whole is_whole (whole_printed new old) (items (lexemes_of new)) (items (lexemes_of old)) (items_printed new old 0 (lexemes_of new) (lexemes_of old) z)

    alike : AllZip (AreAlikeItems new old) its' (read_items old (raw_items old))
    alike =
        let tests = tested-of new its' (clean-of new its' e) in
        rw (sym tests.same) (read_alike new old (raw_items new) (raw_items old) raw (items_in new g'.good (raw_items new) g'.raw.each) (items_in old s.ground.good (raw_items old) s.ground.raw.each))

    not_deep : too_deep (lexemes_of old) ≡ None
    not_deep =
        let from = read_from new its' g'.good e in
        ap (option_map (λ x. x.span.start)) (zip_find (IsPrinted new old) is_deep is_deep (deep_printed new old) (lexemes_of new) (lexemes_of old) z from.shallow)

    names : namespace_at old (raw_items old) ≡ None
    names =
        let tests = tested-of new its' (clean-of new its' e) in
        let none : find (is_namespace new) (raw_items new) ≡ None = no_map (λ item. (piece_of item).start) (find (is_namespace new) (raw_items new)) tests.no_namespace in
        ap (option_map (λ item. (piece_of item).start)) (zip_find (ArePrinted new old) (is_namespace new) (is_namespace old) (named_printed (codes "namespace") new old) (raw_items new) (raw_items old) raw none)

    few_items : too_many_items (read_items old (raw_items old)) ≡ None
    few_items =
        let from = read_from new its' g'.good e in
        let number = zip_length (AreAlikeItems new old) its' (read_items old (raw_items old)) alike in
        ap (option_map start_of) (slice_get_past (read_items old (raw_items old)) MAX_ITEMS (let few = from.fit.items in omega (arith, number, few)))

    few_pairs : too_many_pairs 0 (read_items old (raw_items old)) ≡ None
    few_pairs = pairs_fit 0 (read_items old (raw_items old)) its' (sym (pairs_alike new old its' (read_items old (raw_items old)) alike)) (read_from new its' g'.good e).fit.pairs

-- what the print of a text is read as, where the text is
pub record IsPrintRead (new old : List ℕ) (its : List Item) : Type 0 where
  pub read : List Item
  pub reads : sheet_of new ≡ Ok read
  pub alike : AllZip (AreAlikeItems new old) read its

pub sheet_back : (new old : List ℕ) → IsSpotless new → Ground old → ArePrinted new old (lexemes_of new) (lexemes_of old) → (its : List Item) → sheet_of old ≡ Ok its → IsPrintRead new old its
sheet_back new old s g z its e = record { read = read_items new (raw_items new); reads = spotless_reads new s not_deep names few_items few_pairs; alike = alike }
  where
    raw : AllZip (ArePrinted new old) (raw_items new) (raw_items old)
    raw = zip_filter (ArePrinted new old) is_whole is_whole (whole_printed new old) (items (lexemes_of new)) (items (lexemes_of old)) (items_printed new old 0 (lexemes_of new) (lexemes_of old) z)

    alike : AllZip (AreAlikeItems new old) (read_items new (raw_items new)) its
    alike =
        let tests = tested-of old its (clean-of old its e) in
        subst (λ (read : List Item). AllZip (AreAlikeItems new old) (read_items new (raw_items new)) read) tests.same
        (read_alike new old (raw_items new) (raw_items old) raw (items_in new s.ground.good (raw_items new) s.ground.raw.each) (items_in old g.good (raw_items old) g.raw.each))

    not_deep : too_deep (lexemes_of new) ≡ None
    not_deep =
        let from = read_from old its g.good e in
        ap (option_map (λ x. x.span.start)) (find_back (IsPrinted new old) is_deep is_deep (deep_printed new old) (lexemes_of new) (lexemes_of old) z from.shallow)

    names : namespace_at new (raw_items new) ≡ None
    names =
        let tests = tested-of old its (clean-of old its e) in
        let none : find (is_namespace old) (raw_items old) ≡ None = no_map (λ item. (piece_of item).start) (find (is_namespace old) (raw_items old)) tests.no_namespace in
        ap (option_map (λ item. (piece_of item).start)) (find_back (ArePrinted new old) (is_namespace new) (is_namespace old) (named_printed (codes "namespace") new old) (raw_items new) (raw_items old) raw none)

    few_items : too_many_items (read_items new (raw_items new)) ≡ None
    few_items =
        let from = read_from old its g.good e in
        let number = zip_length (AreAlikeItems new old) (read_items new (raw_items new)) its alike in
        ap (option_map start_of) (slice_get_past (read_items new (raw_items new)) MAX_ITEMS (let few = from.fit.items in omega (arith, number, few)))

    few_pairs : too_many_pairs 0 (read_items new (raw_items new)) ≡ None
    few_pairs = pairs_fit 0 (read_items new (raw_items new)) its (pairs_alike new old (read_items new (raw_items new)) its alike) (read_from old its g.good e).fit.pairs

-- The same of them counts at the top of a sheet alone.
pub tops_alike : (new old : List ℕ) (its' its : List Item) → AllZip (AreAlikeItems new old) its' its → list_any (is_top_item new) its' ≡ list_any (is_top_item old) its
tops_alike new old = zip_any (AreAlikeItems new old) (is_top_item new) (is_top_item old) (λ item' item a. a.top)
