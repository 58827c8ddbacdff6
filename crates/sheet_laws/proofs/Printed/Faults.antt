-- A printed sheet is read without a fault.
use Rattle.std.proofs.Common.{◌≡◌, ℕ, suc, ◌+◌, ◌==◌, ◌≤◌, Bool, true, false, List, [], ◌∷◌, ◌++◌, length, map, Option, Some, None, Result, Ok, Err, refl, sym, ◌∙◌, ap, arith}
use Rattle.std.proofs.lemmas.Bool.{le-ltb, ne_eqb}
use Rattle.std.proofs.lemmas.Option.{slice_get_past}
use Rattle.std.specs.Prelude.{◌&&◌, if◌then◌else◌, nat_lt}
use Rattle.std.specs.List.{AllByRecursion, AllZip, filter, find}
use Rattle.std.specs.Option.{option_map}
use Rattle.std.specs.Str.Lossy.{utf8_valid_len}
use Rattle.css_model.specs.declared.fault.FaultKind.TheVariants.{TooLong, NotUtf8, EndInside, TooDeep, Namespace, TooManyItems, TooManyPairs}
use Rattle.css_model.specs.declared.fault.SheetFault.{SheetFault}
use Rattle.css_model.specs.declared.limits.TheConstants.{MAX_BYTES, MAX_DEPTH, MAX_ITEMS, MAX_PAIRS}
use Rattle.css_model.specs.declared.sheet.DeclItem.{DeclItem}
use Rattle.css_model.specs.declared.sheet.Item.{Item}
use Rattle.css_model.specs.declared.sheet.Item.TheVariants.{Rule, KeptRule, KeptBlock}
use Rattle.css_model.specs.declared.sheet.Piece.{Piece}
use Rattle.css_model.specs.declared.sheet.SelItem.{SelItem}
use Rattle.css_model.specs.declared.token.Lexeme.{Lexeme}
use Rattle.css_model.specs.declared.token.Token.{Token}
use Rattle.css_model.specs.Text.Characters.{comma, semicolon, open_curly, close_curly}
use Rattle.css_model.specs.Selectors.Terms.{depth_behind}
use Rattle.css_model.specs.Selectors.Tokens.{selector_token}
use Rattle.css_model.specs.Text.Kept.{Solid, solid}
use Rattle.css_model.specs.Text.Lexemes.{piece_of}
use Rattle.css_model.specs.Sheets.Printed.{printed}
use Rattle.css_model.specs.Sheets.Sheet.{is_namespace, read_items, start_of, pairs_of, too_many_pairs, too_deep, unclosed, namespace_at, too_many_items, sheet_of_tokens, sheet_of_stream, sheet_of}
use Rattle.css_model.specs.Text.Lexemes.{opens}
use Rattle.css_model.specs.Sheets.Fault.{fault_of, unless}
use Rattle.css_model.specs.Sheets.Sound.{raw_items}
use Rattle.css_model.specs.Sheets.Spelling.{stands_in, lexemes_of, tokens_in, all_content}
use Rattle.css_model.specs.Text.Tokens.{tokens}
use Rattle.sheet_laws.specs.Sourced.{AreTwinsOfSourced, SourcedItem, items_of, printed_sourced}
use Rattle.sheet_laws.proofs.Shown.Alike.{and_false}
use Rattle.list_facts.proofs.Cuts.{None_of, none_append}
use Rattle.sheet_laws.proofs.Printed.Joins.{none_joined}
use Rattle.list_facts.proofs.Zips.{cons_head, cons_tail, cons_not_empty, some_not_none}
use Rattle.sheet_laws.proofs.Printed.Contents.{InOrder, IsReadBack, IsShownAgain, items_read_back, sourced_content}
use Rattle.sheet_laws.proofs.Printed.Preludes.{IsOfSelector}
use Rattle.sheet_laws.proofs.Printed.Sheet.{AreFromSources, AreSourcedInOrder, IsFrom}
use Rattle.selector_text_laws.specs.Back.{AreShallow, back}
use Rattle.sheet_laws.proofs.Shown.Tokens.{Shown, shown, all_shown, inner, last_of_value, last_of_item, kept_shown, value_shown, joined, sign_shown, selector_shown, with_levels, importance_shown, declaration_shown, item_shown, sourced_shown}

-- a token that opens a bracket too many, and one that is shown so
abbrev pub is_deep : Lexeme → Bool
is_deep x = opens x.kind && x.level == MAX_DEPTH

abbrev is_shown_deep : Shown → Bool
is_shown_deep s = opens s.kind && s.level == MAX_DEPTH

deep_filter : (p : Lexeme → Bool) (xs : List Lexeme) → None_of is_deep xs → None_of is_deep (filter p xs)
deep_filter p [] fail = tt
deep_filter p (x ∷ xs) fail = which (p x) (deep_filter p xs fail.1)
  where
    which : (b : Bool) → None_of is_deep (filter p xs) → None_of is_deep (if b then x ∷ filter p xs else filter p xs)
    which true rest = (fail.0, rest)
    which false rest = rest

deep_all_shown : (others last : Lexeme → Shown) → ((x : Lexeme) → is_shown_deep (others x) ≡ is_deep x) → ((x : Lexeme) → is_shown_deep (last x) ≡ is_deep x)
    → (xs : List Lexeme) → None_of is_deep xs → None_of is_shown_deep (all_shown others last xs)
deep_all_shown others last o l [] fail = tt
deep_all_shown others last o l (x ∷ []) fail = (l x ∙ fail.0, tt)
deep_all_shown others last o l (x ∷ next ∷ xs) fail = (o x ∙ fail.0, deep_all_shown others last o l (next ∷ xs) fail.1)

not_so_deep : (depth : ℕ) → depth ≤ 2 → (depth == MAX_DEPTH) ≡ false
not_so_deep depth few = ne_eqb depth MAX_DEPTH (λ e. absurd (omega (arith, few, e)))

deep_levels : (depth : ℕ) (ss : List Solid) → AreShallow depth ss → None_of is_shown_deep (with_levels depth ss)
deep_levels depth [] few = tt
deep_levels depth (s ∷ ss) few = (
  ap (λ (b : Bool). opens s.kind && b) (not_so_deep depth few.0) ∙ and_false (opens s.kind),
  deep_levels (depth_behind depth (selector_token s)) ss few.1,
)

deep_selectors : (source : List ℕ) (ss : List SelItem) → AllByRecursion (IsOfSelector source) ss → AllByRecursion (None_of is_shown_deep) (map (selector_shown source) ss)
deep_selectors source [] sound = tt
deep_selectors source (s ∷ ss) sound =
    (deep_levels 0 (back (map (solid source) (tokens_in source s.piece))) sound.0.again.depths, deep_selectors source ss sound.1)

deep_importance : (important : Bool) → None_of is_shown_deep (importance_shown important)
deep_importance false = tt
deep_importance true = (refl, (refl, tt))

deep_declarations : (source : List ℕ) → None_of is_deep (lexemes_of source) → (ds : List DeclItem) → AllByRecursion (None_of is_shown_deep) (map (declaration_shown source) ds)
deep_declarations source fail [] = tt
deep_declarations source fail (d ∷ ds) = (
  (
    refl,
    (
      refl,
      none_append is_shown_deep (value_shown source (tokens_in source d.value)) (importance_shown d.decl.important)
          (deep_all_shown (inner source) (last_of_value source) (λ x. refl) (λ x. refl) (tokens_in source d.value) (deep_filter (stands_in d.value) (lexemes_of source) fail))
          (deep_importance d.decl.important),
    ),
  ),
  deep_declarations source fail ds,
)

deep_kept : (source : List ℕ) → None_of is_deep (lexemes_of source) → (piece : Piece) → None_of is_shown_deep (kept_shown source (tokens_in source piece))
deep_kept source fail piece = deep_all_shown (inner source) (last_of_item source) (λ x. refl) (λ x. refl) (tokens_in source piece) (deep_filter (stands_in piece) (lexemes_of source) fail)

deep_item : (source : List ℕ) → None_of is_deep (lexemes_of source) → (item : Item) → IsFrom source item → None_of is_shown_deep (item_shown source item)
deep_item source fail (KeptRule k) from = deep_kept source fail k.piece
deep_item source fail (KeptBlock piece) from = deep_kept source fail piece
deep_item source fail (Rule r) from =
    let prelude = joined (sign_shown comma 0) (map (selector_shown source) r.selectors) in
    let block = joined (sign_shown semicolon 1) (map (declaration_shown source) r.decls) in
    none_append is_shown_deep (prelude ++ sign_shown open_curly 0 ∷ block) (sign_shown close_curly 1 ∷ [])
    (none_append is_shown_deep prelude (sign_shown open_curly 0 ∷ block)
    (none_joined is_shown_deep (sign_shown comma 0) (map (selector_shown source) r.selectors) refl (deep_selectors source r.selectors from.selectors))
    (refl, none_joined is_shown_deep (sign_shown semicolon 1) (map (declaration_shown source) r.decls) refl (deep_declarations source fail r.decls)))
    (refl, tt)

pub find_none : {A : Type 0} (p : A → Bool) (xs : List A) → find p xs ≡ None → None_of p xs
find_none p [] e = tt
find_none p (x ∷ xs) e = which (p x) refl (find_none p xs)
  where
    which : (b : Bool) → p x ≡ b → (find p xs ≡ None → None_of p xs) → None_of p (x ∷ xs)
    which true is again = absurd (some_not_none x (sym (ap (λ b. if b then Some x else find p xs) is) ∙ e))
    which false is again = (is, again (sym (ap (λ b. if b then Some x else find p xs) is) ∙ e))

-- such an item is of a source without a bracket too many
abbrev pub IsShallow : SourcedItem → Type 0
IsShallow x = find is_deep (lexemes_of x.source) ≡ None

deep_items : (xs : List SourcedItem) → AllByRecursion IsShallow xs → AreFromSources xs → None_of is_shown_deep (sourced_shown xs)
deep_items [] shallow from = tt
deep_items (x ∷ xs) shallow from =
    none_append is_shown_deep (item_shown x.source x.item) (sourced_shown xs)
    (deep_item x.source (find_none is_deep (lexemes_of x.source) shallow.0) x.item from.0) (deep_items xs shallow.1 from.1)

not_deep : (source : List ℕ) (ys : List Lexeme) (ss : List Shown) → map (shown source) ys ≡ ss → None_of is_shown_deep ss → find is_deep ys ≡ None
not_deep source [] ss e fail = refl
not_deep source (y ∷ ys) [] e fail = absurd (cons_not_empty (shown source y) (map (shown source) ys) e)
not_deep source (y ∷ ys) (s ∷ ss) e fail =
    ap (λ b. if b then Some y else find is_deep ys) (ap is_shown_deep (cons_head (shown source y) s (map (shown source) ys) ss e) ∙ fail.0)
    ∙ not_deep source ys ss (cons_tail (shown source y) s (map (shown source) ys) ss e) fail.1

pub pairs_fit : (n : ℕ) (its' its : List Item) → map pairs_of its' ≡ map pairs_of its → too_many_pairs n its ≡ None → too_many_pairs n its' ≡ None
pairs_fit n [] its e fits = refl
pairs_fit n (item' ∷ its') [] e fits = absurd (omega (arith, ap length e))
pairs_fit n (item' ∷ its') (item ∷ its) e fits = which (nat_lt MAX_PAIRS (n + pairs_of item)) refl (pairs_fit (n + pairs_of item) its' its (cons_tail (pairs_of item') (pairs_of item) (map pairs_of its') (map pairs_of its) e))
  where
    same : pairs_of item' ≡ pairs_of item
    same = cons_head (pairs_of item') (pairs_of item) (map pairs_of its') (map pairs_of its) e

    which : (b : Bool) → nat_lt MAX_PAIRS (n + pairs_of item) ≡ b → (too_many_pairs (n + pairs_of item) its ≡ None → too_many_pairs (n + pairs_of item) its' ≡ None) → too_many_pairs n (item' ∷ its') ≡ None
    which true is again = absurd (some_not_none (start_of item) (sym (ap (λ b. if b then Some (start_of item) else too_many_pairs (n + pairs_of item) its) is) ∙ fits))
    which false is again =
        ap (λ m. if nat_lt MAX_PAIRS (n + m) then Some (start_of item') else too_many_pairs (n + m) its') same
        ∙ ap (λ b. if b then Some (start_of item') else too_many_pairs (n + pairs_of item) its') is
        ∙ again (sym (ap (λ b. if b then Some (start_of item) else too_many_pairs (n + pairs_of item) its) is) ∙ fits)

-- a text whose tokens are those that are shown for items, each of its own source
pub record IsPrintOf (new : List ℕ) (xs : List SourcedItem) : Type 0 where
  pub short : length new ≤ MAX_BYTES
  pub valid : length new ≤ utf8_valid_len new
  pub clean : (tokens new true).fault ≡ None
  pub closed : unclosed (tokens new true).tokens ≡ None
  pub ascending : InOrder new
  pub shown_as : map (shown new) (lexemes_of new) ≡ sourced_shown xs

-- the items of a sheet fit, and so do the pairs of its rules
pub record DoFit (its : List Item) : Type 0 where
  pub items : length its ≤ MAX_ITEMS
  pub pairs : too_many_pairs 0 its ≡ None

-- what a text is read as that was printed for items, each of its own source
pub record IsSameSheet (new : List ℕ) (xs : List SourcedItem) : Type 0 where
  pub read : List Item
  pub reads : sheet_of new ≡ Ok read
  pub says : all_content new read ≡ map sourced_content xs
  pub prints : printed new read ≡ printed_sourced xs
  pub twins : AreTwinsOfSourced new xs read
  pub shown_as : AllZip (IsShownAgain new) xs read

length-pairs : (its : List Item) → length (map pairs_of its) ≡ length its
length-pairs [] = refl
length-pairs (item ∷ its) = ap suc (length-pairs its)

-- what is read, unless one of these places is that of a fault
abbrev pub by_tests : Option ℕ → Option ℕ → Option ℕ → Option ℕ → Option ℕ → List Item → Result (List Item) SheetFault
by_tests deep unclosed namespace many pairs read =
    unless (fault_of TooDeep deep ∷ fault_of EndInside unclosed ∷ fault_of Namespace namespace ∷ fault_of TooManyItems many ∷ fault_of TooManyPairs pairs ∷ []) read

-- A text whose tokens are those that are shown for items, each of its own source, is read as items that say the same, and that are printed alike.
pub sheet_reads_back : (new : List ℕ) (xs : List SourcedItem) → AreFromSources xs → AreSourcedInOrder xs → DoFit (items_of xs) → AllByRecursion IsShallow xs → IsPrintOf new xs
    → IsSameSheet new xs
sheet_reads_back new xs sound order fit shallow print =
    record { read = back.read; reads = reads; says = back.says; prints = back.prints; twins = back.twins; shown_as = back.shown_as }
  where
    back : IsReadBack new xs
    back = items_read_back new xs sound order print.ascending print.shown_as

    ts : List Token
    ts = (tokens new true).tokens

    not_deep_at : too_deep (lexemes_of new) ≡ None
    not_deep_at = ap (option_map (λ x. x.span.start)) (not_deep new (lexemes_of new) (sourced_shown xs) print.shown_as (deep_items xs shallow sound))

    names : namespace_at new (raw_items new) ≡ None
    names = ap (λ raw. option_map (λ item. (piece_of item).start) (find (is_namespace new) raw)) back.is_raw ∙ ap (option_map (λ item. (piece_of item).start)) back.no_namespace

    is_read : read_items new (raw_items new) ≡ back.read
    is_read = ap (read_items new) back.is_raw ∙ back.reads

    number : length back.read ≡ length (items_of xs)
    number = sym (length-pairs back.read) ∙ ap length back.pairs ∙ length-pairs (items_of xs)

    few_items : too_many_items back.read ≡ None
    few_items = ap (option_map start_of) (slice_get_past back.read MAX_ITEMS (omega (arith, number, fit.items)))

    few_pairs : too_many_pairs 0 back.read ≡ None
    few_pairs = pairs_fit 0 back.read (items_of xs) back.pairs fit.pairs

    of_tokens : sheet_of_tokens new ts ≡ Ok back.read
    of_tokens =
        ap (λ deep. by_tests deep (unclosed ts) (namespace_at new (raw_items new)) (too_many_items (read_items new (raw_items new))) (too_many_pairs 0 (read_items new (raw_items new))) (read_items new (raw_items new))) not_deep_at
        ∙ ap (λ closed. by_tests None closed (namespace_at new (raw_items new)) (too_many_items (read_items new (raw_items new))) (too_many_pairs 0 (read_items new (raw_items new))) (read_items new (raw_items new))) print.closed
        ∙ ap (λ names. by_tests None None names (too_many_items (read_items new (raw_items new))) (too_many_pairs 0 (read_items new (raw_items new))) (read_items new (raw_items new))) names
        ∙ ap (λ read. by_tests None None None (too_many_items read) (too_many_pairs 0 read) read) is_read
        ∙ ap (λ many. by_tests None None None many (too_many_pairs 0 back.read) back.read) few_items
        ∙ ap (λ pairs. by_tests None None None None pairs back.read) few_pairs

    reads : sheet_of new ≡ Ok back.read
    reads =
        ap (λ b. if b then Err (record { kind = TooLong; at = MAX_BYTES }) else if nat_lt (utf8_valid_len new) (length new) then Err (record { kind = NotUtf8; at = utf8_valid_len new }) else sheet_of_stream new (tokens new true).fault ts)
        (le-ltb MAX_BYTES (length new) print.short)
        ∙ ap (λ b. if b then Err (record { kind = NotUtf8; at = utf8_valid_len new }) else sheet_of_stream new (tokens new true).fault ts)
        (le-ltb (utf8_valid_len new) (length new) print.valid)
        ∙ ap (λ f. sheet_of_stream new f ts) print.clean
        ∙ of_tokens
