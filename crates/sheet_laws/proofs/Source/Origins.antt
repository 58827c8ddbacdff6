-- The items of a sheet, as they are read, are those of its source.
use Rattle.std.proofs.Common.{◌≡◌, ◌≢◌, subst, ℕ, ◌+◌, ◌-◌, Bool, true, false, List, [], ◌∷◌, ◌++◌, length, take, map, Option, Some, None, Result, Ok, Err, refl, sym, ◌∙◌, ap}
use Rattle.std.proofs.lemmas.Bool.{true≢false}
use Rattle.std.specs.Prelude.{◌&&◌, ◌||◌, if◌then◌else◌, codes}
use Rattle.std.specs.List.{AllByRecursion, before_first, after_first, position_or_len, list_any, filter_map, cons_option}
use Rattle.css_model.specs.declared.reason.Reason.{Reason}
use Rattle.css_model.specs.declared.sheet.DeclItem.{DeclItem}
use Rattle.css_model.specs.declared.sheet.Item.{Item}
use Rattle.css_model.specs.declared.sheet.Item.TheVariants.{Rule, KeptRule, KeptBlock}
use Rattle.css_model.specs.declared.sheet.SelItem.{SelItem}
use Rattle.css_model.specs.declared.token.Lexeme.{Lexeme}
use Rattle.css_model.specs.Text.Characters.{comma, colon, semicolon, space}
use Rattle.css_model.specs.Text.Lexemes.{is_ident}
use Rattle.css_model.specs.Sheets.Declarations.{is_custom, is_important, property_of, without_importance, piece_of_value, decl_item, declaration, declarations, is_nested}
use Rattle.css_model.specs.Sheets.Items.{item_len, is_at_rule, is_whole, opens_block, closes_block, selector_parts, block, entries}
use Rattle.css_model.specs.Text.Kept.{solid, is_white_gap}
use Rattle.css_model.specs.Sheets.KeptRuleParts.{KeptRuleParts}
use Rattle.css_model.specs.Text.Lexemes.{is_sign_of, is_sign_at, piece_of}
use Rattle.css_model.specs.Selectors.Reading.{selector_of_lexemes}
use Rattle.css_model.specs.Selectors.Reasons.{number_of}
use Rattle.css_model.specs.Sheets.Selectors.{selector_item, selectors}
use Rattle.css_model.specs.Lists.{before_all, all_of}
use Rattle.css_model.specs.Sheets.Sheet.{is_import, is_namespace, rule_or_block, item_of, read_items}
use Rattle.css_model.specs.Text.Source.{text_at}
use Rattle.css_model.specs.Sheets.Spelling.{lexemes_of, tokens_in}
use Rattle.css_model.specs.Text.Names.{decoded}
use Rattle.sheet_laws.proofs.Shown.Alike.{IsClosable, AreClosable, name_of_selector}
use Rattle.sheet_laws.proofs.Printed.Blocks.{IsOfDeclaration, plain_value, or_false}
use Rattle.list_facts.proofs.Cuts.{None_of}
use Rattle.sheet_laws.proofs.Printed.Items.{begins_item, is_ended}
use Rattle.sheet_laws.proofs.Printed.Joins.{StandsIn, stands_whole, stands_inside, stands_front, stands_behind}
use Rattle.list_facts.proofs.Zips.{cons_not_empty, some_not_none}
use Rattle.sheet_laws.proofs.Source.Parts.{IsPart, each_inside, stands_taken, stands_dropped, none_before, split_stands, split_some}
use Rattle.sheet_laws.proofs.Source.Pieces.{AreAscending, AreSpaced, stand_alone, none_in_white, none_at_end}
use Rattle.sheet_laws.proofs.Printed.Preludes.{IsOfSelector, selector_in, some_same, ok_same, err_not_ok}
use Rattle.selector_text_laws.specs.Back.{IsClosableSolid}
use Rattle.selector_text_laws.proofs.ForCallers.{selectors_read_back}
use Rattle.sheet_laws.proofs.Source.Raw.{IsRawItem, EndBefore}
use Rattle.sheet_laws.specs.Sourced.{all_of_source, of_source}
use Rattle.sheet_laws.proofs.Printed.Sheet.{not_named, IsOfItem, IsFrom, imports, is_sourced_import, ends_itself, IsBefore, EndsBefore, AreInOrder}

-- the tokens of a source: they stand in order, and white space closes the escapes that they end in
pub record HasGoodTokens (source : List ℕ) : Type 0 where
  pub ascending : AreAscending 0 (lexemes_of source)
  pub spaced : AreSpaced (lexemes_of source)
  pub closable : AreClosable source (lexemes_of source)

pub stand_alone_in : (source : List ℕ) → HasGoodTokens source → (xs : List Lexeme) → StandsIn (lexemes_of source) xs → tokens_in source (piece_of xs) ≡ xs
stand_alone_in source good xs stands = stand_alone 0 (lexemes_of source) xs good.ascending stands

closable_in : (source : List ℕ) → HasGoodTokens source → (xs : List Lexeme) → StandsIn (lexemes_of source) xs → AreClosable source xs
closable_in source good xs stands = each_inside (IsClosable source) (lexemes_of source) xs stands good.closable

solids_closable : (source : List ℕ) (xs : List Lexeme) → AreClosable source xs → AllByRecursion IsClosableSolid (map (solid source) xs)
solids_closable source [] each = tt
solids_closable source (x ∷ xs) each = (
  record { shut = each.0.shut; name = λ o. name_of_selector x.kind (text_at source x.span ++ space ∷ []) (text_at source x.span) (each.0.name o) },
  solids_closable source xs each.1,
)

-- a selector of a part that stands in the source
pub selector_from : (source : List ℕ) → HasGoodTokens source → (part : List Lexeme) (s : SelItem) → StandsIn (lexemes_of source) part → selector_item source part ≡ Ok s → IsOfSelector source s
selector_from source good part s stands reads =
    let read = selector_in source part s reads in
    let alone = ap (tokens_in source) read.1 ∙ stand_alone_in source good part stands in
    let whole = ap (selector_of_lexemes source) alone ∙ read.0 in
    let closable = subst (AreClosable source) (sym alone) (closable_in source good part stands) in
    record {
      reads = whole;
      closable = closable;
      again = selectors_read_back (map (solid source) (tokens_in source s.piece)) s.selector whole (solids_closable source (tokens_in source s.piece) closable);
    }

selectors_from : (source : List ℕ) → HasGoodTokens source → (outer : List Lexeme) → StandsIn (lexemes_of source) outer → (p : Lexeme → Bool) (parts : List (List Lexeme)) (read : List SelItem)
    → AllByRecursion (IsPart p outer) parts → all_of (selector_item source) parts ≡ Ok read → AllByRecursion (IsOfSelector source) read
selectors_from source good outer inside p [] read each reads = subst (AllByRecursion (IsOfSelector source)) (ok_same [] read reads) tt
selectors_from source good outer inside p (part ∷ parts) read each reads =
    which (selectors_from source good outer inside p parts) (selector_item source part) refl (all_of (selector_item source) parts) refl reads
  where
    which : ((read : List SelItem) → AllByRecursion (IsPart p outer) parts → all_of (selector_item source) parts ≡ Ok read → AllByRecursion (IsOfSelector source) read)
        → (first : Result SelItem Reason) → selector_item source part ≡ first → (others : Result (List SelItem) Reason) → all_of (selector_item source) parts ≡ others
        → before_all first others ≡ Ok read → AllByRecursion (IsOfSelector source) read
    which again (Err reason) is others are e = absurd (err_not_ok reason read e)
    which again (Ok s) is (Err reason) are e = absurd (err_not_ok reason read e)
    which again (Ok s) is (Ok ss) are e =
        subst (AllByRecursion (IsOfSelector source)) (ok_same (s ∷ ss) read e)
        (selector_from source good part s (stands_inside (lexemes_of source) outer part inside each.0.stands) is, again ss each.1 are)

some_selectors : (source : List ℕ) (parts : List (List Lexeme)) (read : List SelItem) → parts ≢ [] → all_of (selector_item source) parts ≡ Ok read → read ≢ []
some_selectors source [] read some reads none = absurd (some refl)
some_selectors source (part ∷ parts) read some reads none = which (selector_item source part) (all_of (selector_item source) parts) (reads ∙ ap (λ r. Ok r) none)
  where
    which : (first : Result SelItem Reason) (others : Result (List SelItem) Reason) → before_all first others ≡ Ok [] → ⊥
    which (Err reason) others e = absurd (err_not_ok reason [] e)
    which (Ok s) (Err reason) e = absurd (err_not_ok reason [] e)
    which (Ok s) (Ok ss) e = absurd (cons_not_empty s ss (ok_same (s ∷ ss) [] e))

-- the value of a declaration alone stands in its piece
pub value_alone : (source : List ℕ) → HasGoodTokens source → (name sign : Lexeme) (value : List Lexeme) → StandsIn (lexemes_of source) (name ∷ sign ∷ value)
    → tokens_in source (decl_item source name sign value).value ≡ without_importance source value
value_alone source good name sign value stands =
    by_plain (without_importance source value) (stands_inside (lexemes_of source) value (without_importance source value) in_value (plain_in value))
  where
    in_value : StandsIn (lexemes_of source) value
    in_value = stands_inside (lexemes_of source) (name ∷ sign ∷ value) value stands (stands_behind (name ∷ sign ∷ []) value)

    in_sign : StandsIn (lexemes_of source) (sign ∷ [])
    in_sign = stands_inside (lexemes_of source) (name ∷ sign ∷ value) (sign ∷ []) stands
        (stands_inside (name ∷ sign ∷ value) (sign ∷ value) (sign ∷ []) (stands_behind (name ∷ []) (sign ∷ value)) (stands_front (sign ∷ []) value))

    plain_in : (value : List Lexeme) → StandsIn value (without_importance source value)
    plain_in value = which (is_important source value)
      where
        which : (b : Bool) → StandsIn value (if b then take (length value - 2) value else value)
        which true = stands_taken (length value - 2) value
        which false = stands_whole value

    by_plain : (plain : List Lexeme) → StandsIn (lexemes_of source) plain → tokens_in source (piece_of_value (is_custom (property_of (decoded (text_at source name.span)))) sign plain) ≡ plain
    by_plain (x ∷ xs) stands = stand_alone_in source good (x ∷ xs) stands
    by_plain [] stands = which (is_custom (property_of (decoded (text_at source name.span))) && is_white_gap sign.gap)
      where
        which : (b : Bool) → tokens_in source (if b then sign.white else record { start = sign.span.«end»; «end» = sign.span.«end» }) ≡ []
        which true = none_in_white (lexemes_of source) sign good.ascending good.spaced in_sign
        which false = none_at_end (lexemes_of source) sign good.ascending in_sign

pub declaration_from : (source : List ℕ) → HasGoodTokens source → (entry : List Lexeme) (d : DeclItem) → StandsIn (lexemes_of source) entry → None_of (is_sign_at semicolon 1) entry → None_of closes_block entry
    → is_nested source entry ≡ false → declaration source entry ≡ Some d → IsOfDeclaration source d
declaration_from source good entry d stands single inside plain reads =
    record { entry = entry; reads = reads; plain = plain; single = single; inside = inside; closable = closable_in source good entry stands; alone = by_entry entry stands reads }
  where
    by_entry : (entry : List Lexeme) → StandsIn (lexemes_of source) entry → declaration source entry ≡ Some d → tokens_in source d.value ≡ plain_value source entry
    by_entry [] stands reads = absurd (some_not_none d (sym reads))
    by_entry (x ∷ []) stands reads = absurd (some_not_none d (sym reads))
    by_entry (name ∷ sign ∷ value) stands reads = which (is_ident name.kind && is_sign_of colon sign.kind) reads
      where
        which : (b : Bool) → (if b then Some (decl_item source name sign value) else None) ≡ Some d → tokens_in source d.value ≡ without_importance source value
        which false e = absurd (some_not_none d (sym e))
        which true e = ap (λ (d : DeclItem). tokens_in source d.value) (sym (some_same (decl_item source name sign value) d e)) ∙ value_alone source good name sign value stands

declarations_from : (source : List ℕ) → HasGoodTokens source → (outer : List Lexeme) → StandsIn (lexemes_of source) outer → None_of closes_block outer → (parts : List (List Lexeme))
    → AllByRecursion (IsPart (is_sign_at semicolon 1) outer) parts → list_any (is_nested source) parts ≡ false → AllByRecursion (IsOfDeclaration source) (filter_map (declaration source) parts)
declarations_from source good outer inside closed [] each plain = tt
declarations_from source good outer inside closed (part ∷ parts) each plain =
    let split = or_false (is_nested source part) (list_any (is_nested source) parts) plain in
    which (declaration source part) refl split.0 (declarations_from source good outer inside closed parts each.1 split.1)
  where
    which : (first : Option DeclItem) → declaration source part ≡ first → is_nested source part ≡ false → AllByRecursion (IsOfDeclaration source) (filter_map (declaration source) parts)
        → AllByRecursion (IsOfDeclaration source) (cons_option first (filter_map (declaration source) parts))
    which None is single later = later
    which (Some d) is single later = (
      declaration_from source good part d (stands_inside (lexemes_of source) outer part inside each.0.stands) each.0.none
          (each_inside (λ x. closes_block x ≡ false) outer part each.0.stands closed) single is,
      later,
    )

-- what an item of the source is read as
record IsOrigin (source : List ℕ) (xs : List Lexeme) (item : Item) : Type 0 where
  from : IsFrom source item
  before : IsBefore source false item
  import : imports source item ≡ is_import source xs
  ends : is_ended xs ≡ true → ends_itself source item ≡ true

pub kept_from : (source : List ℕ) → HasGoodTokens source → (xs : List Lexeme) → IsRawItem (lexemes_of source) xs → is_namespace source xs ≡ false → IsOfItem source (piece_of xs)
kept_from source good xs raw name =
    let alone = stand_alone_in source good xs raw.is_item.stands in
    record {
      closable = subst (AreClosable source) (sym alone) (closable_in source good xs raw.is_item.stands);
      begins = ap begins_item alone ∙ raw.is_item.begins;
      is_item = subst (λ zs. item_len zs ≡ length zs) (sym alone) raw.is_item.is_item;
      ended = subst (λ zs. is_at_rule zs ≡ false → is_ended zs ≡ true) (sym alone) (raw.is_item.ended raw.is_kept);
      is_kept = ap is_whole alone ∙ raw.is_kept;
      with_block = subst (λ zs. list_any opens_block zs ≡ true → is_ended zs ≡ true) (sym alone) raw.is_item.with_block;
      no_namespace = ap (is_namespace source) alone ∙ name;
      stands = ap piece_of alone;
    }

block_origin : (source : List ℕ) → HasGoodTokens source → (xs : List Lexeme) → IsRawItem (lexemes_of source) xs → is_namespace source xs ≡ false → item_of source xs ≡ Some (KeptBlock (piece_of xs))
    → IsOrigin source xs (KeptBlock (piece_of xs))
block_origin source good xs raw name is =
    let alone = stand_alone_in source good xs raw.is_item.stands in
    record {
      from = kept_from source good xs raw name;
      before = λ none. ap (item_of source) alone ∙ is;
      import = ap (is_import source) alone;
      ends = λ ended. ap is_ended alone ∙ ended;
    }

-- a qualified rule that is no import, and what it is read as
qualified_origin : (source : List ℕ) → HasGoodTokens source → (xs : List Lexeme) → IsRawItem (lexemes_of source) xs → is_namespace source xs ≡ false → is_at_rule xs ≡ false
    → (read : Result (List SelItem) Reason) → selectors source xs ≡ read → (ds : Option (List DeclItem)) → declarations source xs ≡ ds
    → (item : Item) → item_of source xs ≡ Some item → rule_or_block (piece_of xs) read ds ≡ Some item → IsOrigin source xs item
qualified_origin source good xs raw name qualified read reads None declares item is e =
    let same = some_same (KeptBlock (piece_of xs)) item e in
    subst (IsOrigin source xs) same (block_origin source good xs raw name (is ∙ ap (λ i. Some i) (sym same)))
qualified_origin source good xs raw name qualified (Err why) reads (Some ds) declares item is e =
    let alone = stand_alone_in source good xs raw.is_item.stands in
    let k : KeptRuleParts = record { piece = piece_of xs; decls = map (λ d. d.decl) ds; reason = number_of why } in
    let same = some_same (KeptRule k) item e in
    subst (IsOrigin source xs) same (record {
      from = kept_from source good xs raw name;
      before = (refl, ap (item_of source) alone ∙ is ∙ ap (λ i. Some i) (sym same));
      import = ap (is_import source) alone;
      ends = λ ended. ap is_ended alone ∙ ended;
    })
qualified_origin source good xs raw name qualified (Ok read) reads (Some []) declares item is e = absurd (some_not_none item (sym e))
qualified_origin source good xs raw name qualified (Ok read) reads (Some (d ∷ ds)) declares item is e =
    subst (IsOrigin source xs) (some_same (Rule (record { selectors = read; decls = d ∷ ds })) item e) (record {
      from = record {
        has_selectors = some_selectors source (selector_parts xs) read (split_some (is_sign_at comma 0) (before_first opens_block xs)) reads;
        has_declarations = λ none. cons_not_empty d ds none;
        selectors = selectors_from source good (before_first opens_block xs) in_prelude (is_sign_at comma 0) (selector_parts xs) read (split_stands (is_sign_at comma 0) (before_first opens_block xs)) reads;
        decls = by_nested (list_any (is_nested source) (entries xs)) refl declares;
      };
      before = refl;
      import = sym (not_named (codes "import") source xs qualified);
      ends = λ ended. refl;
    })
  where
    in_prelude : StandsIn (lexemes_of source) (before_first opens_block xs)
    in_prelude = stands_inside (lexemes_of source) xs (before_first opens_block xs) raw.is_item.stands (stands_taken (position_or_len opens_block xs) xs)

    in_block : StandsIn (lexemes_of source) (block xs)
    in_block = stands_inside (lexemes_of source) xs (block xs) raw.is_item.stands
        (stands_inside xs (after_first opens_block xs) (block xs) (stands_dropped (position_or_len opens_block xs + 1) xs) (stands_taken (position_or_len closes_block (after_first opens_block xs)) (after_first opens_block xs)))

    by_nested : (b : Bool) → list_any (is_nested source) (entries xs) ≡ b → (if b then None else Some (filter_map (declaration source) (entries xs))) ≡ Some (d ∷ ds) → AllByRecursion (IsOfDeclaration source) (d ∷ ds)
    by_nested true nested e = absurd (some_not_none (d ∷ ds) (sym e))
    by_nested false plain e =
        subst (AllByRecursion (IsOfDeclaration source)) (some_same (filter_map (declaration source) (entries xs)) (d ∷ ds) e)
        (declarations_from source good (block xs) in_block (none_before closes_block (after_first opens_block xs)) (entries xs) (split_stands (is_sign_at semicolon 1) (block xs)) plain)

item_origin : (source : List ℕ) → HasGoodTokens source → (xs : List Lexeme) → IsRawItem (lexemes_of source) xs → is_namespace source xs ≡ false → (item : Item) → item_of source xs ≡ Some item → IsOrigin source xs item
item_origin source good xs raw name item is = which (is_at_rule xs) refl
  where
    which : (b : Bool) → is_at_rule xs ≡ b → IsOrigin source xs item
    which true at =
        let block : item_of source xs ≡ Some (KeptBlock (piece_of xs)) =
        ap (λ b. if b then Some (KeptBlock (piece_of xs)) else rule_or_block (piece_of xs) (selectors source xs) (declarations source xs)) at in
        subst (IsOrigin source xs) (some_same (KeptBlock (piece_of xs)) item (sym block ∙ is)) (block_origin source good xs raw name block)
    which false qualified =
        qualified_origin source good xs raw name qualified (selectors source xs) refl (declarations source xs) refl item is
        (sym (ap (λ b. if b then Some (KeptBlock (piece_of xs)) else rule_or_block (piece_of xs) (selectors source xs) (declarations source xs)) qualified) ∙ is)

-- an item that is dropped is no import
dropped_no_import : (source : List ℕ) (xs : List Lexeme) → item_of source xs ≡ None → is_import source xs ≡ false
dropped_no_import source xs none = which (is_at_rule xs) refl
  where
    which : (b : Bool) → is_at_rule xs ≡ b → is_import source xs ≡ false
    which true at =
        absurd (some_not_none (KeptBlock (piece_of xs))
        (sym (ap (λ b. if b then Some (KeptBlock (piece_of xs)) else rule_or_block (piece_of xs) (selectors source xs) (declarations source xs)) at) ∙ none))
    which false qualified = not_named (codes "import") source xs qualified

-- the items that are read of those of a source
pub record AreOrigins (source : List ℕ) (raw : List (List Lexeme)) (read : List Item) : Type 0 where
  pub from : AllByRecursion (IsFrom source) read
  pub order : AreInOrder source read
  pub import : list_any is_sourced_import (all_of_source source read) ≡ list_any (is_import source) raw
  pub some : raw ≡ [] → read ≡ []

-- an item before others that were read
origin_first : (source : List ℕ) (xs : List Lexeme) (raw : List (List Lexeme)) (read : List Item) (item : Item) → EndBefore (xs ∷ raw) → AreOrigins source raw read
    → IsFrom source item → IsBefore source (list_any is_sourced_import (all_of_source source read)) item → imports source item ≡ is_import source xs → (is_ended xs ≡ true → ends_itself source item ≡ true)
    → AreOrigins source (xs ∷ raw) (item ∷ read)
origin_first source xs raw read item order rest from before import ends =
    record {
      from = (from, rest.from);
      order = (before, by_lists raw read order rest.some, rest.order);
      import = ap (λ b. b || list_any is_sourced_import (all_of_source source read)) import ∙ ap (λ b. is_import source xs || b) rest.import;
      some = λ none. absurd (cons_not_empty xs raw none);
    }
  where
    by_lists : (raw : List (List Lexeme)) (read : List Item) → EndBefore (xs ∷ raw) → (raw ≡ [] → read ≡ []) → EndsBefore (all_of_source source read) (of_source source item)
    by_lists raw [] order some = tt
    by_lists [] (next ∷ read) order some = absurd (cons_not_empty next read (some refl))
    by_lists (ys ∷ raw) (next ∷ read) order some = ends order.0

later_order : (xs : List Lexeme) (raw : List (List Lexeme)) → EndBefore (xs ∷ raw) → EndBefore raw
later_order xs [] order = tt
later_order xs (ys ∷ raw) order = order.1

pub origins : (source : List ℕ) → HasGoodTokens source → (raw : List (List Lexeme)) → AllByRecursion (IsRawItem (lexemes_of source)) raw → EndBefore raw → None_of (is_namespace source) raw
    → AreOrigins source raw (read_items source raw)
origins source good [] each order names = record { from = tt; order = tt; import = refl; some = λ none. refl }
origins source good (xs ∷ raw) each order names =
    which (origins source good raw each.1 (later_order xs raw order) names.1) (list_any (is_import source) raw) refl (item_of source xs) refl
  where
    which : AreOrigins source raw (read_items source raw) → (b : Bool) → list_any (is_import source) raw ≡ b → (read : Option Item) → item_of source xs ≡ read
        → AreOrigins source (xs ∷ raw) (read_items source (xs ∷ raw))
    which rest true import read is =
        let alone = stand_alone_in source good xs each.0.is_item.stands in
        let block : cons_option (if list_any (is_import source) raw then Some (KeptBlock (piece_of xs)) else item_of source xs) (read_items source raw) ≡ KeptBlock (piece_of xs) ∷ read_items source raw =
        ap (λ b. cons_option (if b then Some (KeptBlock (piece_of xs)) else item_of source xs) (read_items source raw)) import in
        subst (AreOrigins source (xs ∷ raw)) (sym block)
        (origin_first source xs raw (read_items source raw) (KeptBlock (piece_of xs)) order rest (kept_from source good xs each.0 names.0)
        (λ none. absurd (true≢false (sym (rest.import ∙ import) ∙ none))) (ap (is_import source) alone) (λ ended. ap is_ended alone ∙ ended))
    which rest false import None is =
        let gone : cons_option (if list_any (is_import source) raw then Some (KeptBlock (piece_of xs)) else item_of source xs) (read_items source raw) ≡ read_items source raw =
        ap (λ b. cons_option (if b then Some (KeptBlock (piece_of xs)) else item_of source xs) (read_items source raw)) import ∙ ap (λ i. cons_option i (read_items source raw)) is in
        subst (AreOrigins source (xs ∷ raw)) (sym gone)
        (record {
          from = rest.from;
          order = rest.order;
          import = rest.import ∙ ap (λ b. b || list_any (is_import source) raw) (sym (dropped_no_import source xs is));
          some = λ none. absurd (cons_not_empty xs raw none);
        })
    which rest false import (Some item) is =
        let first : cons_option (if list_any (is_import source) raw then Some (KeptBlock (piece_of xs)) else item_of source xs) (read_items source raw) ≡ item ∷ read_items source raw =
        ap (λ b. cons_option (if b then Some (KeptBlock (piece_of xs)) else item_of source xs) (read_items source raw)) import ∙ ap (λ i. cons_option i (read_items source raw)) is in
        let origin = item_origin source good xs each.0 names.0 item is in
        subst (AreOrigins source (xs ∷ raw)) (sym first)
        (origin_first source xs raw (read_items source raw) item order rest origin.from (subst (λ b. IsBefore source b item) (sym (rest.import ∙ import)) origin.before) origin.import origin.ends)
