-- A source is read as a sheet exactly if it is that by the grammar.
use Rattle.std.proofs.Common.{ℕ, zero, suc, ◌+◌, ◌≤◌, ◌≡◌, Bool, true, false, cond, ltb, ◌||◌, List, [], ◌∷◌, ◌++◌, Result, Ok, Err, Option, Some, None, length, refl, sym, ap, ◌∙◌, subst, arith}
use Rattle.std.specs.Prelude.{fold, slice_get}
use Rattle.std.specs.List.{after_first, before_first, cons_option, filter, filter_map, find, list_any, slice_split}
use Rattle.std.specs.Option.{option_map}
use Rattle.std.specs.Str.{IsUtf8}
use Rattle.std.specs.Str.Lossy.{utf8_valid_len}
use Rattle.std.proofs.lemmas.Bool.{false≢true, le-ltb, ltb-false, or_from, or_left, or_parts, or_right}
use Rattle.std.proofs.lemmas.List.Folds.{list_any-append}
use Rattle.std.proofs.lemmas.Str.{utf8_valid_len-IsUtf8, utf8_valid_len_le}
use Rattle.css_model.specs.declared.fault.FaultKind.TheVariants as fault_kind
use Rattle.css_model.specs.declared.fault.SheetFault.{SheetFault}
use Rattle.css_model.specs.declared.sheet.DeclItem.{DeclItem}
use Rattle.css_model.specs.declared.sheet.Item.{Item}
use Rattle.css_model.specs.declared.sheet.Item.TheVariants.{KeptBlock}
use Rattle.css_model.specs.declared.sheet.Piece.{Piece}
use Rattle.css_model.specs.declared.sheet.SelItem.{SelItem}
use Rattle.css_model.specs.declared.reason.Reason.{Reason}
use Rattle.css_model.specs.declared.token.Lexeme.{Lexeme}
use Rattle.css_model.specs.declared.token.Token.{Token}
use Rattle.css_model.specs.declared.token.TokenFault.{TokenFault}
use Rattle.css_model.specs.Documents.SelectorParts.{SelectorParts}
use Rattle.css_model.specs.Lists.{all_of, before_all}
use Rattle.css_model.specs.Selectors.Reading.{selector_of_lexemes}
use Rattle.css_model.specs.Sheets.Declarations.{declaration, declarations, is_nested}
use Rattle.css_model.specs.Sheets.Fault.{fault_of, unless}
use Rattle.css_model.specs.Sheets.Items.{block as block_of, closes_block, entries, is_at_rule, is_whole, items, opens_block, selector_parts}
use Rattle.css_model.specs.Sheets.Limits.{max_bytes, max_items, max_pairs}
use Rattle.css_model.specs.Sheets.Selectors.{selector_item, selectors, with_piece}
use Rattle.css_model.specs.Sheets.Sheet.{is_import, is_namespace, item_of, namespace_at, pairs_of, read_items, rule_of, rule_or_block, sheet_of, sheet_of_stream, sheet_of_tokens, start_of, too_deep, too_many_items, too_many_pairs, unclosed}
use Rattle.css_model.specs.Text.Characters.{close_curly, comma, open_curly, semicolon}
use Rattle.css_model.specs.Text.Lexemes.{is_sign_at, lexemes, piece_of}
use Rattle.css_model.specs.Text.Tokens.{Stream, tokens}
use Rattle.css_tokens.proofs.ForCallers.{whole_is_utf8}
use Rattle.list_facts.proofs.Cuts.{after_at, before_at}
use Rattle.selector_laws.specs.Grammar.{SelectorsAreReadExactly}
use Rattle.token_grammar.proofs.ForCallers.{tokens_are_those_of_the_grammar}
use Rattle.sheet_grammar.specs.Entries.{AreDeclarations, ArePartsBy, IsNested}
use Rattle.sheet_grammar.specs.Items.{AreItems, IsAtRule, IsBlock, IsQualifiedRule}
use Rattle.sheet_grammar.specs.Items.AreItems.{at_end as no_items, skipped, at_rule as item_at_rule, qualified_rule, dropped as prelude_dropped}
use Rattle.sheet_grammar.specs.Items.IsAtRule.{with_block, with_semicolon, at_end as ends_sheet}
use Rattle.sheet_grammar.specs.Items.IsBlock.{block as a_block}
use Rattle.sheet_grammar.specs.Laws.{SheetsAreThoseOfTheGrammar}
use Rattle.sheet_grammar.specs.Sheet.{AreRead, AreSelectors, IsRead, IsSheet, is_deep}
use Rattle.sheet_grammar.specs.Sheet.AreRead.{at_end, kept, dropped}
use Rattle.sheet_grammar.specs.Sheet.AreSelectors.{at_end as no_selectors, more as one_more}
use Rattle.sheet_grammar.specs.Sheet.IsRead.{before_import as is_before_import, at_rule as is_an_at_rule, nested as is_with_nested, style_rule, empty_rule, kept_rule}
use Rattle.sheet_grammar.specs.Sheet.IsRuleOf.{parted}
use Rattle.sheet_grammar.specs.Values.AreOpened.{all_closed}
use Rattle.sheet_grammar.proofs.EntryProofs.{decls_are, decls_read, is_nested_from, nested_is, parts_are, parts_read}
use Rattle.sheet_grammar.proofs.ItemLemmas.{flag_front, none_closes, none_of_any, sign_at}
use Rattle.sheet_grammar.proofs.ItemProofs.{items_are_those_of_the_grammar, no_block}
use Rattle.sheet_grammar.proofs.StackProofs.{brackets_match, opened_values}

-- ---- what is read of an item

-- the parts of a qualified rule
record RuleRead (item prelude inside : List Lexeme) : Type 0 where
  flag : is_at_rule item ≡ false
  front : before_first opens_block item ≡ prelude
  inner : block_of item ≡ inside

rule_read : (item prelude inside : List Lexeme) → IsQualifiedRule item prelude inside → RuleRead item prelude inside
rule_read item prelude inside q = by q.block q.joined q.is_block
  where
    by : (text : List Lexeme) → item ≡ prelude ++ text → IsBlock text inside → RuleRead item prelude inside
    by text joined (a_block x y e opening values closing) =
        let shown : item ≡ prelude ++ x ∷ (inside ++ y ∷ []) = joined ∙ ap (λ (t : List Lexeme). prelude ++ t) e in
        let none = none_of_any opens_block prelude (no_block (is_at_rule prelude) prelude q.is_prelude.apart) in
        record {
          flag = ap is_at_rule shown ∙ (flag_front prelude x (inside ++ y ∷ []) open_curly (sign_at open_curly 0 x opening) ∙ q.no_at_rule);
          front = ap (before_first opens_block) shown ∙ before_at opens_block prelude x (inside ++ y ∷ []) none opening;
          inner =
              ap (λ (t : List Lexeme). before_first closes_block (after_first opens_block t)) shown
              ∙ (ap (before_first closes_block) (after_at opens_block prelude x (inside ++ y ∷ []) none opening)
              ∙ before_at closes_block inside y [] (none_closes (Some close_curly) 1 inside values close_curly refl) closing);
        }

abbrev first_read : List ℕ → List Lexeme → List (List Lexeme) → Option Item
first_read source item later = cond (list_any (is_import source) later) (Some (KeptBlock (piece_of item))) (item_of source item)

no_import : (source : List ℕ) (item : List Lexeme) (later : List (List Lexeme)) → list_any (is_import source) later ≡ false → first_read source item later ≡ item_of source item
no_import source item later none = ap (λ (b : Bool). cond b (Some (KeptBlock (piece_of item))) (item_of source item)) none

at_rule_read : (source : List ℕ) (item : List Lexeme) → is_at_rule item ≡ true → item_of source item ≡ Some (KeptBlock (piece_of item))
at_rule_read source item flag =
    ap (λ (b : Bool). cond b (Some (KeptBlock (piece_of item))) (rule_or_block (piece_of item) (selectors source item) (declarations source item))) flag

rule_item : (source : List ℕ) (item : List Lexeme) → is_at_rule item ≡ false → item_of source item ≡ rule_or_block (piece_of item) (selectors source item) (declarations source item)
rule_item source item flag =
    ap (λ (b : Bool). cond b (Some (KeptBlock (piece_of item))) (rule_or_block (piece_of item) (selectors source item) (declarations source item))) flag

-- the declarations of a rule, where an entry is nested and where none is
nested_declarations : (source : List ℕ) (item : List Lexeme) → list_any (is_nested source) (entries item) ≡ true → declarations source item ≡ None
nested_declarations source item is =
    ap (λ (b : Bool). let o : Option (List DeclItem) = cond b None (Some (filter_map (declaration source) (entries item))) in o) is

plain_declarations : (source : List ℕ) (item : List Lexeme) → list_any (is_nested source) (entries item) ≡ false
    → declarations source item ≡ Some (filter_map (declaration source) (entries item))
plain_declarations source item is =
    ap (λ (b : Bool). let o : Option (List DeclItem) = cond b None (Some (filter_map (declaration source) (entries item))) in o) is

entries_are : (item prelude inside : List Lexeme) (found : List (List Lexeme)) → RuleRead item prelude inside → ArePartsBy semicolon 1 inside found → entries item ≡ found
entries_are item prelude inside found r parts = ap (slice_split (is_sign_at semicolon 1)) r.inner ∙ parts_read semicolon 1 inside found parts

-- what is kept of an item, by the readers of selectors
data IsReadBy (source : List ℕ) (item : List Lexeme) (later : List (List Lexeme)) : Option Item → Type 0 where
  before_import : list_any (is_import source) later ≡ true → IsReadBy source item later (Some (KeptBlock (piece_of item)))
  at_rule : list_any (is_import source) later ≡ false → is_at_rule item ≡ true → IsReadBy source item later (Some (KeptBlock (piece_of item)))
  nested : (prelude inside entry : List Lexeme) (before after parts : List (List Lexeme)) → list_any (is_import source) later ≡ false → IsQualifiedRule item prelude inside
      → ArePartsBy semicolon 1 inside (before ++ entry ∷ after) → ArePartsBy comma 0 prelude parts → IsNested source entry → IsReadBy source item later (Some (KeptBlock (piece_of item)))
  rule : (prelude inside : List Lexeme) (parts entries : List (List Lexeme)) (decls : List DeclItem) → list_any (is_import source) later ≡ false
      → IsQualifiedRule item prelude inside → ArePartsBy comma 0 prelude parts → ArePartsBy semicolon 1 inside entries → AreDeclarations source entries decls
      → IsReadBy source item later (rule_of (piece_of item) (all_of (selector_item source) parts) decls)

read_is : (source : List ℕ) (item : List Lexeme) (later : List (List Lexeme)) (o : Option Item) → IsReadBy source item later o → first_read source item later ≡ o
read_is source item later o (before_import is) = ap (λ (b : Bool). cond b (Some (KeptBlock (piece_of item))) (item_of source item)) is
read_is source item later o (at_rule none flag) = no_import source item later none ∙ at_rule_read source item flag
read_is source item later o (nested prelude inside entry before after fronts none q parts fronts_are is) =
    let r = rule_read item prelude inside q in
    let found = entries_are item prelude inside (before ++ entry ∷ after) r parts in
    let any : list_any (is_nested source) (before ++ entry ∷ after) ≡ true =
    list_any-append (is_nested source) before (entry ∷ after)
    ∙ or_right (list_any (is_nested source) before) (list_any (is_nested source) (entry ∷ after)) (or_left (is_nested source entry) (list_any (is_nested source) after) (nested_is source entry is)) in
    let all : list_any (is_nested source) (entries item) ≡ true = ap (list_any (is_nested source)) found ∙ any in
    no_import source item later none
    ∙ (rule_item source item r.flag ∙ ap (λ (o : Option (List DeclItem)). rule_or_block (piece_of item) (selectors source item) o) (nested_declarations source item all))
read_is source item later o (rule prelude inside parts found decls none q parts_is found_is decls_is) =
    let r = rule_read item prelude inside q in
    let same = entries_are item prelude inside found r found_is in
    let read = decls_read source found decls decls_is in
    let all : list_any (is_nested source) (entries item) ≡ false = ap (list_any (is_nested source)) same ∙ read.0 in
    let declared : declarations source item ≡ Some decls =
    plain_declarations source item all ∙ ap (λ (t : List (List Lexeme)). Some (filter_map (declaration source) t)) same ∙ ap (λ (t : List DeclItem). Some t) read.1 in
    let front : selector_parts item ≡ parts = ap (slice_split (is_sign_at comma 0)) r.front ∙ parts_read comma 0 prelude parts parts_is in
    no_import source item later none
    ∙ (rule_item source item r.flag
    ∙ (ap (λ (o : Option (List DeclItem)). rule_or_block (piece_of item) (selectors source item) o) declared
    ∙ ap (λ (t : List (List Lexeme)). rule_of (piece_of item) (all_of (selector_item source) t) decls) front))

-- and there is such an answer
at_rule_is : (source : List ℕ) (item : List Lexeme) (later : List (List Lexeme)) → is_at_rule item ≡ true → IsReadBy source item later (first_read source item later)
at_rule_is source item later flag = by (list_any (is_import source) later) refl
  where
    by : (b : Bool) → list_any (is_import source) later ≡ b → IsReadBy source item later (cond b (Some (KeptBlock (piece_of item))) (item_of source item))
    by true is = before_import is
    by false none = subst (IsReadBy source item later) (sym (at_rule_read source item flag)) (at_rule none flag)

-- a list with a member that passes
record Split (p : List Lexeme → Bool) (xs : List (List Lexeme)) : Type 0 where
  before : List (List Lexeme)
  entry : List Lexeme
  after : List (List Lexeme)
  joined : xs ≡ before ++ entry ∷ after
  passes : p entry ≡ true

split_any : (p : List Lexeme → Bool) (xs : List (List Lexeme)) → list_any p xs ≡ true → Split p xs
split_any p [] is = absurd (false≢true is)
split_any p (x ∷ xs) is = by (p x) refl (λ (is : list_any p xs ≡ true). split_any p xs is)
  where
    by : (b : Bool) → p x ≡ b → (list_any p xs ≡ true → Split p xs) → Split p (x ∷ xs)
    by true here later = record { before = []; entry = x; after = xs; joined = refl; passes = here }
    by false none later =
        let s = later (ap (λ (b : Bool). b || list_any p xs) (sym none) ∙ is) in
        record { before = x ∷ s.before; entry = s.entry; after = s.after; joined = ap (λ (t : List (List Lexeme)). x ∷ t) s.joined; passes = s.passes }

qualified_is : (source : List ℕ) (item prelude inside : List Lexeme) (later : List (List Lexeme)) → IsQualifiedRule item prelude inside → IsReadBy source item later (first_read source item later)
qualified_is source item prelude inside later q = by (list_any (is_import source) later) refl
  where
    parts : ArePartsBy semicolon 1 inside (slice_split (is_sign_at semicolon 1) inside)
    parts = parts_are semicolon 1 inside

    with_nested : list_any (is_import source) later ≡ false → Split (is_nested source) (slice_split (is_sign_at semicolon 1) inside)
        → IsReadBy source item later (Some (KeptBlock (piece_of item)))
    with_nested none s =
        nested prelude inside s.entry s.before s.after (slice_split (is_sign_at comma 0) prelude) none q (subst (ArePartsBy semicolon 1 inside) s.joined parts) (parts_are comma 0 prelude)
        (is_nested_from source s.entry s.passes)

    in_rule : list_any (is_import source) later ≡ false → (b : Bool) → list_any (is_nested source) (slice_split (is_sign_at semicolon 1) inside) ≡ b
        → (o : Option Item) → first_read source item later ≡ o → IsReadBy source item later o
    in_rule none true is o e =
        let there = with_nested none (split_any (is_nested source) (slice_split (is_sign_at semicolon 1) inside) is) in
        subst (IsReadBy source item later) (sym (read_is source item later (Some (KeptBlock (piece_of item))) there) ∙ e) there
    in_rule none false is o e =
        let decls = filter_map (declaration source) (slice_split (is_sign_at semicolon 1) inside) in
        let there = rule prelude inside (slice_split (is_sign_at comma 0) prelude) (slice_split (is_sign_at semicolon 1) inside) decls none q (parts_are comma 0 prelude) parts
        (decls_are source (slice_split (is_sign_at semicolon 1) inside) is) in
        subst (IsReadBy source item later)
        (sym (read_is source item later (rule_of (piece_of item) (all_of (selector_item source) (slice_split (is_sign_at comma 0) prelude)) decls) there) ∙ e) there

    by : (b : Bool) → list_any (is_import source) later ≡ b → IsReadBy source item later (first_read source item later)
    by true is = subst (IsReadBy source item later) (sym (ap (λ (b : Bool). cond b (Some (KeptBlock (piece_of item))) (item_of source item)) is)) (before_import is)
    by false none = in_rule none (list_any (is_nested source) (slice_split (is_sign_at semicolon 1) inside)) refl (first_read source item later) refl

-- ---- selectors of the profile

-- a reading with its place
with_piece_ok : (piece : Piece) (r : Result SelectorParts Reason) (x : SelItem) → with_piece piece r ≡ Ok x → (selector : SelectorParts) × (r ≡ Ok selector) × (x ≡ record { selector = selector; piece = piece })
with_piece_ok piece (Ok selector) x e =
    let same : record { selector = selector; piece = piece } ≡ x = cc (e) in
    (selector, refl, sym same)
with_piece_ok piece (Err reason) x e = absurd (cc (e))

-- the readings of a list
record BothRead (a : Result SelItem Reason) (b : Result (List SelItem) Reason) (xs : List SelItem) : Type 0 where
  first : SelItem
  rest : List SelItem
  is_first : a ≡ Ok first
  is_rest : b ≡ Ok rest
  joined : first ∷ rest ≡ xs

both_read : (a : Result SelItem Reason) (b : Result (List SelItem) Reason) (xs : List SelItem) → before_all a b ≡ Ok xs → BothRead a b xs
both_read (Err reason) b xs e = absurd (cc (e))
both_read (Ok x) (Err reason) xs e = absurd (cc (e))
both_read (Ok x) (Ok ys) xs e = let same : x ∷ ys ≡ xs = cc (e) in record { first = x; rest = ys; is_first = refl; is_rest = refl; joined = same }

module _ (exact : SelectorsAreReadExactly) where
  selectors_read : (source : List ℕ) (parts : List (List Lexeme)) (xs : List SelItem) → AreSelectors source parts xs → all_of (selector_item source) parts ≡ Ok xs
  selectors_read source parts xs no_selectors = refl
  selectors_read source parts xs (one_more part selector others rest is keeps later) =
      let read : selector_item source part ≡ Ok (record { selector = selector; piece = piece_of part }) = ap (with_piece (piece_of part)) ((exact source part selector).1 (is, keeps)) in
      ap (λ (r : Result SelItem Reason). before_all r (all_of (selector_item source) others)) read
      ∙ ap (before_all (Ok (record { selector = selector; piece = piece_of part }))) (selectors_read source others rest later)

  selectors_are : (source : List ℕ) (parts : List (List Lexeme)) (xs : List SelItem) → all_of (selector_item source) parts ≡ Ok xs → AreSelectors source parts xs
  selectors_are source [] xs e =
      let same : ◌≡◌ {A = List SelItem} [] xs = cc (e) in
      subst (AreSelectors source []) same no_selectors
  selectors_are source (part ∷ parts) xs e = of (both_read (selector_item source part) (all_of (selector_item source) parts) xs e) (λ (ys : List SelItem) (e : all_of (selector_item source) parts ≡ Ok ys). selectors_are source parts ys e)
    where
      of : BothRead (selector_item source part) (all_of (selector_item source) parts) xs → ((ys : List SelItem) → all_of (selector_item source) parts ≡ Ok ys → AreSelectors source parts ys)
          → AreSelectors source (part ∷ parts) xs
      of b later =
          let w = with_piece_ok (piece_of part) (selector_of_lexemes source part) b.first b.is_first in
          let two = (exact source part w.0).0 w.1 in
          subst (AreSelectors source (part ∷ parts)) (ap (λ (x : SelItem). x ∷ b.rest) (sym w.2) ∙ b.joined) (one_more part w.0 parts b.rest two.0 two.1 (later b.rest b.is_rest))

  -- both forms of what is kept of an item
  to_readers : (source : List ℕ) (item : List Lexeme) (later : List (List Lexeme)) (o : Option Item) → IsRead source item later o → IsReadBy source item later o
  to_readers source item later o (is_before_import is) = before_import is
  to_readers source item later o (is_an_at_rule none flag) = at_rule none flag
  to_readers source item later o (is_with_nested entry parts before after none (parted prelude inside q fronts inner) is) = nested prelude inside entry before after parts none q inner fronts is
  to_readers source item later o (style_rule parts entries xs d ds none (parted prelude inside q fronts inner) selectors_is decls) =
      subst (IsReadBy source item later) (ap (λ (r : Result (List SelItem) Reason). rule_of (piece_of item) r (d ∷ ds)) (selectors_read source parts xs selectors_is))
      (rule prelude inside parts entries (d ∷ ds) none q fronts inner decls)
  to_readers source item later o (empty_rule parts entries xs none (parted prelude inside q fronts inner) selectors_is decls) =
      subst (IsReadBy source item later) (ap (λ (r : Result (List SelItem) Reason). rule_of (piece_of item) r []) (selectors_read source parts xs selectors_is))
      (rule prelude inside parts entries [] none q fronts inner decls)
  to_readers source item later o (kept_rule parts entries reason ds none (parted prelude inside q fronts inner) refused decls) =
      subst (IsReadBy source item later) (ap (λ (r : Result (List SelItem) Reason). rule_of (piece_of item) r ds) refused) (rule prelude inside parts entries ds none q fronts inner decls)

  from_readers : (source : List ℕ) (item : List Lexeme) (later : List (List Lexeme)) (o : Option Item) → IsReadBy source item later o → IsRead source item later o
  from_readers source item later o (before_import is) = is_before_import is
  from_readers source item later o (at_rule none flag) = is_an_at_rule none flag
  from_readers source item later o (nested prelude inside entry before after parts none q inner fronts is) = is_with_nested entry parts before after none (parted prelude inside q fronts inner) is
  from_readers source item later o (rule prelude inside parts entries decls none q fronts inner are) = by (all_of (selector_item source) parts) refl decls are
    where
      by : (r : Result (List SelItem) Reason) → all_of (selector_item source) parts ≡ r → (ds : List DeclItem) → AreDeclarations source entries ds
          → IsRead source item later (rule_of (piece_of item) r ds)
      by (Ok xs) e [] are = empty_rule parts entries xs none (parted prelude inside q fronts inner) (selectors_are source parts xs e) are
      by (Ok xs) e (d ∷ ds) are = style_rule parts entries xs d ds none (parted prelude inside q fronts inner) (selectors_are source parts xs e) are
      by (Err reason) e ds are = kept_rule parts entries reason ds none (parted prelude inside q fronts inner) e are

-- ---- what is read of items

pub items_read_as : SelectorsAreReadExactly → (source : List ℕ) (found : List (List Lexeme)) (sheet : List Item) → AreRead source found sheet → read_items source found ≡ sheet
items_read_as exact source found sheet at_end = refl
items_read_as exact source found sheet (kept item later x xs is more) =
    ap (λ (o : Option Item). cons_option o (read_items source later)) (read_is source item later (Some x) (to_readers exact source item later (Some x) is)) ∙ ap (λ (t : List Item). x ∷ t) (items_read_as exact source later xs more)
items_read_as exact source found sheet (dropped item later xs is more) =
    ap (λ (o : Option Item). cons_option o (read_items source later)) (read_is source item later None (to_readers exact source item later None is)) ∙ items_read_as exact source later xs more

with_read : (source : List ℕ) (item : List Lexeme) (later : List (List Lexeme)) (xs : List Item) (o : Option Item) → IsRead source item later o → AreRead source later xs
    → AreRead source (item ∷ later) (cons_option o xs)
with_read source item later xs None is more = dropped item later xs is more
with_read source item later xs (Some x) is more = kept item later x xs is more

at_rule_flag : (item rest : List Lexeme) → IsAtRule item rest → is_at_rule item ≡ true
at_rule_flag item rest (with_block prelude text inside joined flag p (a_block x y e opening values closing)) =
    ap is_at_rule (joined ∙ ap (λ (t : List Lexeme). prelude ++ t) e) ∙ (flag_front prelude x (inside ++ y ∷ []) open_curly (sign_at open_curly 0 x opening) ∙ flag)
at_rule_flag item rest (with_semicolon prelude y joined flag p is) = ap is_at_rule joined ∙ (flag_front prelude y [] semicolon (sign_at semicolon 0 y is) ∙ flag)
at_rule_flag item rest (ends_sheet flag p end) = flag

pub items_are_read : SelectorsAreReadExactly → (source : List ℕ) (xs : List Lexeme) (found : List (List Lexeme)) → AreItems xs found → AreRead source found (read_items source found)
items_are_read exact source xs found no_items = at_end
items_are_read exact source xs found (skipped x rest others is later) = items_are_read exact source rest others later
items_are_read exact source xs found (item_at_rule item rest others is later) =
    with_read source item others (read_items source others) (first_read source item others) (from_readers exact source item others (first_read source item others) (at_rule_is source item others (at_rule_flag item rest is))) (items_are_read exact source rest others later)
items_are_read exact source xs found (qualified_rule item rest prelude inside others is later) =
    with_read source item others (read_items source others) (first_read source item others) (from_readers exact source item others (first_read source item others) (qualified_is source item prelude inside others is)) (items_are_read exact source rest others later)
items_are_read exact source xs found (prelude_dropped prelude some flag p) = at_end

-- ---- limits

pub find_none : {A : Type 0} (p : A → Bool) (xs : List A) → list_any p xs ≡ false → find p xs ≡ None
find_none p [] none = refl
find_none p (x ∷ xs) none =
    let two = or_parts (p x) (list_any p xs) none in
    ap (λ (b : Bool). cond b (Some x) (find p xs)) two.0 ∙ find_none p xs two.1

pub none_found : {A : Type 0} (p : A → Bool) (xs : List A) → find p xs ≡ None → list_any p xs ≡ false
none_found p [] e = refl
none_found p (x ∷ xs) e = by (p x) refl (λ (e : find p xs ≡ None). none_found p xs e)
  where
    by : (b : Bool) → p x ≡ b → (find p xs ≡ None → list_any p xs ≡ false) → list_any p (x ∷ xs) ≡ false
    by true is later = let wrong = sym (ap (λ (b : Bool). cond b (Some x) (find p xs)) is) ∙ e in absurd (cc (wrong))
    by false is later = or_from (p x) (list_any p xs) is (later (sym (ap (λ (b : Bool). cond b (Some x) (find p xs)) is) ∙ e))

pub map_none : {A B : Type 0} (f : A → B) (o : Option A) → option_map f o ≡ None → o ≡ None
map_none f None e = refl
map_none f (Some x) e = absurd (cc (e))

pub get_past : {A : Type 0} (xs : List A) (n : ℕ) → length xs ≤ n → slice_get xs n ≡ None
get_past [] n le = refl
get_past (x ∷ xs) zero le = absurd (omega (arith, le))
get_past (x ∷ xs) (suc n) le = get_past xs n (omega (arith, le))

pub past_get : {A : Type 0} (xs : List A) (n : ℕ) → slice_get xs n ≡ None → length xs ≤ n
past_get [] n e = omega arith
past_get (x ∷ xs) zero e = absurd (cc (e))
past_get (x ∷ xs) (suc n) e = omega (arith, past_get xs n e)

abbrev pub pairs_from : ℕ → List Item → ℕ
pairs_from n xs = fold (λ a x. a + pairs_of x) n xs

pub pairs_more : (n : ℕ) (xs : List Item) → n ≤ pairs_from n xs
pairs_more n [] = omega arith
pairs_more n (x ∷ xs) = omega (arith, pairs_more (n + pairs_of x) xs)

pub few_pairs : (n : ℕ) (xs : List Item) → pairs_from n xs ≤ max_pairs → too_many_pairs n xs ≡ None
few_pairs n [] le = refl
few_pairs n (x ∷ xs) le =
    let test : ltb max_pairs (n + pairs_of x) ≡ false = le-ltb max_pairs (n + pairs_of x) (omega (arith, le, pairs_more (n + pairs_of x) xs)) in
    ap (λ (b : Bool). cond b (Some (start_of x)) (too_many_pairs (n + pairs_of x) xs)) test ∙ few_pairs (n + pairs_of x) xs le

pub pairs_few : (n : ℕ) (xs : List Item) → n ≤ max_pairs → too_many_pairs n xs ≡ None → pairs_from n xs ≤ max_pairs
pairs_few n [] le e = le
pairs_few n (x ∷ xs) le e = by (ltb max_pairs (n + pairs_of x)) refl (λ (le : n + pairs_of x ≤ max_pairs) (e : too_many_pairs (n + pairs_of x) xs ≡ None). pairs_few (n + pairs_of x) xs le e)
  where
    by : (b : Bool) → ltb max_pairs (n + pairs_of x) ≡ b → (n + pairs_of x ≤ max_pairs → too_many_pairs (n + pairs_of x) xs ≡ None → pairs_from (n + pairs_of x) xs ≤ max_pairs)
        → pairs_from n (x ∷ xs) ≤ max_pairs
    by true is later = let wrong = sym (ap (λ (b : Bool). cond b (Some (start_of x)) (too_many_pairs (n + pairs_of x) xs)) is) ∙ e in absurd (cc (wrong))
    by false is later = later (ltb-false max_pairs (n + pairs_of x) is) (sym (ap (λ (b : Bool). cond b (Some (start_of x)) (too_many_pairs (n + pairs_of x) xs)) is) ∙ e)

-- the faults in their order
abbrev pub judged : Option ℕ → Option ℕ → Option ℕ → Option ℕ → Option ℕ → List Item → Result (List Item) SheetFault
judged a b c d e read =
    unless
    (fault_of fault_kind.TooDeep a
    ∷ fault_of fault_kind.EndInside b
    ∷ fault_of fault_kind.Namespace c
    ∷ fault_of fault_kind.TooManyItems d
    ∷ fault_of fault_kind.TooManyPairs e
    ∷ [])
    read

record NoFault (a b c d e : Option ℕ) (read sheet : List Item) : Type 0 where
  no_a : a ≡ None
  no_b : b ≡ None
  no_c : c ≡ None
  no_d : d ≡ None
  no_e : e ≡ None
  same : read ≡ sheet

judged_none : (a b c d e : Option ℕ) (read sheet : List Item) → NoFault a b c d e read sheet → judged a b c d e read ≡ Ok sheet
judged_none a b c d e read sheet n =
    ap (λ (o : Option ℕ). judged o b c d e read) n.no_a
    ∙ (ap (λ (o : Option ℕ). judged None o c d e read) n.no_b
    ∙ (ap (λ (o : Option ℕ). judged None None o d e read) n.no_c
    ∙ (ap (λ (o : Option ℕ). judged None None None o e read) n.no_d
    ∙ (ap (λ (o : Option ℕ). judged None None None None o read) n.no_e ∙ ap (λ (t : List Item). judged None None None None None t) n.same))))

none_judged : (a b c d e : Option ℕ) (read sheet : List Item) → judged a b c d e read ≡ Ok sheet → NoFault a b c d e read sheet
none_judged (Some x) b c d e read sheet h = absurd (cc (h))
none_judged None (Some x) c d e read sheet h = absurd (cc (h))
none_judged None None (Some x) d e read sheet h = absurd (cc (h))
none_judged None None None (Some x) e read sheet h = absurd (cc (h))
none_judged None None None None (Some x) read sheet h = absurd (cc (h))
none_judged None None None None None read sheet h = let same : read ≡ sheet = cc (h) in record { no_a = refl; no_b = refl; no_c = refl; no_d = refl; no_e = refl; same = same }

-- ---- sheets

pub short_or : (source : List ℕ) (x y : Result (List Item) SheetFault) → length source ≤ max_bytes → cond (ltb max_bytes (length source)) x y ≡ y
short_or source x y le = ap (λ (b : Bool). cond b x y) (le-ltb max_bytes (length source) le)

pub utf8_or : (source : List ℕ) (x y : Result (List Item) SheetFault) → IsUtf8 source → cond (ltb (utf8_valid_len source) (length source)) x y ≡ y
utf8_or source x y is = ap (λ (b : Bool). cond b x y) (le-ltb (utf8_valid_len source) (length source) (omega (arith, utf8_valid_len-IsUtf8 source is)))

sheet_read : SelectorsAreReadExactly → (source : List ℕ) (sheet : List Item) → IsSheet source sheet → sheet_of source ≡ Ok sheet
sheet_read exact source sheet s =
    let stream : tokens source true ≡ record { tokens = s.tokens; fault = None } = (tokens_are_those_of_the_grammar source true s.tokens None).0 s.are_tokens in
    let two = (brackets_match s.tokens s.lexemes None).0 (s.are_lexemes, all_closed None 0 s.lexemes s.balanced) in
    let raw : filter is_whole (items (lexemes s.tokens)) ≡ s.items =
    ap (λ (t : List Lexeme). filter is_whole (items t)) two.0 ∙ (items_are_those_of_the_grammar s.lexemes s.items s.balanced).0 s.are_items in
    let read : read_items source (filter is_whole (items (lexemes s.tokens))) ≡ sheet = ap (read_items source) raw ∙ items_read_as exact source s.items sheet s.are_read in
    let faults : NoFault (too_deep (lexemes s.tokens)) (unclosed s.tokens) (namespace_at source (filter is_whole (items (lexemes s.tokens))))
    (too_many_items (read_items source (filter is_whole (items (lexemes s.tokens))))) (too_many_pairs 0 (read_items source (filter is_whole (items (lexemes s.tokens)))))
    (read_items source (filter is_whole (items (lexemes s.tokens)))) sheet = record {
      no_a = ap too_deep two.0 ∙ ap (option_map (λ (x : Lexeme). x.span.start)) (find_none is_deep s.lexemes s.shallow);
      no_b = two.1;
      no_c = ap (namespace_at source) raw ∙ ap (option_map (λ (item : List Lexeme). (piece_of item).start)) (find_none (is_namespace source) s.items s.no_namespace);
      no_d = ap too_many_items read ∙ ap (option_map start_of) (get_past sheet max_items s.few_items);
      no_e = ap (too_many_pairs 0) read ∙ few_pairs 0 sheet s.few_pairs;
      same = read;
    } in
    short_or source _ _ s.short
    ∙ (utf8_or source _ _ s.utf8
    ∙ (ap (λ (t : Stream). sheet_of_stream source t.fault t.tokens) stream
    ∙ judged_none (too_deep (lexemes s.tokens)) (unclosed s.tokens) (namespace_at source (filter is_whole (items (lexemes s.tokens))))
    (too_many_items (read_items source (filter is_whole (items (lexemes s.tokens))))) (too_many_pairs 0 (read_items source (filter is_whole (items (lexemes s.tokens)))))
    (read_items source (filter is_whole (items (lexemes s.tokens)))) sheet faults))

-- a reading without a fault
by_tests : (source : List ℕ) (sheet : List Item) → sheet_of source ≡ Ok sheet
    → (length source ≤ max_bytes) × (IsUtf8 source) × (sheet_of_stream source (tokens source true).fault (tokens source true).tokens ≡ Ok sheet)
by_tests source sheet h = by (ltb max_bytes (length source)) refl (ltb (utf8_valid_len source) (length source)) refl h
  where
    by : (a : Bool) → ltb max_bytes (length source) ≡ a → (b : Bool) → ltb (utf8_valid_len source) (length source) ≡ b
        → cond a (Err (record { kind = fault_kind.TooLong; at = max_bytes })) (cond b (Err (record { kind = fault_kind.NotUtf8; at = utf8_valid_len source }))
        (sheet_of_stream source (tokens source true).fault (tokens source true).tokens)) ≡ Ok sheet
        → (length source ≤ max_bytes) × (IsUtf8 source) × (sheet_of_stream source (tokens source true).fault (tokens source true).tokens ≡ Ok sheet)
    by true a b is h = absurd (cc (h))
    by false a true is h = absurd (cc (h))
    by false a false is h =
        let size : utf8_valid_len source ≡ length source = omega (arith, ltb-false (utf8_valid_len source) (length source) is, utf8_valid_len_le source) in
        (ltb-false max_bytes (length source) a, whole_is_utf8 source size, h)

sheet_is : SelectorsAreReadExactly → (source : List ℕ) (sheet : List Item) → sheet_of source ≡ Ok sheet → IsSheet source sheet
sheet_is exact source sheet h = of (by_tests source sheet h)
  where
    with_tokens : length source ≤ max_bytes → IsUtf8 source → (ts : List Token) → tokens source true ≡ record { tokens = ts; fault = None } → sheet_of_tokens source ts ≡ Ok sheet → IsSheet source sheet
    with_tokens short utf8 ts stream e = found
        (none_judged (too_deep (lexemes ts)) (unclosed ts) (namespace_at source (filter is_whole (items (lexemes ts)))) (too_many_items (read_items source (filter is_whole (items (lexemes ts)))))
        (too_many_pairs 0 (read_items source (filter is_whole (items (lexemes ts))))) (read_items source (filter is_whole (items (lexemes ts)))) sheet e)
      where
        found : NoFault (too_deep (lexemes ts)) (unclosed ts) (namespace_at source (filter is_whole (items (lexemes ts)))) (too_many_items (read_items source (filter is_whole (items (lexemes ts)))))
            (too_many_pairs 0 (read_items source (filter is_whole (items (lexemes ts))))) (read_items source (filter is_whole (items (lexemes ts)))) sheet → IsSheet source sheet
        found n =
            let opened = (brackets_match ts (lexemes ts) None).1 (refl, n.no_b) in
            let values = opened_values None 0 None (lexemes ts) opened.1 refl in
            let are_items = (items_are_those_of_the_grammar (lexemes ts) (filter is_whole (items (lexemes ts))) values).1 refl in
            record {
              tokens = ts;
              lexemes = lexemes ts;
              items = filter is_whole (items (lexemes ts));
              short = short;
              utf8 = utf8;
              are_tokens = (tokens_are_those_of_the_grammar source true ts None).1 stream;
              are_lexemes = opened.0;
              balanced = values;
              shallow = none_found is_deep (lexemes ts) (map_none (λ (x : Lexeme). x.span.start) (find is_deep (lexemes ts)) n.no_a);
              are_items = are_items;
              no_namespace = none_found (is_namespace source) (filter is_whole (items (lexemes ts)))
                  (map_none (λ (item : List Lexeme). (piece_of item).start) (find (is_namespace source) (filter is_whole (items (lexemes ts)))) n.no_c);
              are_read = subst (AreRead source (filter is_whole (items (lexemes ts)))) n.same (items_are_read exact source (lexemes ts) (filter is_whole (items (lexemes ts))) are_items);
              few_items = subst (λ (t : List Item). length t ≤ max_items) n.same
                  (past_get (read_items source (filter is_whole (items (lexemes ts)))) max_items
                  (map_none start_of (slice_get (read_items source (filter is_whole (items (lexemes ts)))) max_items) n.no_d));
              few_pairs = subst (λ (t : List Item). pairs_from 0 t ≤ max_pairs) n.same (pairs_few 0 (read_items source (filter is_whole (items (lexemes ts)))) (omega arith) n.no_e);
            }

    with_stream : length source ≤ max_bytes → IsUtf8 source → (f : Option TokenFault) → (tokens source true).fault ≡ f → sheet_of_stream source f (tokens source true).tokens ≡ Ok sheet
        → IsSheet source sheet
    with_stream short utf8 (Some f) is e = absurd (cc (e))
    with_stream short utf8 None is e =
        let stream : tokens source true ≡ record { tokens = (tokens source true).tokens; fault = None } =
        ap (λ (f : Option TokenFault). let s : Stream = record { tokens = (tokens source true).tokens; fault = f } in s) is in
        with_tokens short utf8 (tokens source true).tokens stream e

    of : (length source ≤ max_bytes) × (IsUtf8 source) × (sheet_of_stream source (tokens source true).fault (tokens source true).tokens ≡ Ok sheet) → IsSheet source sheet
    of three = with_stream three.0 three.1 (tokens source true).fault refl three.2

pub sheets_are_those_of_the_grammar : SelectorsAreReadExactly → SheetsAreThoseOfTheGrammar
sheets_are_those_of_the_grammar exact source sheet = (λ s. sheet_read exact source sheet s, λ e. sheet_is exact source sheet e)
