-- What a source is read as is sound for it.
use Rattle.std.specs.Prelude.{◌||◌}
use Rattle.std.proofs.lemmas.Bool.{true≢false}
use Rattle.std.proofs.Common.{cond, ◌≡◌, ◌≢◌, ℕ, suc, nat_lt, Bool, true, false, List, [], ◌∷◌, map, length, Option, Some, None, Result, Ok, Err, refl, sym, ap, ◌∙◌, subst, arith}
use Rattle.std.specs.List.{AllByRecursion, Contains, cons_option, filter_map, list_any, onto_first, slice_split}
use Rattle.css_model.specs.declared.fault.SheetFault.{SheetFault}
use Rattle.css_model.specs.declared.reason.Reason.{Reason}
use Rattle.css_model.specs.declared.sheet.DeclItem.{DeclItem}
use Rattle.css_model.specs.declared.sheet.Item.{Item}
use Rattle.css_model.specs.declared.sheet.Item.TheVariants.{Rule, KeptRule, KeptBlock}
use Rattle.css_model.specs.declared.sheet.SelItem.{SelItem}
use Rattle.css_model.specs.declared.token.Lexeme.{Lexeme}
use Rattle.css_model.specs.Sheets.Declarations.{declaration}
use Rattle.css_model.specs.Sheets.Items.{is_at_rule, selector_parts, entries}
use Rattle.css_model.specs.Lists.{all_of, before_all}
use Rattle.css_model.specs.Sheets.Selectors.{selector_item, selectors}
use Rattle.css_model.specs.Sheets.Sheet.{item_of, read_items, rule_of, rule_or_block, sheet_of_stream}
use Rattle.css_model.specs.Sheets.Fault.{unless}
use Rattle.css_model.specs.Sheets.Sound.{IsSound, IsSoundBlock, IsSoundDeclaration, IsSoundItem, IsSoundSelector, raw_items}
use Rattle.sheet_laws.specs.Reading.{ReadIsSound}
use Rattle.css_model.specs.Text.Tokens.{tokens}
use Rattle.css_model.specs.Text.Lexemes.{piece_of, is_sign_at}
use Rattle.css_model.specs.declared.sheet.Decl.{Decl}
use Rattle.css_model.specs.declared.token.TokenFault.{TokenFault}
use Rattle.css_model.specs.Selectors.Reasons.{number_of}
use Rattle.css_model.specs.Sheets.Sheet.{is_import, too_deep, unclosed, namespace_at, too_many_items, too_many_pairs}
use Rattle.css_model.specs.Sheets.Fault.{fault_of}
use Rattle.css_model.specs.Text.Lexemes.{lexemes}
use Rattle.css_model.specs.Sheets.Declarations.{is_nested}
use Rattle.css_model.specs.Sheets.Items.{opens_block}
use Rattle.css_model.specs.Text.Characters.{comma}
use Rattle.std.specs.List.{before_first}
use Rattle.std.proofs.lemmas.Bool.{cond-true, cond-false}
use Rattle.std.specs.Str.Lossy.{utf8_valid_len}
use Rattle.css_model.specs.declared.limits.TheConstants.{MAX_BYTES}
use Rattle.css_model.specs.declared.fault.FaultKind.TheVariants.{TooLong, NotUtf8, TooDeep, EndInside, Namespace, TooManyItems, TooManyPairs}
use Rattle.list_facts.proofs.Members.{Contains-here, Contains-there}

Some-is : {A : Type 0} (x y : A) → Some x ≡ Some y → x ≡ y
Some-is x y e = cc

Ok-is : {A E : Type 0} (x y : A) → ◌≡◌ {A = Result A E} (Ok x) (Ok y) → x ≡ y
Ok-is x y e = cc

-- each member of `all_of` comes from a member of the list
all_of-from : {A B E : Type 0} (f : A → Result B E) (P : B → Type 0) (xs : List A) → ((x : A) (y : B) → Contains xs x → f x ≡ Ok y → P y)
    → (ys : List B) → all_of f xs ≡ Ok ys → AllByRecursion P ys
all_of-from f P [] h [] e = tt
all_of-from f P [] h (y ∷ ys) e = absurd (let n : length (y ∷ ys) ≡ 0 = ap length (sym (Ok-is [] (y ∷ ys) e)) in omega arith)
all_of-from {B = B} {E = E} f P (x ∷ xs) h ys e = from (f x) refl (all_of f xs) refl e (all_of-from f P xs (λ z y c. h z y (Contains-there x xs z c)))
  where
    from : (r : Result B E) → f x ≡ r → (rest : Result (List B) E) → all_of f xs ≡ rest → before_all r rest ≡ Ok ys
        → ((zs : List B) → all_of f xs ≡ Ok zs → AllByRecursion P zs) → AllByRecursion P ys
    from (Err error) is rest more e later = absurd cc
    from (Ok y) is (Err error) more e later = absurd cc
    from (Ok y) is (Ok zs) more e later = subst (AllByRecursion P) (Ok-is (y ∷ zs) ys e) (h x y (Contains-here x xs) is, later zs more)

all_of-some : {A B E : Type 0} (f : A → Result B E) (xs : List A) → xs ≢ [] → all_of f xs ≢ Ok []
all_of-some f [] some e = some refl
all_of-some {B = B} {E = E} f (x ∷ xs) some e = from (f x) (all_of f xs) e
  where
    from : (r : Result B E) (rest : Result (List B) E) → before_all r rest ≡ Ok [] → ⊥
    from (Err error) rest e = absurd cc
    from (Ok y) (Err error) e = absurd cc
    from (Ok y) (Ok zs) e = absurd (let n : length (y ∷ zs) ≡ 0 = ap length (Ok-is (y ∷ zs) [] e) in omega arith)

-- each member of `filter_map` comes from a member of the list, none of which passes the test
filter_map-from : {A B : Type 0} (f : A → Option B) (test : A → Bool) (P : B → Type 0) (xs : List A) → list_any test xs ≡ false
    → ((x : A) (y : B) → Contains xs x → test x ≡ false → f x ≡ Some y → P y) → AllByRecursion P (filter_map f xs)
filter_map-from f test P [] none h = tt
filter_map-from {B = B} f test P (x ∷ xs) none h =
    from (f x) refl (neither (test x) (list_any test xs) none) (λ fails. filter_map-from f test P xs fails (λ z y c t. h z y (Contains-there x xs z c) t))
  where
    neither : (a b : Bool) → a || b ≡ false → (a ≡ false) × (b ≡ false)
    neither false b e = (refl, e)
    neither true b e = absurd (true≢false e)

    from : (o : Option B) → f x ≡ o → (test x ≡ false) × (list_any test xs ≡ false) → (list_any test xs ≡ false → AllByRecursion P (filter_map f xs))
        → AllByRecursion P (cons_option o (filter_map f xs))
    from None is fails rest = rest fails.1
    from (Some y) is fails rest = (h x y (Contains-here x xs) fails.0 is, rest fails.1)

split-some : {A : Type 0} (p : A → Bool) (xs : List A) → slice_split p xs ≢ []
split-some p [] e = absurd (let n : 1 ≡ 0 = ap length e in omega arith)
split-some {A = A} p (x ∷ xs) e = from (p x) (slice_split p xs) e
  where
    from : (b : Bool) (parts : List (List A)) → cond b ([] ∷ parts) (onto_first x parts) ≡ [] → ⊥
    from true parts e = absurd (let n : length ([] ∷ parts) ≡ 0 = ap length e in omega arith)
    from false [] e = absurd (let n : 1 ≡ 0 = ap length e in omega arith)
    from false (part ∷ parts) e = absurd (let n : suc (length parts) ≡ 0 = ap length e in omega arith)

unless-none : {A : Type 0} (faults : List (Option SheetFault)) (x y : A) → unless faults x ≡ Ok y → x ≡ y
unless-none [] x y e = cc
unless-none (None ∷ faults) x y e = unless-none faults x y e
unless-none (Some f ∷ faults) x y e = absurd cc

selectors-sound : (source : List ℕ) (item : List Lexeme) → Contains (raw_items source) item → (read : List SelItem) → selectors source item ≡ Ok read
    → AllByRecursion (IsSoundSelector source) read
selectors-sound source item h read e =
    all_of-from (selector_item source) (IsSoundSelector source) (selector_parts item)
    (λ part s c is. record { item = item; part = part; item_in = h; part_in = c; reads = is }) read e

decls-sound : (source : List ℕ) (item : List Lexeme) → Contains (raw_items source) item → list_any (is_nested source) (entries item) ≡ false
    → AllByRecursion (IsSoundDeclaration source) (filter_map (declaration source) (entries item))
decls-sound source item h none =
    filter_map-from (declaration source) (is_nested source) (IsSoundDeclaration source) (entries item) none
    (λ entry d c plain is. record { item = item; entry = entry; item_in = h; entry_in = c; plain = plain; reads = is })

-- what an item of a source is read as is sound for it
item-sound : (source : List ℕ) (item : List Lexeme) → Contains (raw_items source) item → (x : Item) → item_of source item ≡ Some x → IsSoundItem source x
item-sound source item h x e = at (is_at_rule item) refl
  where
    block : IsSoundBlock source (piece_of item)
    block = record { item = item; item_in = h; stands = refl }

    rule : (r : Result (List SelItem) Reason) → selectors source item ≡ r → (ds : List DeclItem) → AllByRecursion (IsSoundDeclaration source) ds
        → rule_of (piece_of item) r ds ≡ Some x → IsSoundItem source x
    rule (Err reason) is ds decls here = kept (map (λ d. d.decl) ds) here
      where
        kept : (own : List Decl) → Some (KeptRule (record { piece = piece_of item; decls = own; reason = number_of reason })) ≡ Some x → IsSoundItem source x
        kept own same = subst (IsSoundItem source) (Some-is _ x same) (record { item = item; item_in = h; reads = e ∙ sym same })
    rule (Ok read) is [] decls here = absurd cc
    rule (Ok read) is (d ∷ ds) decls here =
        subst (IsSoundItem source) (Some-is (Rule (record { selectors = read; decls = d ∷ ds })) x here)
        (record {
          has_selectors = λ none. all_of-some (selector_item source) (selector_parts item) (split-some (is_sign_at comma 0) (before_first opens_block item)) (is ∙ ap Ok none);
          has_declarations = λ none. absurd (let n : length (d ∷ ds) ≡ 0 = ap length none in omega arith);
          selectors = selectors-sound source item h read is;
          decls = decls;
        })

    qualified : (b : Bool) → list_any (is_nested source) (entries item) ≡ b → rule_or_block (piece_of item) (selectors source item) (cond b None (Some (filter_map (declaration source) (entries item)))) ≡ Some x → IsSoundItem source x
    qualified true nested here = subst (IsSoundItem source) (Some-is (KeptBlock (piece_of item)) x here) block
    qualified false nested here = rule (selectors source item) refl (filter_map (declaration source) (entries item)) (decls-sound source item h nested) here

    at : (b : Bool) → is_at_rule item ≡ b → IsSoundItem source x
    at true is = subst (IsSoundItem source) (Some-is (KeptBlock (piece_of item)) x (sym (cond-true _ _ _ is) ∙ e)) block
    at false is = qualified (list_any (is_nested source) (entries item)) refl (sym (cond-false _ _ _ is) ∙ e)

read-sound : (source : List ℕ) (raw : List (List Lexeme)) → ((item : List Lexeme) → Contains raw item → Contains (raw_items source) item) → IsSound source (read_items source raw)
read-sound source [] h = tt
read-sound source (item ∷ rest) h = from (list_any (is_import source) rest) (read-sound source rest (λ z c. h z (Contains-there item rest z c)))
  where
    onto : (o : Option Item) → ((x : Item) → o ≡ Some x → IsSoundItem source x) → IsSound source (read_items source rest) → IsSound source (cons_option o (read_items source rest))
    onto None sound later = later
    onto (Some x) sound later = (sound x refl, later)

    from : (b : Bool) → IsSound source (read_items source rest)
        → IsSound source (cons_option (cond b (Some (KeptBlock (piece_of item))) (item_of source item)) (read_items source rest))
    from true later = onto (Some (KeptBlock (piece_of item)))
        (λ x e. subst (IsSoundItem source) (Some-is (KeptBlock (piece_of item)) x e) (record { item = item; item_in = h item (Contains-here item rest); stands = refl })) later
    from false later = onto (item_of source item) (item-sound source item (h item (Contains-here item rest))) later

stream-sound : (source : List ℕ) (items : List Item) (f : Option TokenFault) → f ≡ (tokens source true).fault
    → sheet_of_stream source f (tokens source true).tokens ≡ Ok items → IsSound source items
stream-sound source items (Some f) is here = absurd cc
stream-sound source items None is here =
    let ts = (tokens source true).tokens in
    let raw = raw_items source in
    let read = read_items source raw in
    let faults : List (Option SheetFault) =
    fault_of TooDeep (too_deep (lexemes ts)) ∷ fault_of EndInside (unclosed ts) ∷ fault_of Namespace (namespace_at source raw)
    ∷ fault_of TooManyItems (too_many_items read) ∷ fault_of TooManyPairs (too_many_pairs 0 read) ∷ [] in
    subst (IsSound source) (unless-none faults read items here) (read-sound source raw (λ item c. c))

pub sheet-sound : ReadIsSound
sheet-sound source items e = which (nat_lt MAX_BYTES (length source)) (nat_lt (utf8_valid_len source) (length source)) e
  where
    which : (long wrong : Bool)
        → cond long (Err (record { kind = TooLong; at = MAX_BYTES })) (cond wrong (Err (record { kind = NotUtf8; at = utf8_valid_len source }))
        (sheet_of_stream source (tokens source true).fault (tokens source true).tokens)) ≡ Ok items → IsSound source items
    which true wrong here = absurd cc
    which false true here = absurd cc
    which false false here = stream-sound source items (tokens source true).fault refl here
