-- A sheet that is read has no fault, and its items are those of its source.
use Rattle.std.proofs.Common.{◌≡◌, ◌≢◌, inl, inr, subst, ℕ, zero, suc, ◌≤◌, Bool, true, false, List, [], ◌∷◌, ◌++◌, length, Option, Some, None, Result, Ok, Err, refl, sym, ◌∙◌, ap, arith}
use Rattle.std.specs.Prelude.{◌||◌, if◌then◌else◌, nat_lt, slice_get}
use Rattle.std.specs.List.{AllByRecursion, find, list_any}
use Rattle.std.specs.Option.{option_map}
use Rattle.std.specs.Str.Lossy.{utf8_valid_len}
use Rattle.css_model.specs.declared.fault.FaultKind.TheVariants.{TooLong, NotUtf8}
use Rattle.css_model.specs.declared.limits.TheConstants.{MAX_BYTES, MAX_ITEMS}
use Rattle.css_model.specs.declared.sheet.Item.{Item}
use Rattle.css_model.specs.declared.sheet.Item.TheVariants.{Rule, KeptRule, KeptBlock}
use Rattle.css_model.specs.declared.token.TokenFault.{TokenFault}
use Rattle.css_model.specs.Text.Lexemes.{piece_of}
use Rattle.css_model.specs.Sheets.RuleParts.{RuleParts}
use Rattle.css_model.specs.Sheets.Sheet.{is_namespace, read_items, start_of, too_many_pairs, too_deep, unclosed, namespace_at, too_many_items, token_fault, sheet_of_tokens, sheet_of_stream, sheet_of}
use Rattle.css_model.specs.Sheets.Sound.{raw_items}
use Rattle.css_model.specs.Sheets.Spelling.{lexemes_of}
use Rattle.css_model.specs.Text.Tokens.{tokens}
use Rattle.css_model.specs.Sheets.ComesFrom.{Follows}
use Rattle.sheet_laws.proofs.Printed.Blocks.{IsOfDeclaration}
use Rattle.sheet_laws.proofs.Printed.Faults.{DoFit, by_tests, is_deep, find_none}
use Rattle.list_facts.proofs.Zips.{cons_not_empty, some_not_none}
use Rattle.sheet_laws.proofs.Source.Origins.{HasGoodTokens, AreOrigins, origins}
use Rattle.sheet_laws.proofs.Source.Raw.{raw_stand}
use Rattle.sheet_laws.specs.Sourced.{all_of_source, of_source}
use Rattle.sheet_laws.proofs.Printed.Sheet.{IsFrom, AreInOrder, EndsBefore, imports, is_sourced_import, IsBefore}
use Rattle.sheet_laws.proofs.Source.Closed.{all_closed}

abbrev ok_or : {A E : Type 0} → A → Result A E → A
ok_or d (Ok x) = x
ok_or d (Err e) = d

ok_same : {A E : Type 0} (x y : A) → ◌≡◌ {A = Result A E} (Ok x) (Ok y) → x ≡ y
ok_same x y e = ap (ok_or x) e

err_not_ok : {A E : Type 0} (f : E) (x : A) → ◌≡◌ {A = Result A E} (Err f) (Ok x) → ⊥
err_not_ok f x e = absurd (cc)

pub no_map : {A B : Type 0} (f : A → B) (x : Option A) → option_map f x ≡ None → x ≡ None
no_map f None e = refl
no_map f (Some x) e = absurd (some_not_none (f x) e)

-- a list of items whose faults were tested
pub record HasNoFault (deep unclosed namespace many pairs : Option ℕ) (read its : List Item) : Type 0 where
  pub no_deep : deep ≡ None
  pub no_unclosed : unclosed ≡ None
  pub no_namespace : namespace ≡ None
  pub no_many : many ≡ None
  pub no_pairs : pairs ≡ None
  pub same : read ≡ its

pub tested : (deep unclosed namespace many pairs : Option ℕ) (read its : List Item) → by_tests deep unclosed namespace many pairs read ≡ Ok its → HasNoFault deep unclosed namespace many pairs read its
tested (Some at) unclosed namespace many pairs read its e = absurd (err_not_ok _ its e)
tested None (Some at) namespace many pairs read its e = absurd (err_not_ok _ its e)
tested None None (Some at) many pairs read its e = absurd (err_not_ok _ its e)
tested None None None (Some at) pairs read its e = absurd (err_not_ok _ its e)
tested None None None None (Some at) read its e = absurd (err_not_ok _ its e)
tested None None None None None read its e =
    record { no_deep = refl; no_unclosed = refl; no_namespace = refl; no_many = refl; no_pairs = refl; same = ok_same read its e }

-- the items of a source, by the tests that were made
pub tokens_tested : (source : List ℕ) (its : List Item) → sheet_of source ≡ Ok its → sheet_of_tokens source (tokens source true).tokens ≡ Ok its
tokens_tested source its e = long (nat_lt MAX_BYTES (length source)) e
  where
    clean : (f : Option TokenFault) → sheet_of_stream source f (tokens source true).tokens ≡ Ok its → sheet_of_tokens source (tokens source true).tokens ≡ Ok its
    clean None e = e
    clean (Some f) e = absurd (err_not_ok (token_fault f) its e)

    valid : (b : Bool) → (if b then Err (record { kind = NotUtf8; at = utf8_valid_len source }) else sheet_of_stream source (tokens source true).fault (tokens source true).tokens) ≡ Ok its
        → sheet_of_tokens source (tokens source true).tokens ≡ Ok its
    valid true e = absurd (err_not_ok _ its e)
    valid false e = clean (tokens source true).fault e

    long : (b : Bool)
        → (if b then Err (record { kind = TooLong; at = MAX_BYTES })
        else if nat_lt (utf8_valid_len source) (length source) then Err (record { kind = NotUtf8; at = utf8_valid_len source })
        else sheet_of_stream source (tokens source true).fault (tokens source true).tokens) ≡ Ok its
        → sheet_of_tokens source (tokens source true).tokens ≡ Ok its
    long true e = absurd (err_not_ok _ its e)
    long false e = valid (nat_lt (utf8_valid_len source) (length source)) e

short_by_get : {A : Type 0} (xs : List A) (i : ℕ) → slice_get xs i ≡ None → length xs ≤ i
short_by_get [] i e = omega arith
short_by_get (x ∷ xs) zero e = absurd (some_not_none x e)
short_by_get (x ∷ xs) (suc i) e = omega (arith, short_by_get xs i e)

-- a sheet as it is read from its source
pub record IsReadFrom (source : List ℕ) (its : List Item) : Type 0 where
  pub from : AllByRecursion (IsFrom source) its
  pub order : AreInOrder source its
  pub fit : DoFit its
  pub shallow : find is_deep (lexemes_of source) ≡ None

pub read_from : (source : List ℕ) (its : List Item) → HasGoodTokens source → sheet_of source ≡ Ok its → IsReadFrom source its
read_from source its good e = record {
  from = subst (AllByRecursion (IsFrom source)) is_read all.from;
  order = subst (AreInOrder source) is_read all.order;
  fit = record {
    items = short_by_get its MAX_ITEMS (no_map start_of (slice_get its MAX_ITEMS) (ap too_many_items (sym is_read) ∙ tests.no_many));
    pairs = ap (too_many_pairs 0) (sym is_read) ∙ tests.no_pairs;
  };
  shallow = no_map (λ x. x.span.start) (find is_deep (lexemes_of source)) tests.no_deep;
}
  where
    tests : HasNoFault (too_deep (lexemes_of source)) (unclosed (tokens source true).tokens) (namespace_at source (raw_items source))
        (too_many_items (read_items source (raw_items source))) (too_many_pairs 0 (read_items source (raw_items source)))
        (read_items source (raw_items source)) its
    tests = tested (too_deep (lexemes_of source)) (unclosed (tokens source true).tokens) (namespace_at source (raw_items source))
        (too_many_items (read_items source (raw_items source))) (too_many_pairs 0 (read_items source (raw_items source)))
        (read_items source (raw_items source)) its (tokens_tested source its e)

    is_read : read_items source (raw_items source) ≡ its
    is_read = tests.same

    all : AreOrigins source (raw_items source) (read_items source (raw_items source))
    all =
        let stand = raw_stand (lexemes_of source) (all_closed (tokens source true).tokens tests.no_unclosed) in
        origins source good (raw_items source) stand.each stand.order
        (find_none (is_namespace source) (raw_items source) (no_map (λ item. (piece_of item).start) (find (is_namespace source) (raw_items source)) tests.no_namespace))

-- one more rule to stand at
follows_a_rule : (its old : List Item) (r : RuleParts) → Follows its old → Follows its ((Rule r) ∷ old)
follows_a_rule [] old r f = f
follows_a_rule ((Rule q) ∷ its) old r f = inr f
follows_a_rule ((KeptRule j) ∷ its) old r f = f
follows_a_rule ((KeptBlock o) ∷ its) old r f = f

pub follows_itself : (its : List Item) → Follows its its
follows_itself [] = tt
follows_itself ((Rule r) ∷ its) = inl (follows_a_rule its its r (follows_itself its))
follows_itself ((KeptRule k) ∷ its) = (refl, follows_itself its)
follows_itself ((KeptBlock p) ∷ its) = (refl, follows_itself its)

-- two neighbouring rules become one
pub follows_joined : (before : List Item) (upper lower joined : RuleParts) (behind : List Item) → Follows (before ++ (Rule joined) ∷ behind) (before ++ (Rule upper) ∷ (Rule lower) ∷ behind)
follows_joined [] upper lower joined behind = inr (inl (follows_a_rule behind behind lower (follows_itself behind)))
follows_joined ((Rule r) ∷ before) upper lower joined behind =
    inl (follows_a_rule (before ++ (Rule joined) ∷ behind) (before ++ (Rule upper) ∷ (Rule lower) ∷ behind) r (follows_joined before upper lower joined behind))
follows_joined ((KeptRule k) ∷ before) upper lower joined behind = (refl, follows_joined before upper lower joined behind)
follows_joined ((KeptBlock p) ∷ before) upper lower joined behind = (refl, follows_joined before upper lower joined behind)

imports_follow : (source : List ℕ) (its old : List Item) → Follows its old → list_any is_sourced_import (all_of_source source its) ≡ list_any is_sourced_import (all_of_source source old)
imports_follow source [] [] f = refl
imports_follow source (item ∷ its) [] f = absurd f
imports_follow source [] ((Rule r) ∷ old) f = imports_follow source [] old f
imports_follow source [] ((KeptRule k) ∷ old) f = absurd f
imports_follow source [] ((KeptBlock p) ∷ old) f = absurd f
imports_follow source ((Rule q) ∷ its) ((Rule r) ∷ old) (inl f) = imports_follow source its ((Rule r) ∷ old) f
imports_follow source ((Rule q) ∷ its) ((Rule r) ∷ old) (inr f) = imports_follow source ((Rule q) ∷ its) old f
imports_follow source ((KeptRule j) ∷ its) ((Rule r) ∷ old) f = imports_follow source ((KeptRule j) ∷ its) old f
imports_follow source ((KeptBlock o) ∷ its) ((Rule r) ∷ old) f = imports_follow source ((KeptBlock o) ∷ its) old f
imports_follow source ((Rule q) ∷ its) ((KeptRule k) ∷ old) f = absurd f
imports_follow source ((KeptRule j) ∷ its) ((KeptRule k) ∷ old) f =
    ap (λ k. imports source (KeptRule k) || list_any is_sourced_import (all_of_source source its)) f.0 ∙ ap (λ b. imports source (KeptRule k) || b) (imports_follow source its old f.1)
imports_follow source ((KeptBlock o) ∷ its) ((KeptRule k) ∷ old) f = absurd f
imports_follow source ((Rule q) ∷ its) ((KeptBlock p) ∷ old) f = absurd f
imports_follow source ((KeptRule j) ∷ its) ((KeptBlock p) ∷ old) f = absurd f
imports_follow source ((KeptBlock o) ∷ its) ((KeptBlock p) ∷ old) f =
    ap (λ p. imports source (KeptBlock p) || list_any is_sourced_import (all_of_source source its)) f.0 ∙ ap (λ b. imports source (KeptBlock p) || b) (imports_follow source its old f.1)

-- where nothing follows, nothing followed but rules
ends_follow : (source : List ℕ) (its old : List Item) (item : Item) → Follows its old → EndsBefore (all_of_source source old) (of_source source item) → EndsBefore (all_of_source source its) (of_source source item)
ends_follow source [] old item f ends = tt
ends_follow source (next ∷ its) [] item f ends = absurd f
ends_follow source (next ∷ its) (o ∷ old) item f ends = ends

pub first_follows : (source : List ℕ) (its old : List Item) (item : Item) → Follows its old → AreInOrder source its
    → IsBefore source (list_any is_sourced_import (all_of_source source old)) item → EndsBefore (all_of_source source old) (of_source source item) → AreInOrder source (item ∷ its)
first_follows source its old item f order before ends =
    (subst (λ b. IsBefore source b item) (sym (imports_follow source its old f)) before, ends_follow source its old item f ends, order)

-- Items that follow others are in order as these are.
pub in_order : (source : List ℕ) (its old : List Item) → Follows its old → AreInOrder source old → AreInOrder source its
in_order source [] [] f order = tt
in_order source (item ∷ its) [] f order = absurd f
in_order source [] ((Rule r) ∷ old) f order = tt
in_order source [] ((KeptRule k) ∷ old) f order = absurd f
in_order source [] ((KeptBlock p) ∷ old) f order = absurd f
in_order source ((Rule q) ∷ its) ((Rule r) ∷ old) (inl f) order =
    first_follows source its ((Rule r) ∷ old) (Rule q) f (in_order source its ((Rule r) ∷ old) f order) order.0 refl
in_order source ((Rule q) ∷ its) ((Rule r) ∷ old) (inr f) order = in_order source ((Rule q) ∷ its) old f order.2
in_order source ((KeptRule j) ∷ its) ((Rule r) ∷ old) f order = in_order source ((KeptRule j) ∷ its) old f order.2
in_order source ((KeptBlock o) ∷ its) ((Rule r) ∷ old) f order = in_order source ((KeptBlock o) ∷ its) old f order.2
in_order source ((Rule q) ∷ its) ((KeptRule k) ∷ old) f order = absurd f
in_order source ((KeptRule j) ∷ its) ((KeptRule k) ∷ old) f order =
    subst (λ k. AreInOrder source ((KeptRule k) ∷ its)) (sym f.0) (first_follows source its old (KeptRule k) f.1 (in_order source its old f.1 order.2) order.0 order.1)
in_order source ((KeptBlock o) ∷ its) ((KeptRule k) ∷ old) f order = absurd f
in_order source ((Rule q) ∷ its) ((KeptBlock p) ∷ old) f order = absurd f
in_order source ((KeptRule j) ∷ its) ((KeptBlock p) ∷ old) f order = absurd f
in_order source ((KeptBlock o) ∷ its) ((KeptBlock p) ∷ old) f order =
    subst (λ p. AreInOrder source ((KeptBlock p) ∷ its)) (sym f.0) (first_follows source its old (KeptBlock p) f.1 (in_order source its old f.1 order.2) order.0 order.1)

-- A rule stays one of a source with the declarations of another behind its own.
pub joined_from : (source : List ℕ) (upper lower : RuleParts) → IsFrom source (Rule upper) → IsFrom source (Rule lower) → IsFrom source (Rule (record upper { decls = upper.decls ++ lower.decls }))
joined_from source upper lower first second = record {
  has_selectors = first.has_selectors;
  has_declarations = λ none. some_append upper.decls lower.decls first.has_declarations none;
  selectors = first.selectors;
  decls = each_append (IsOfDeclaration source) upper.decls lower.decls first.decls second.decls;
}
  where
    some_append : {A : Type 0} → (xs ys : List A) → xs ≢ [] → xs ++ ys ≡ [] → ⊥
    some_append [] ys some none = absurd (some refl)
    some_append (x ∷ xs) ys some none = cons_not_empty x (xs ++ ys) none

    each_append : {A : Type 0} → (P : A → Type 0) (xs ys : List A) → AllByRecursion P xs → AllByRecursion P ys → AllByRecursion P (xs ++ ys)
    each_append P [] ys first second = second
    each_append P (x ∷ xs) ys first second = (first.0, each_append P xs ys first.1 second)
