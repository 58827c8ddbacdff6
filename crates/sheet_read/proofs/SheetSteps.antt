-- The steps of reading a sheet, joined.
use Rattle.std.proofs.Common.{ℕ, ◌≡◌, ◌≤◌, ◌++◌, Bool, true, false, cond, List, [], ◌∷◌, length, Option, Some, None, Result, Ok, Err, refl, sym, ap, ◌∙◌, subst, le-ltb}
use Rattle.std.specs.Prelude.{nat_lt}
use Rattle.std.specs.Result.{is_ok}
use Rattle.std.specs.Str.Lossy.{utf8_valid_len}
use Rattle.std.proofs.lemmas.Bool.{false≢true}
use Rattle.css_model.specs.declared.fault.FaultKind.TheVariants.{NotUtf8, EndInside, TooDeep, Namespace, TooManyItems, TooManyPairs}
use Rattle.css_model.specs.declared.fault.SheetFault.{SheetFault}
use Rattle.css_model.specs.declared.limits.TheConstants.{MAX_BYTES}
use Rattle.css_model.specs.declared.sheet.Item.{Item}
use Rattle.css_model.specs.declared.token.Lexeme.{Lexeme}
use Rattle.css_model.specs.declared.token.Token.{Token}
use Rattle.css_model.specs.declared.token.TokenFault.{TokenFault}
use Rattle.css_model.specs.Text.Lexemes.{lexemes}
use Rattle.css_model.specs.Sheets.Sheet.{token_fault, read_items, namespace_at, too_deep, unclosed, too_many_items, too_many_pairs, sheet_of, sheet_of_stream, sheet_of_tokens}
use Rattle.css_model.specs.Sheets.Fault.{fault_of, unless}
use Rattle.css_model.specs.Sheets.Spelling as spelling
use Rattle.css_model.specs.Text.Tokens.{tokens}
use Rattle.sheet_read.specs.declared.fault.SheetError.{SheetError}
use Rattle.sheet_read.specs.declared.fault.SheetError.TheVariants as errors
use Rattle.sheet_read.specs.Placed.{ArePlaced}
use Rattle.sheet_read.specs.Reading.{Refuses}
use Rattle.css_tokens.specs.Laws.{TokensCover}
use Rattle.sheet_read.proofs.Placing.{placed}
use Rattle.sheet_read.specs.Steps.{all_tokens, tokens_of, lexemes_of, lexed, whole_items, imports_of, items_of, count_imports}

-- faults that were not found stand before others
unless_ok : {A B : Type 0} (fs gs : List (Option SheetFault)) (x v : A) (y : B) → unless fs x ≡ Ok v → unless (fs ++ gs) y ≡ unless gs y
unless_ok [] gs x v y h = refl
unless_ok (None ∷ fs) gs x v y h = unless_ok fs gs x v y h
unless_ok (Some f ∷ fs) gs x v y h = absurd (false≢true (ap is_ok h))

unless_err : {A B : Type 0} (fs gs : List (Option SheetFault)) (x : A) (y : B) (f : SheetFault) → unless fs x ≡ Err f → unless (fs ++ gs) y ≡ Err f
unless_err [] gs x y f h = absurd (false≢true (sym (ap is_ok h)))
unless_err (None ∷ fs) gs x y f h = unless_err fs gs x y f h
unless_err (Some g ∷ fs) gs x y f h = let e : g ≡ f = cc in ap Err e

unless_value : {A : Type 0} (fs : List (Option SheetFault)) (x v : A) → unless fs x ≡ Ok v → x ≡ v
unless_value [] x v h = cc
unless_value (None ∷ fs) x v h = unless_value fs x v h
unless_value (Some f ∷ fs) x v h = absurd (false≢true (ap is_ok h))

-- the tokens of a sheet that has no fault of these
tokens_parts : (b : Bool) (e : SheetFault) (fault : Option TokenFault) (ts us : List Token) → cond b (Err e) (all_tokens fault ts) ≡ Ok us
    → (b ≡ false) × (fault ≡ None) × (ts ≡ us)
tokens_parts true e fault ts us h = absurd (false≢true (ap is_ok h))
tokens_parts false e (Some f) ts us h = absurd (false≢true (ap is_ok h))
tokens_parts false e None ts us h = let same : ts ≡ us = cc in (refl, refl, same)

tokens_all : (source : List ℕ) (b : Bool) (e : SheetFault) (fault : Option TokenFault) (ts us : List Token) → cond b (Err e) (all_tokens fault ts) ≡ Ok us
    → cond b (Err e) (sheet_of_stream source fault ts) ≡ sheet_of_tokens source us
tokens_all source true e fault ts us h = absurd (false≢true (ap is_ok h))
tokens_all source false e (Some f) ts us h = absurd (false≢true (ap is_ok h))
tokens_all source false e None ts us h = let same : ts ≡ us = cc in ap (sheet_of_tokens source) same

tokens_fault : (source : List ℕ) (b : Bool) (e f : SheetFault) (fault : Option TokenFault) (ts : List Token) → cond b (Err e) (all_tokens fault ts) ≡ Err f
    → cond b (Err e) (sheet_of_stream source fault ts) ≡ Err f
tokens_fault source true e f fault ts h = let same : e ≡ f = cc in ap Err same
tokens_fault source false e f (Some g) ts h = let same : token_fault g ≡ f = cc in ap Err same
tokens_fault source false e f None ts h = absurd (false≢true (sym (ap is_ok h)))

-- the tokens of a sheet that has no fault of these are those of its source
all_lexemes : (source : List ℕ) (ts : List Token) (xs : List Lexeme) → tokens_of source ≡ Ok ts → lexemes_of ts ≡ Ok xs
    → ((tokens source true).fault ≡ None) × (xs ≡ spelling.lexemes_of source)
all_lexemes source ts xs tokens_are lexemes_are =
    let all = tokens source true in
    let parts = tokens_parts (nat_lt (utf8_valid_len source) (length source)) (record { kind = NotUtf8; at = utf8_valid_len source }) all.fault all.tokens ts tokens_are in
    let same : lexemes ts ≡ xs = unless_value (fault_of TooDeep (too_deep (lexemes ts)) ∷ fault_of EndInside (unclosed ts) ∷ []) (lexemes ts) xs lexemes_are in
    (parts.1, sym (ap lexemes parts.2 ∙ same))

not_too_long : (source : List ℕ) → length source ≤ MAX_BYTES
    → sheet_of source ≡ cond (nat_lt (utf8_valid_len source) (length source)) (Err (record { kind = NotUtf8; at = utf8_valid_len source }))
    (sheet_of_stream source (tokens source true).fault (tokens source true).tokens)
not_too_long source le = rw (le-ltb MAX_BYTES (length source) le) refl

sheet_of_read : (source : List ℕ) (ts : List Token) → length source ≤ MAX_BYTES → tokens_of source ≡ Ok ts → sheet_of source ≡ sheet_of_tokens source ts
sheet_of_read source ts le h =
    not_too_long source le
    ∙ tokens_all source (nat_lt (utf8_valid_len source) (length source)) (record { kind = NotUtf8; at = utf8_valid_len source }) (tokens source true).fault (tokens source true).tokens ts h

sheet_of_fault : (source : List ℕ) (f : SheetFault) → length source ≤ MAX_BYTES → tokens_of source ≡ Err f → sheet_of source ≡ Err f
sheet_of_fault source f le h =
    not_too_long source le
    ∙ tokens_fault source (nat_lt (utf8_valid_len source) (length source)) (record { kind = NotUtf8; at = utf8_valid_len source }) f (tokens source true).fault (tokens source true).tokens h

-- the tokens that are no white space are those of all tokens, which have no fault
pub lexed_tokens : (source : List ℕ) (xs : List Lexeme) → lexed (tokens_of source) ≡ Ok xs → (ts : List Token) × (tokens_of source ≡ Ok ts) × (lexemes_of ts ≡ Ok xs)
lexed_tokens source xs h = which (tokens_of source) refl
  where
    which : (r : Result (List Token) SheetFault) → tokens_of source ≡ r → (ts : List Token) × (tokens_of source ≡ Ok ts) × (lexemes_of ts ≡ Ok xs)
    which (Ok ts) is = (ts, is, ap lexed (sym is) ∙ h)
    which (Err f) is = absurd (false≢true (ap is_ok (ap lexed (sym is) ∙ h)))

-- the faults of the brackets, and then those of the items
abbrev pub pairs_fault : List Item → List (Option SheetFault)
pairs_fault read = fault_of TooManyPairs (too_many_pairs 0 read) ∷ []

abbrev pub item_faults : List Item → List (Option SheetFault)
item_faults read = fault_of TooManyItems (too_many_items read) ∷ pairs_fault read

abbrev pub raw_faults : List ℕ → List (List Lexeme) → List (Option SheetFault)
raw_faults source raw = fault_of Namespace (namespace_at source raw) ∷ item_faults (read_items source raw)

lexemes_read : (source : List ℕ) (ts : List Token) (xs : List Lexeme) → lexemes_of ts ≡ Ok xs
    → sheet_of_tokens source ts ≡ unless (raw_faults source (whole_items xs)) (read_items source (whole_items xs))
lexemes_read source ts xs h =
    let same : lexemes ts ≡ xs = unless_value (fault_of TooDeep (too_deep (lexemes ts)) ∷ fault_of EndInside (unclosed ts) ∷ []) (lexemes ts) xs h in
    unless_ok (fault_of TooDeep (too_deep (lexemes ts)) ∷ fault_of EndInside (unclosed ts) ∷ []) (raw_faults source (whole_items (lexemes ts))) (lexemes ts) xs
    (read_items source (whole_items (lexemes ts))) h
    ∙ ap (λ (xs : List Lexeme). unless (raw_faults source (whole_items xs)) (read_items source (whole_items xs))) same

lexemes_fault : (source : List ℕ) (ts : List Token) (f : SheetFault) → lexemes_of ts ≡ Err f → sheet_of_tokens source ts ≡ Err f
lexemes_fault source ts f h =
    unless_err (fault_of TooDeep (too_deep (lexemes ts)) ∷ fault_of EndInside (unclosed ts) ∷ []) (raw_faults source (whole_items (lexemes ts))) (lexemes ts)
    (read_items source (whole_items (lexemes ts))) f h

lexed_lexemes : (source : List ℕ) (xs : List Lexeme) → lexed (tokens_of source) ≡ Ok xs → ((tokens source true).fault ≡ None) × (xs ≡ spelling.lexemes_of source)
lexed_lexemes source xs h =
    let read = lexed_tokens source xs h in
    all_lexemes source read.0 xs read.1 read.2

pub lexed_same : (source : List ℕ) (xs : List Lexeme) → lexed (tokens_of source) ≡ Ok xs → xs ≡ spelling.lexemes_of source
lexed_same source xs h = (lexed_lexemes source xs h).1

pub lexed_placed : TokensCover → (source : List ℕ) (xs : List Lexeme) → lexed (tokens_of source) ≡ Ok xs → ArePlaced source xs
lexed_placed cover source xs h =
    let all = lexed_lexemes source xs h in
    subst (ArePlaced source) (sym all.1) (placed cover source all.0)

pub lexed_read : (source : List ℕ) (xs : List Lexeme) → length source ≤ MAX_BYTES → lexed (tokens_of source) ≡ Ok xs
    → sheet_of source ≡ unless (raw_faults source (whole_items xs)) (read_items source (whole_items xs))
lexed_read source xs le h =
    let read = lexed_tokens source xs h in
    sheet_of_read source read.0 le read.1 ∙ lexemes_read source read.0 xs read.2

pub lexed_fault : (source : List ℕ) (f : SheetFault) → length source ≤ MAX_BYTES → lexed (tokens_of source) ≡ Err f → sheet_of source ≡ Err f
lexed_fault source f le h = which (tokens_of source) refl
  where
    which : (r : Result (List Token) SheetFault) → tokens_of source ≡ r → sheet_of source ≡ Err f
    which (Ok ts) is = sheet_of_read source ts le is ∙ lexemes_fault source ts f (ap lexed (sym is) ∙ h)
    which (Err g) is =
        let refused : ◌≡◌ {A = Result (List Lexeme) SheetFault} (Err g) (Err f) = ap lexed (sym is) ∙ h in
        let same : g ≡ f = cc in
        sheet_of_fault source g le is ∙ ap Err same

pub imports_read : (source : List ℕ) (raw : List (List Lexeme)) (n : ℕ) → imports_of source raw ≡ Ok n
    → unless (raw_faults source raw) (read_items source raw) ≡ unless (item_faults (read_items source raw)) (read_items source raw)
imports_read source raw n h =
    unless_ok (fault_of Namespace (namespace_at source raw) ∷ []) (item_faults (read_items source raw)) (count_imports source raw) n (read_items source raw) h

pub imports_counted : (source : List ℕ) (raw : List (List Lexeme)) (n : ℕ) → imports_of source raw ≡ Ok n → n ≡ count_imports source raw
imports_counted source raw n h = sym (unless_value (fault_of Namespace (namespace_at source raw) ∷ []) (count_imports source raw) n h)

pub imports_fault : (source : List ℕ) (raw : List (List Lexeme)) (f : SheetFault) → imports_of source raw ≡ Err f
    → unless (raw_faults source raw) (read_items source raw) ≡ Err f
imports_fault source raw f h =
    unless_err (fault_of Namespace (namespace_at source raw) ∷ []) (item_faults (read_items source raw)) (count_imports source raw) (read_items source raw) f h

pub items_read : (source : List ℕ) (raw : List (List Lexeme)) (read : List Item) → items_of source raw ≡ Ok read
    → unless (item_faults (read_items source raw)) (read_items source raw) ≡ unless (pairs_fault read) read
items_read source raw read h =
    let same : read_items source raw ≡ read = unless_value (fault_of TooManyItems (too_many_items (read_items source raw)) ∷ []) (read_items source raw) read h in
    unless_ok (fault_of TooManyItems (too_many_items (read_items source raw)) ∷ []) (pairs_fault (read_items source raw)) (read_items source raw) read (read_items source raw) h
    ∙ ap (λ (read : List Item). unless (pairs_fault read) read) same

pub items_fault : (source : List ℕ) (raw : List (List Lexeme)) (f : SheetFault) → items_of source raw ≡ Err f
    → unless (item_faults (read_items source raw)) (read_items source raw) ≡ Err f
items_fault source raw f h =
    unless_err (fault_of TooManyItems (too_many_items (read_items source raw)) ∷ []) (pairs_fault (read_items source raw)) (read_items source raw) (read_items source raw) f h

-- a fault of a step is the sheet's
pub refused : {X Y : Type 0} (e : SheetError) (step : Result X SheetFault) (whole : Result Y SheetFault) → ((f : SheetFault) → step ≡ Err f → whole ≡ Err f)
    → Refuses e step → Refuses e whole
refused (errors.Fault f) step whole h r = h f r
refused errors.NoMemory step whole h r = r
