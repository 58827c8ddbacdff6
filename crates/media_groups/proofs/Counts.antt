-- What is opened of items, one by one, by the number of `@import` rules that are left.
use Rattle.std.proofs.Common.{◌≡◌, ◌≤◌, inl, inr, ℕ, suc, ◌+◌, ◌-◌, Bool, true, false, cond, List, [], ◌∷◌, ◌++◌, length, Option, Some, None, Ok, Err, nat_lt, slice_get, get_or, take, drop, refl, sym, ap, ap₂, ◌∙◌, subst, append_assoc, append-nil, arith}
use Rattle.std.specs.Prelude.{◌||◌, if◌then◌else◌}
use Rattle.std.specs.List.{cons_option, count_by, list_any}
use Rattle.std.specs.Str.Lossy.{utf8_valid_len}
use Rattle.std.proofs.lemmas.List.{take_rest}
use Rattle.std.proofs.lemmas.List.Sums.{sum_by-cons}
use Rattle.std.proofs.lemmas.Option.{slice_get_cases}
use Rattle.css_model.specs.declared.fault.FaultKind.TheVariants.{TooLong, NotUtf8}
use Rattle.css_model.specs.declared.limits.TheConstants.{MAX_BYTES, MAX_ITEMS}
use Rattle.css_model.specs.declared.sheet.Item.{Item}
use Rattle.css_model.specs.declared.token.TokenFault.{TokenFault}
use Rattle.css_model.specs.Sheets.Sheet.{namespace_at, read_items, sheet_of, sheet_of_stream, sheet_of_tokens, start_of, too_deep, too_many_items, too_many_pairs, unclosed}
use Rattle.css_model.specs.Sheets.Sound.{raw_items}
use Rattle.css_model.specs.Sheets.Spelling.{lexemes_of}
use Rattle.css_model.specs.Text.Tokens.{tokens}
use Rattle.sheet_laws.proofs.ForCallers.{no_map, tested}
use Rattle.media_groups.specs.declared.media.Media.{Media}
use Rattle.media_groups.specs.Opened.{is_import_item, is_top_item, opened_from, opened_item, opened_of, plain_items}

-- ---- what a sheet that is read keeps to

pub record IsRead (source : List ℕ) (items : List Item) : Type 0 where
  pub short : length source ≤ MAX_BYTES
  pub few : length items ≤ MAX_ITEMS

few_items : (items : List Item) → too_many_items items ≡ None → length items ≤ MAX_ITEMS
few_items items is = elim (slice_get_cases items MAX_ITEMS).1 [
  | inl within ↦ absurd (let some : Some within.0 ≡ None = sym within.2 ∙ no_map start_of (slice_get items MAX_ITEMS) is in cc)
  | inr past ↦ past.0
]

not_longer : (limit n : ℕ) → nat_lt limit n ≡ false → n ≤ limit
not_longer limit n test = grind (arith, test)

tests : (source : List ℕ) (items : List Item) → sheet_of_tokens source (tokens source true).tokens ≡ Ok items → length items ≤ MAX_ITEMS
tests source items is =
    let none = tested (too_deep (lexemes_of source)) (unclosed (tokens source true).tokens) (namespace_at source (raw_items source))
    (too_many_items (read_items source (raw_items source))) (too_many_pairs 0 (read_items source (raw_items source))) (read_items source (raw_items source)) items is in
    subst (λ (xs : List Item). length xs ≤ MAX_ITEMS) none.same (few_items (read_items source (raw_items source)) none.no_many)

stream_tests : (source : List ℕ) (items : List Item) (fault : Option TokenFault) → sheet_of_stream source fault (tokens source true).tokens ≡ Ok items → length items ≤ MAX_ITEMS
stream_tests source items (Some f) is = absurd (cc)
stream_tests source items None is = tests source items is

pub read_facts : (source : List ℕ) (items : List Item) → sheet_of source ≡ Ok items → IsRead source items
read_facts source items is = which (nat_lt MAX_BYTES (length source)) refl (nat_lt (utf8_valid_len source) (length source)) is
  where
    which : (long : Bool) → nat_lt MAX_BYTES (length source) ≡ long → (wrong : Bool)
        → cond long (Err (record { kind = TooLong; at = MAX_BYTES })) (cond wrong (Err (record { kind = NotUtf8; at = utf8_valid_len source })) (sheet_of_stream source (tokens source true).fault (tokens source true).tokens)) ≡ Ok items
        → IsRead source items
    which true test wrong e = absurd (cc)
    which false test true e = absurd (cc)
    which false test false e =
        record { short = not_longer MAX_BYTES (length source) test; few = stream_tests source items (tokens source true).fault e }

-- ---- how many imports are left

count_yes : {A : Type 0} (p : A → Bool) (x : A) (xs : List A) → p x ≡ true → count_by p (x ∷ xs) ≡ suc (count_by p xs)
count_yes p x xs is = sum_by-cons (λ y. cond (p y) 1 0) x xs ∙ ap (λ (b : Bool). cond b 1 0 + count_by p xs) is ∙ omega arith

count_no : {A : Type 0} (p : A → Bool) (x : A) (xs : List A) → p x ≡ false → count_by p (x ∷ xs) ≡ count_by p xs
count_no p x xs is = sum_by-cons (λ y. cond (p y) 1 0) x xs ∙ ap (λ (b : Bool). cond b 1 0 + count_by p xs) is ∙ omega arith

some_less : (n : ℕ) → nat_lt 0 (suc n) ≡ true
some_less n = grind arith

any_counted : {A : Type 0} (p : A → Bool) (xs : List A) → list_any p xs ≡ nat_lt 0 (count_by p xs)
any_counted p [] = refl
any_counted p (x ∷ xs) = which (p x) refl (any_counted p xs)
  where
    which : (b : Bool) → p x ≡ b → list_any p xs ≡ nat_lt 0 (count_by p xs) → list_any p (x ∷ xs) ≡ nat_lt 0 (count_by p (x ∷ xs))
    which true is later = ap (λ (b : Bool). b || list_any p xs) is ∙ sym (ap (nat_lt 0) (count_yes p x xs is) ∙ some_less (count_by p xs))
    which false is later = ap (λ (b : Bool). b || list_any p xs) is ∙ later ∙ sym (ap (nat_lt 0) (count_no p x xs is))

count_left : {A : Type 0} (p : A → Bool) (x : A) (xs : List A) (n left : ℕ) → n ≡ count_by p (x ∷ xs) → left ≡ (if p x then n - 1 else n) → left ≡ count_by p xs
count_left p x xs n left is left_is = which (p x) refl left_is
  where
    which : (b : Bool) → p x ≡ b → left ≡ (if b then n - 1 else n) → left ≡ count_by p xs
    which true at e = omega (arith, e, is, count_yes p x xs at)
    which false at e = e ∙ is ∙ count_no p x xs at

pub count_one : (source : List ℕ) (rest behind : List Item) (item : Item) (done total : ℕ) → rest ≡ item ∷ behind → is_import_item source item ≡ true → done + count_by (is_import_item source) rest ≡ total →
    done + 1 + count_by (is_import_item source) behind ≡ total
count_one source rest behind item done total cut is sum =
    let count : count_by (is_import_item source) rest ≡ suc (count_by (is_import_item source) behind) = ap (count_by (is_import_item source)) cut ∙ count_yes (is_import_item source) item behind is in
    omega (arith, count, sum)

pub count_none : (source : List ℕ) (rest behind : List Item) (item : Item) (done total : ℕ) → rest ≡ item ∷ behind → is_import_item source item ≡ false → done + count_by (is_import_item source) rest ≡ total →
    done + count_by (is_import_item source) behind ≡ total
count_none source rest behind item done total cut is sum =
    let count : count_by (is_import_item source) rest ≡ count_by (is_import_item source) behind = ap (count_by (is_import_item source)) cut ∙ count_no (is_import_item source) item behind is in
    omega (arith, count, sum)

-- the first of items, and those behind it
pub cons_of : (rest : List Item) (x : Item) → 1 ≤ length rest → x ≡ get_or rest 0 x → rest ≡ x ∷ take (length rest - 1) (drop 1 rest)
cons_of [] x some is = absurd (omega arith)
cons_of (y ∷ ys) x some is = ap₂ (λ (z : Item) (zs : List Item). z ∷ zs) (sym is) (sym (take_rest (y ∷ ys) 1))

-- ---- one item more

one_more : (done : List Media) (o : Option Media) (more : List Media) → (done ++ cons_option o []) ++ more ≡ done ++ cons_option o more
one_more done None more = ap (λ (xs : List Media). xs ++ more) (append-nil done)
one_more done (Some m) more = append_assoc done (m ∷ []) more

pub opened_more : (source : List ℕ) (done : List Media) (number : ℕ) (item : Item) (rest : List Item) (left : ℕ) → left ≡ count_by (is_import_item source) rest →
    (done ++ cons_option (if nat_lt 0 left then None else opened_item source number item) []) ++ opened_from source (suc number) rest ≡ done ++ opened_from source number (item ∷ rest)
opened_more source done number item rest left is =
    let o : Bool → Option Media = λ b. if b then None else opened_item source number item in
    one_more done (o (nat_lt 0 left)) (opened_from source (suc number) rest)
    ∙ ap (λ (b : Bool). done ++ cons_option (o b) (opened_from source (suc number) rest)) (ap (nat_lt 0) is ∙ sym (any_counted (is_import_item source) rest))

-- what was opened of items, and of those that are left
pub record IsOpenedTo (source : List ℕ) (items : List Item) (media : List Media) (number left : ℕ) (rest : List Item) : Type 0 where
  pub opened : media ++ opened_from source number rest ≡ opened_of items source
  pub imports : left ≡ count_by (is_import_item source) rest
  pub few : number + length rest ≤ MAX_ITEMS

pub opened_step : (source : List ℕ) (items : List Item) (media media' : List Media) (number imports left : ℕ) (rest behind : List Item) (item : Item) → rest ≡ item ∷ behind →
    IsOpenedTo source items media number imports rest → left ≡ (if is_import_item source item then imports - 1 else imports) →
    media' ≡ media ++ cons_option (if nat_lt 0 left then None else opened_item source number item) [] → IsOpenedTo source items media' (number + 1) left behind
opened_step source items media media' number imports left rest behind item cut old left_is pushed =
    let counted : left ≡ count_by (is_import_item source) behind =
    count_left (is_import_item source) item behind imports left (old.imports ∙ ap (count_by (is_import_item source)) cut) left_is in
    let next : number + 1 ≡ suc number = omega arith in
    record {
      opened = ap (λ (xs : List Media). xs ++ opened_from source (number + 1) behind) pushed
          ∙ ap (λ (n : ℕ). (media ++ cons_option (if nat_lt 0 left then None else opened_item source number item) []) ++ opened_from source n behind) next
          ∙ opened_more source media number item behind left counted
          ∙ ap (λ (xs : List Item). media ++ opened_from source number xs) (sym cut) ∙ old.opened;
      imports = counted;
      few = omega (arith, ap length cut, old.few);
    }

-- ---- a body's items

pub differing : (source : List ℕ) (items : List Item) (a : Bool) → sheet_of source ≡ Ok items → (a || list_any (is_top_item source) items) ≡ true →
    ◌≡◌ {A = Option (List Item)} None (if a then None else plain_items source (sheet_of source))
differing source items true reads is = refl
differing source items false reads is = sym (ap (plain_items source) reads ∙ ap (λ (b : Bool). if b then None else Some items) is)

pub plain : (source : List ℕ) (items : List Item) (a : Bool) → sheet_of source ≡ Ok items → (a || list_any (is_top_item source) items) ≡ false →
    ◌≡◌ {A = Option (List Item)} (Some items) (if a then None else plain_items source (sheet_of source))
plain source items true reads is = absurd (let h : true ≡ false = is in cc)
plain source items false reads is = sym (ap (plain_items source) reads ∙ ap (λ (b : Bool). if b then None else Some items) is)
