-- The items of a sheet, read one after another.
use Rattle.std.proofs.Common.{ℕ, ◌≡◌, ◌≤◌, ◌<◌, ◌+◌, ◌-◌, ◌||◌, ◌++◌, Bool, true, false, cond, List, [], ◌∷◌, length, Option, Some, None, Ok, Err, refl, sym, ap, ◌∙◌, subst, ltb, lt-ltb, zero-add, arith}
use Rattle.std.specs.List.{AllByRecursion, cons_option, count_by, list_any, slice_get}
use Rattle.std.specs.Option.{option_map}
use Rattle.std.proofs.lemmas.List.{append-nil}
use Rattle.std.proofs.lemmas.List.Sums.{sum_by-cons}
use Rattle.std.proofs.lemmas.Option.{slice_get_past}
use Rattle.css_model.specs.declared.fault.FaultKind.TheVariants.{TooManyItems}
use Rattle.css_model.specs.declared.limits.TheConstants.{MAX_ITEMS}
use Rattle.css_model.specs.declared.sheet.Item.{Item}
use Rattle.css_model.specs.declared.sheet.Item.TheVariants.{KeptBlock}
use Rattle.css_model.specs.declared.token.Lexeme.{Lexeme}
use Rattle.css_model.specs.Text.Lexemes.{piece_of}
use Rattle.css_model.specs.Sheets.Sheet.{is_import, is_namespace, namespace_at, item_of, read_items, start_of}
use Rattle.css_model.specs.Sheets.Fault.{fault_of, unless}
use Rattle.sheet_read.specs.Placed.{IsPlaced, ArePlaced}
use Rattle.sheet_read.specs.Steps.{count_imports, item_before, items_of}

all_append : {X : Type 0} (P : X → Type 0) (xs ys : List X) → AllByRecursion P (xs ++ ys) → AllByRecursion P xs × AllByRecursion P ys
all_append P [] ys h = (tt, h)
all_append P (x ∷ xs) ys h = let later = all_append P xs ys h.1 in ((h.0, later.0), later.1)

-- the first item of placed lexemes, and what stands behind it
pub placed_parts : (source : List ℕ) (xs before item behind : List Lexeme) → xs ≡ before ++ (item ++ behind) → ArePlaced source xs
    → ArePlaced source item × ArePlaced source behind
placed_parts source xs before item behind is placed =
    all_append (IsPlaced source) item behind (all_append (IsPlaced source) before (item ++ behind) (subst (ArePlaced source) is placed)).1

-- how many `@import` rules there are from an item on
pub count_step : (source : List ℕ) (raw later : List (List Lexeme)) (item : List Lexeme) (b : Bool) → raw ≡ item ∷ later → is_import source item ≡ b
    → count_imports source raw ≡ cond b 1 0 + count_imports source later
count_step source raw later item b is import =
    ap (count_imports source) is ∙ sum_by-cons (λ x. cond (is_import source x) 1 0) item later
    ∙ ap (λ (b : Bool). cond b 1 0 + count_imports source later) import

pub count_behind : (source : List ℕ) (raw later : List (List Lexeme)) (item : List Lexeme) (left behind : ℕ) → raw ≡ item ∷ later
    → left ≡ count_imports source raw → behind ≡ cond (is_import source item) (left - 1) left → behind ≡ count_imports source later
count_behind source raw later item left behind is counted less = which (is_import source item) (count_step source raw later item (is_import source item) is refl) less
  where
    which : (b : Bool) → count_imports source raw ≡ cond b 1 0 + count_imports source later → behind ≡ cond b (left - 1) left → behind ≡ count_imports source later
    which true step less = omega (arith, step, less, counted)
    which false step less = omega (arith, step, less, counted)

pub some_import : (source : List ℕ) (raw later : List (List Lexeme)) (item : List Lexeme) (left : ℕ) → raw ≡ item ∷ later → left ≡ count_imports source raw
    → is_import source item ≡ true → 0 < left
some_import source raw later item left is counted import = omega (arith, count_step source raw later item true is import, counted)

-- whether there is one
any_count : {X : Type 0} (p : X → Bool) (xs : List X) → list_any p xs ≡ ltb 0 (count_by p xs)
any_count p [] = refl
any_count p (x ∷ xs) = which (p x) (any_count p xs) ∙ ap (ltb 0) (sym (sum_by-cons (λ y. cond (p y) 1 0) x xs))
  where
    which : (b : Bool) → list_any p xs ≡ ltb 0 (count_by p xs) → (b || list_any p xs) ≡ ltb 0 (cond b 1 0 + count_by p xs)
    which true h = sym (lt-ltb 0 (1 + count_by p xs) (omega arith))
    which false h = h ∙ ap (ltb 0) (sym (zero-add (count_by p xs)))

pub namespace_later : (source : List ℕ) (raw later : List (List Lexeme)) (item : List Lexeme) → raw ≡ item ∷ later → is_namespace source item ≡ false
    → namespace_at source raw ≡ namespace_at source later
namespace_later source raw later item is named = ap (namespace_at source) is ∙ rw named refl

-- the items from one on
read_step : (source : List ℕ) (raw later : List (List Lexeme)) (item : List Lexeme) → raw ≡ item ∷ later
    → read_items source raw ≡ cons_option (item_before source item (count_imports source later)) (read_items source later)
read_step source raw later item is =
    ap (read_items source) is
    ∙ ap (λ (b : Bool). cons_option (cond b (Some (KeptBlock (piece_of item))) (item_of source item)) (read_items source later)) (any_count (is_import source) later)

-- an item is read, or is dropped, behind those that were read
pub read_one : (source : List ℕ) (raw later : List (List Lexeme)) (item : List Lexeme) (n : ℕ) (x : Item) → raw ≡ item ∷ later → n ≡ count_imports source later
    → Some x ≡ item_before source item n → read_items source raw ≡ x ∷ read_items source later
read_one source raw later item n x is counted read =
    read_step source raw later item is
    ∙ ap (λ (o : Option Item). cons_option o (read_items source later)) (sym (read ∙ ap (item_before source item) counted))

pub read_none : (source : List ℕ) (raw later : List (List Lexeme)) (item : List Lexeme) (n : ℕ) → raw ≡ item ∷ later → n ≡ count_imports source later
    → None ≡ item_before source item n → read_items source raw ≡ read_items source later
read_none source raw later item n is counted read =
    read_step source raw later item is
    ∙ ap (λ (o : Option Item). cons_option o (read_items source later)) (sym (read ∙ ap (item_before source item) counted))

get_behind : (done later : List Item) (x : Item) → slice_get (done ++ x ∷ later) (length done) ≡ Some x
get_behind [] later x = refl
get_behind (y ∷ done) later x = get_behind done later x

pub too_many : (source : List ℕ) (raw : List (List Lexeme)) (done later : List Item) (x : Item) → done ++ x ∷ later ≡ read_items source raw → length done ≡ MAX_ITEMS
    → items_of source raw ≡ Err (record { kind = TooManyItems; at = start_of x })
too_many source raw done later x is full =
    let here : slice_get (read_items source raw) MAX_ITEMS ≡ Some x =
    ap (λ (n : ℕ). slice_get (read_items source raw) n) (sym full) ∙ ap (λ (xs : List Item). slice_get xs (length done)) (sym is) ∙ get_behind done later x
    in
    ap (λ (o : Option Item). unless (fault_of TooManyItems (option_map start_of o) ∷ []) (read_items source raw)) here

pub not_too_many : (source : List ℕ) (raw : List (List Lexeme)) (done : List Item) → done ++ [] ≡ read_items source raw → length done ≤ MAX_ITEMS → items_of source raw ≡ Ok done
not_too_many source raw done is few =
    let all : read_items source raw ≡ done = sym is ∙ append-nil done in
    let past : slice_get (read_items source raw) MAX_ITEMS ≡ None = ap (λ (xs : List Item). slice_get xs MAX_ITEMS) all ∙ slice_get_past done MAX_ITEMS few in
    ap (λ (o : Option Item). unless (fault_of TooManyItems (option_map start_of o) ∷ []) (read_items source raw)) past ∙ ap Ok all
