-- The numbers of items in parts of a sheet.
use Rattle.std.proofs.Common.{◌≡◌, ℕ, zero, suc, ◌+◌, ◌-◌, ◌<◌, ◌≤◌, true, List, [], ◌∷◌, ◌++◌, length, take, drop, Some, None, refl, sym, ap, ◌∙◌, arith}
use Rattle.std.specs.Prelude.{slice_get, slice_range}
use Rattle.std.proofs.lemmas.Bool.{false≢true}
use Rattle.std.proofs.lemmas.List.Elements.{filter-append}
use Rattle.cascade_laws.proofs.ForCallers.{some-same}
use Rattle.css_model.specs.declared.sheet.Item.{Item}
use Rattle.css_model.specs.declared.sheet.Item.TheVariants.{Rule, KeptRule, KeptBlock}
use Rattle.css_model.specs.Sheets.KeptItems.{is_kept, kept_before, kept_items}
use Rattle.list_facts.proofs.SliceRange.{slice_range_parts}
use Rattle.window_order.proofs.ForCallers.{get_drop}

-- ---- Elements of parts

get_take : {X : Type 0} (xs : List X) (n i : ℕ) (x : X) → slice_get (take n xs) i ≡ Some x → (slice_get xs i ≡ Some x) × (i < n)
get_take {X} [] zero i x at = absurd (let e : None ≡ Some x = at in cc)
get_take {X} [] (suc n) i x at = absurd (let e : None ≡ Some x = at in cc)
get_take {X} (y ∷ xs) zero i x at = absurd (let e : None ≡ Some x = at in cc)
get_take {X} (y ∷ xs) (suc n) zero x at = (at, omega arith)
get_take {X} (y ∷ xs) (suc n) (suc i) x at = let h : (slice_get xs i ≡ Some x) × (i < n) = get_take xs n i x at in (h.0, let less = h.1 in omega (arith, less))

pub range_at : {X : Type 0} (xs : List X) (i k j : ℕ) (x : X) → i ≤ k → slice_get (slice_range xs i k) j ≡ Some x → (slice_get xs (i + j) ≡ Some x) × (i + j < k)
range_at {X} xs i k j x order at =
    let h : (slice_get (drop i xs) j ≡ Some x) × (j < k - i) = get_take (drop i xs) (k - i) j x at in
    let less = h.1 in
    (sym (get_drop xs i j) ∙ h.0, omega (arith, less, order))

-- ---- Kept items

length_both : {X : Type 0} (xs ys : List X) → length (xs ++ ys) ≡ length xs + length ys
length_both {X} [] ys = omega arith
length_both {X} (x ∷ xs) ys = let h : length (xs ++ ys) ≡ length xs + length ys = length_both xs ys in omega (arith, h)

kept_in_first : (n : ℕ) (items : List Item) → length (kept_items (take n items)) ≡ kept_before n items
kept_in_first zero [] = refl
kept_in_first zero (item ∷ items) = refl
kept_in_first (suc n) [] = refl
kept_in_first (suc n) (Rule r ∷ items) = kept_in_first n items
kept_in_first (suc n) (KeptRule k ∷ items) = ap suc (kept_in_first n items)
kept_in_first (suc n) (KeptBlock k ∷ items) = ap suc (kept_in_first n items)

take_take : {X : Type 0} (xs : List X) (n m : ℕ) → n ≤ m → take n (take m xs) ≡ take n xs
take_take {X} [] zero zero less = refl
take_take {X} [] zero (suc m) less = refl
take_take {X} [] (suc n) zero less = refl
take_take {X} [] (suc n) (suc m) less = refl
take_take {X} (x ∷ xs) zero zero less = refl
take_take {X} (x ∷ xs) zero (suc m) less = refl
take_take {X} (x ∷ xs) (suc n) zero less = absurd (omega arith)
take_take {X} (x ∷ xs) (suc n) (suc m) less = ap (λ ys. x ∷ ys) (take_take xs n m (omega arith))

-- the kept items before one of the middle part are those above, and those of the middle part before it
pub number_is : (items : List Item) (start middle last i : ℕ) → start ≤ middle → middle ≤ i → i < last → kept_items (slice_range items start middle) ≡ [] →
    kept_before i items ≡ length (kept_items (take start items)) + kept_before (i - middle) (slice_range items middle last)
number_is items start middle last i a b c plain =
    sym (kept_in_first i items)
    ∙ ap (λ xs. length (kept_items xs)) parted
    ∙ ap (λ (xs : List Item). length xs) (filter-append is_kept (take start items) (slice_range items start middle ++ slice_range items middle i))
    ∙ length_both (kept_items (take start items)) (kept_items (slice_range items start middle ++ slice_range items middle i))
    ∙ ap (λ (n : ℕ). length (kept_items (take start items)) + n) behind
  where
    from_first : (n : ℕ) → slice_range items 0 n ≡ take n items
    from_first n = let e : n - 0 ≡ n = omega arith in ap (λ (m : ℕ). take m (drop 0 items)) e ∙ ap (take n) (whole items)
      where
        whole : (xs : List Item) → drop 0 xs ≡ xs
        whole [] = refl
        whole (x ∷ xs) = refl

    parted : take i items ≡ take start items ++ (slice_range items start middle ++ slice_range items middle i)
    parted =
        sym (from_first i)
        ∙ slice_range_parts items 0 start i (omega arith) (omega (arith, a, b))
        ∙ ap (λ xs. xs ++ slice_range items start i) (from_first start)
        ∙ ap (λ xs. take start items ++ xs) (slice_range_parts items start middle i a b)

    behind : length (kept_items (slice_range items start middle ++ slice_range items middle i)) ≡ kept_before (i - middle) (slice_range items middle last)
    behind =
        ap (λ (xs : List Item). length xs) (filter-append is_kept (slice_range items start middle) (slice_range items middle i) ∙ ap (λ (xs : List Item). xs ++ kept_items (slice_range items middle i)) plain)
        ∙ ap (λ xs. length (kept_items xs)) (sym (take_take (drop middle items) (i - middle) (last - middle) (omega (arith, b, c))))
        ∙ kept_in_first (i - middle) (slice_range items middle last)

pub kept_found : (xs : List Item) (n : ℕ) (item : Item) → slice_get (kept_items xs) n ≡ Some item → (j : ℕ) × (slice_get xs j ≡ Some item) × (is_kept item ≡ true) × (kept_before j xs ≡ n)
kept_found [] n item at = absurd (let e : None ≡ Some item = at in cc)
kept_found (Rule r ∷ xs) n item at = let h = kept_found xs n item at in (suc h.0, h.1, h.2, h.3)
kept_found (KeptRule k ∷ xs) zero item at = (0, at, ap is_kept (sym (some-same at)), refl)
kept_found (KeptRule k ∷ xs) (suc n) item at = let h = kept_found xs n item at in (suc h.0, h.1, h.2, ap suc h.3)
kept_found (KeptBlock k ∷ xs) zero item at = (0, at, ap is_kept (sym (some-same at)), refl)
kept_found (KeptBlock k ∷ xs) (suc n) item at = let h = kept_found xs n item at in (suc h.0, h.1, h.2, ap suc h.3)

pub kept_at : (xs : List Item) (j : ℕ) (item : Item) → slice_get xs j ≡ Some item → is_kept item ≡ true → slice_get (kept_items xs) (kept_before j xs) ≡ Some item
kept_at [] j item at kept = absurd (let e : None ≡ Some item = at in cc)
kept_at (Rule r ∷ xs) zero item at kept = absurd (false≢true (ap is_kept (some-same at) ∙ kept))
kept_at (Rule r ∷ xs) (suc j) item at kept = kept_at xs j item at kept
kept_at (KeptRule k ∷ xs) zero item at kept = at
kept_at (KeptRule k ∷ xs) (suc j) item at kept = kept_at xs j item at kept
kept_at (KeptBlock k ∷ xs) zero item at kept = at
kept_at (KeptBlock k ∷ xs) (suc j) item at kept = kept_at xs j item at kept

-- the kept items of three parts of which the outer ones have none
pub kept_middle : (first middle last : List Item) → kept_items first ≡ [] → kept_items last ≡ [] → kept_items (first ++ (middle ++ last)) ≡ kept_items middle
kept_middle first middle last a b =
    filter-append is_kept first (middle ++ last) ∙ ap (λ (xs : List Item). xs ++ kept_items (middle ++ last)) a ∙ filter-append is_kept middle last
    ∙ ap (λ (xs : List Item). kept_items middle ++ xs) b ∙ none (kept_items middle)
  where
    none : (xs : List Item) → xs ++ [] ≡ xs
    none [] = refl
    none (x ∷ xs) = ap (λ ys. x ∷ ys) (none xs)
