-- Where the line of an entry is put.
use Rattle.std.proofs.Common.{◌≡◌, ◌⊎◌, inl, inr, ◌<◌, ◌≤◌, ◌+◌, ℕ, zero, suc, Bool, true, false, cond, List, [], ◌∷◌, ◌++◌, map, length, get_or, set, slice_get, Some, Ordering, append-nil, take, drop, refl, sym, ap, ap₂, subst, ◌∙◌, arith}
use Rattle.std.specs.Prelude.{◌||◌, Err}
use Rattle.std.specs.declared.cmp.Ordering.TheVariants.{Less, Equal, Greater}
use Rattle.std.specs.Cmp.Lexicographic.{bytes_decides, nat_list_cmp_total, slice_cmp, texts_ties}
use Rattle.std.specs.Ordering.{nat_cmp, is_eq, is_lt, ordering_reverse}
use Rattle.std.specs.List.{AllByRecursion, AllWithin, Contains, filter, flat_map}
use Rattle.std.specs.List.Sorted.{IsBinarySearchResult, IsSortedBy, IsStrictlySortedBy}
use Rattle.std.proofs.lemmas.Bool.{cases_lt, false≢true}
use Rattle.std.proofs.lemmas.List.{get_or_default}
use Rattle.std.proofs.lemmas.List.Concat.{flat_map-append}
use Rattle.std.proofs.lemmas.List.Edits.{map_over_more}
use Rattle.std.proofs.lemmas.List.Elements.{All-contains, All-from_recursion, filter-append}
use Rattle.std.proofs.lemmas.List.Sorted.{searchable_from_sorted}
use Rattle.std.proofs.lemmas.Map.Keys.{Less-from_sorted, sorted_head, sorted_tail}
use Rattle.std.proofs.lemmas.Option.{slice_get-get_or, slice_get_within, get_or_from_slice_get}
use Rattle.css_model.specs.Lists.{same_text}
use Rattle.inspect_laws.specs.Entries.{Entry}
use Rattle.inspect_laws.specs.Groups.{family_name, is_all, is_in_group}

abbrev cmp : List ℕ → List ℕ → Ordering
cmp = slice_cmp nat_cmp

-- ---- Two texts compared

equal_same : (a b : List ℕ) → cmp a b ≡ Equal → a ≡ b
equal_same a b h = (bytes_decides a b).0 (texts_ties a b ∙ ap is_eq h)

itself : (a : List ℕ) → cmp a a ≡ Equal
itself a = which (cmp a a) (sym (texts_ties a a) ∙ (bytes_decides a a).1 refl)
  where
    which : (o : Ordering) → is_eq o ≡ true → o ≡ Equal
    which Less h = absurd (false≢true h)
    which Equal h = refl
    which Greater h = absurd (false≢true h)

less_equal : Less ≡ Equal → ⊥
less_equal h = absurd (let none : ⊥ = cc in none)

greater_equal : Greater ≡ Equal → ⊥
greater_equal h = absurd (let none : ⊥ = cc in none)

less_apart : (a b : List ℕ) → cmp a b ≡ Less → same_text a b ≡ false
less_apart a b h = which (same_text a b) refl
  where
    which : (t : Bool) → same_text a b ≡ t → t ≡ false
    which false g = refl
    which true g = absurd (less_equal (sym h ∙ ap (cmp a) (sym ((bytes_decides a b).0 g)) ∙ itself a))

flipped : (a b : List ℕ) → same_text a b ≡ false → same_text b a ≡ false
flipped a b h = which (same_text b a) refl
  where
    which : (t : Bool) → same_text b a ≡ t → t ≡ false
    which false g = refl
    which true g = absurd (false≢true (sym h ∙ (bytes_decides a b).1 (sym ((bytes_decides b a).0 g))))

-- ---- The place of a family

pub found_there : (families : List (List ℕ)) (name : List ℕ) (i : ℕ) → i < length families → ((d : List ℕ) → cmp (get_or families i d) name ≡ Equal) → slice_get families i ≡ Some name
found_there families name i within equal = slice_get-get_or families i name within ∙ ap Some (equal_same (get_or families i name) name (equal name))

sorted_by : (families : List (List ℕ)) → IsStrictlySortedBy cmp families → IsSortedBy (λ a b. is_lt (cmp a b)) families
sorted_by families up k d low within =
    let less : cmp (get_or families k d) (get_or families (k + 1) d) ≡ Less = Less-from_sorted cmp families k (k + 1) d up (omega arith) within in
    ap is_lt (nat_list_cmp_total.antisymm (get_or families (k + 1) d) (get_or families k d) ∙ ap ordering_reverse less)

-- one that is there is found
pub is_there : (families : List (List ℕ)) (name : List ℕ) (i : ℕ) → IsStrictlySortedBy cmp families → Contains families name → IsBinarySearchResult (λ y. cmp y name) families (Err i) → ⊥
is_there families name i up there missed =
    let parts = missed (searchable_from_sorted nat_list_cmp_total (λ (x : List ℕ). x) families name (sorted_by families up)) in
    which (cases_lt there.0 i) parts
  where
    equal : cmp (get_or families there.0 name) name ≡ Equal
    equal = ap (λ (x : List ℕ). cmp x name) there.2 ∙ itself name

    which : (there.0 < i) ⊎ (i ≤ there.0) → AllWithin (λ y. cmp y name ≡ Less) families 0 i × AllWithin (λ y. cmp y name ≡ Greater) families i (length families) → ⊥
    which (inl before) parts = less_equal (sym (parts.0 there.0 name (omega arith) before) ∙ equal)
    which (inr behind) parts = greater_equal (sym (parts.1 there.0 name behind there.1) ∙ equal)

-- ---- One line more

abbrev lines_of : (Entry → List ℕ) → List Entry → List ℕ → List ℕ
lines_of f before family = flat_map f (filter (is_in_group family) before)

one_more : (f : Entry → List ℕ) (before : List Entry) (e : Entry) (family : List ℕ) → lines_of f (before ++ e ∷ []) family ≡ lines_of f before family ++ flat_map f (cond (is_in_group family e) (e ∷ []) [])
one_more f before e family =
    ap (flat_map f) (filter-append (is_in_group family) before (e ∷ [])) ∙ flat_map-append f (filter (is_in_group family) before) (cond (is_in_group family e) (e ∷ []) [])

inside : (f : Entry → List ℕ) (before : List Entry) (e : Entry) (line : List ℕ) (family : List ℕ) → f e ≡ line → is_in_group family e ≡ true → lines_of f (before ++ e ∷ []) family ≡ lines_of f before family ++ line
inside f before e line family is in_it =
    one_more f before e family ∙ ap (λ (b : Bool). lines_of f before family ++ flat_map f (cond b (e ∷ []) [])) in_it ∙ ap (λ (xs : List ℕ). lines_of f before family ++ xs) (append-nil (f e) ∙ is)

outside : (f : Entry → List ℕ) (before : List Entry) (e : Entry) (family : List ℕ) → is_in_group family e ≡ false → lines_of f (before ++ e ∷ []) family ≡ lines_of f before family
outside f before e family out = one_more f before e family ∙ ap (λ (b : Bool). lines_of f before family ++ flat_map f (cond b (e ∷ []) [])) out ∙ append-nil (lines_of f before family)

-- of an entry of `all`: in each group
pub line_in_each : (families : List (List ℕ)) (texts : List (List ℕ)) (before : List Entry) (f : Entry → List ℕ) (e : Entry) (line : List ℕ) → is_all e ≡ true → f e ≡ line → texts ≡ map (lines_of f before) families →
    map (λ text. text ++ line) texts ≡ map (lines_of f (before ++ e ∷ [])) families
line_in_each families texts before f e line all is so_far = ap (map (λ text. text ++ line)) so_far ∙ each families
  where
    each : (xs : List (List ℕ)) → map (λ text. text ++ line) (map (lines_of f before) xs) ≡ map (lines_of f (before ++ e ∷ [])) xs
    each [] = refl
    each (x ∷ xs) = ap₂ (λ (y : List ℕ) (ys : List (List ℕ)). y ∷ ys) (sym (inside f before e line x is (ap (λ (b : Bool). b || same_text (family_name e) x) all))) (each xs)

-- of another one: in its own
module _ (f : Entry → List ℕ) (before : List Entry) (e : Entry) (line : List ℕ) (other : is_all e ≡ false) (is : f e ≡ line) where
  abbrev old : List ℕ → List ℕ
  old = lines_of f before

  abbrev new : List ℕ → List ℕ
  new = lines_of f (before ++ e ∷ [])

  own : new (family_name e) ≡ old (family_name e) ++ line
  own = inside f before e line (family_name e) is (ap (λ (b : Bool). b || same_text (family_name e) (family_name e)) other ∙ (bytes_decides (family_name e) (family_name e)).1 refl)

  apart : (family : List ℕ) → same_text (family_name e) family ≡ false → new family ≡ old family
  apart family h = outside f before e family (ap (λ (b : Bool). b || same_text (family_name e) family) other ∙ h)

  all_apart : (xs : List (List ℕ)) → AllByRecursion (λ y. cmp (family_name e) y ≡ Less) xs → map old xs ≡ map new xs
  all_apart [] up = refl
  all_apart (x ∷ xs) up = ap₂ (λ (y : List ℕ) (ys : List (List ℕ)). y ∷ ys) (sym (apart x (less_apart (family_name e) x up.0))) (all_apart xs up.1)

  put_at : (xs : List (List ℕ)) (i : ℕ) → IsStrictlySortedBy cmp xs → slice_get xs i ≡ Some (family_name e) → set (map old xs) i (get_or (map old xs) i [] ++ line) ≡ map new xs
  put_at [] i up at = absurd (let none : ⊥ = cc in none)
  put_at (x ∷ xs) zero up at =
      let same : x ≡ family_name e = cc in
      ap₂ (λ (y : List ℕ) (ys : List (List ℕ)). y ∷ ys) (ap (λ (y : List ℕ). old y ++ line) same ∙ sym own ∙ ap new (sym same))
      (all_apart xs (subst (λ (y : List ℕ). AllByRecursion (λ z. cmp y z ≡ Less) xs) same (sorted_head cmp x xs up)))
  put_at (x ∷ xs) (suc i) up at =
      let within : i < length xs = slice_get_within xs i (family_name e) at in
      let there : Contains xs (family_name e) = (i, within, get_or_from_slice_get xs i (family_name e) (family_name e) at) in
      let less : cmp x (family_name e) ≡ Less = All-contains (λ (y : List ℕ). cmp x y ≡ Less) xs (family_name e) (All-from_recursion (λ (y : List ℕ). cmp x y ≡ Less) xs (sorted_head cmp x xs up)) there in
      ap₂ (λ (y : List ℕ) (ys : List (List ℕ)). y ∷ ys) (sym (apart x (flipped x (family_name e) (less_apart x (family_name e) less)))) (put_at xs i (sorted_tail cmp x xs up) at)

pub line_at : (families : List (List ℕ)) (texts : List (List ℕ)) (before : List Entry) (f : Entry → List ℕ) (e : Entry) (line : List ℕ) (i : ℕ) → is_all e ≡ false → IsStrictlySortedBy cmp families →
    slice_get families i ≡ Some (family_name e) → f e ≡ line → texts ≡ map (lines_of f before) families →
    set texts i (get_or texts i [] ++ line) ≡ map (lines_of f (before ++ e ∷ [])) families
line_at families texts before f e line i other up at is so_far =
    ap (λ (ts : List (List ℕ)). set ts i (get_or ts i [] ++ line)) so_far ∙ put_at f before e line other is families i up at

-- ---- Each group gets a line

pub each_next : (line : List ℕ) (xs ys zs : List (List ℕ)) (i : ℕ) → i < length xs → ys ≡ map (λ text. text ++ line) (take i xs) ++ drop i xs →
    zs ≡ set ys i (get_or ys i [] ++ line) → zs ≡ map (λ text. text ++ line) (take (i + 1) xs) ++ drop (i + 1) xs
each_next line xs ys zs i within done put =
    let long : length ys ≡ length xs = ap length done ∙ same_length (λ text. text ++ line) i xs in
    put ∙ map_over_more (λ (text : List ℕ). text ++ line) xs ys i (get_or ys i []) within done (get_or_default ys i [] (get_or ys i []) (omega (arith, within, long)))
  where
    same_length : (f : List ℕ → List ℕ) (i : ℕ) (xs : List (List ℕ)) → length (map f (take i xs) ++ drop i xs) ≡ length xs
    same_length f zero xs = refl
    same_length f (suc i) [] = refl
    same_length f (suc i) (x ∷ xs) = ap suc (same_length f i xs)
