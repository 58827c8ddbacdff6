-- Code points that are left.
use Rattle.std.proofs.Common.{◌≡◌, ◌≢◌, ℕ, suc, ◌+◌, ◌<◌, ◌≤◌, Bool, true, false, ◌&&◌, cond, List, [], ◌∷◌, ◌++◌, length, map, refl, sym, ap, subst, ◌∙◌, arith}
use Rattle.std.specs.Prelude.{nat_le}
use Rattle.std.specs.Char.{IsScalar}
use Rattle.std.specs.List.{All, filter, flat_map, list_any}
use Rattle.std.specs.Cmp.Lexicographic.{bytes_decides}
use Rattle.std.proofs.lemmas.Bool.{true≢false, or_parts, and_from, le-leb}
use Rattle.std.proofs.lemmas.List.{length-map}
use Rattle.std.proofs.lemmas.List.Elements.{All-head, All-tail, All-nil, All-cons}
use Rattle.css_model.specs.declared.selector.AttrTest.{AttrTest}
use Rattle.css_model.specs.Lists.{same_text}
use Rattle.attr_values.specs.Separators.{IsUnused}
use Rattle.compound_fit.specs.Laws.{wide_of, EnoughLeft}
use Rattle.compound_fit.proofs.FreeNames.{find_free}

all_wide : (f : ℕ) → 0x10000 ≤ f → (cs : List ℕ) → All (λ c. c ≢ f) (filter (λ c. nat_le 0x10000 c) cs) → All (λ c. c ≢ f) cs
all_wide f le [] h = All-nil (λ c. c ≢ f)
all_wide f le (c ∷ cs) h = cases (nat_le 0x10000 c) refl h (all_wide f le cs)
  where
    cases : (b : Bool) → nat_le 0x10000 c ≡ b → All (λ c. c ≢ f) (cond b (c ∷ filter (λ c. nat_le 0x10000 c) cs) (filter (λ c. nat_le 0x10000 c) cs)) →
        (All (λ c. c ≢ f) (filter (λ c. nat_le 0x10000 c) cs) → All (λ c. c ≢ f) cs) → All (λ c. c ≢ f) (c ∷ cs)
    cases true is h later = All-cons (λ c. c ≢ f) c cs (All-head (λ c. c ≢ f) c (filter (λ c. nat_le 0x10000 c) cs) h) (later (All-tail (λ c. c ≢ f) c (filter (λ c. nat_le 0x10000 c) cs) h))
    cases false is h later = All-cons (λ c. c ≢ f) c cs (λ e. true≢false (sym (le-leb 0x10000 c (subst (λ (n : ℕ). 0x10000 ≤ n) (sym e) le)) ∙ is)) (later h)

free_codes : (f : ℕ) (cs : List ℕ) → list_any (λ r. same_text r (f ∷ [])) (map (λ c. c ∷ []) cs) ≡ false → All (λ c. c ≢ f) cs
free_codes f [] e = All-nil (λ c. c ≢ f)
free_codes f (c ∷ cs) e =
    let both = or_parts (same_text (c ∷ []) (f ∷ [])) (list_any (λ r. same_text r (f ∷ [])) (map (λ c. c ∷ []) cs)) e in
    All-cons (λ c. c ≢ f) c cs (λ same. true≢false (sym ((bytes_decides (c ∷ []) (f ∷ [])).1 (ap (λ (n : ℕ). n ∷ []) same)) ∙ both.0)) (free_codes f cs both.1)

all_left : (f : ℕ) (xs ys : List ℕ) → All (λ c. c ≢ f) (xs ++ ys) → All (λ c. c ≢ f) xs
all_left f [] ys h = All-nil (λ c. c ≢ f)
all_left f (x ∷ xs) ys h = All-cons (λ c. c ≢ f) x xs (All-head (λ c. c ≢ f) x (xs ++ ys) h) (all_left f xs ys (All-tail (λ c. c ≢ f) x (xs ++ ys) h))

all_right : (f : ℕ) (xs ys : List ℕ) → All (λ c. c ≢ f) (xs ++ ys) → All (λ c. c ≢ f) ys
all_right f [] ys h = h
all_right f (x ∷ xs) ys h = all_right f xs ys (All-tail (λ c. c ≢ f) x (xs ++ ys) h)

each_value : (f : ℕ) (tests : List (AttrTest × Bool)) → All (λ c. c ≢ f) (flat_map (λ t. t.0.value) tests) → IsUnused f tests
each_value f [] h = All-nil (λ t. All (λ c. c ≢ f) t.0.value)
each_value f (t ∷ tests) h =
    All-cons (λ t. All (λ c. c ≢ f) t.0.value) t tests (all_left f t.0.value (flat_map (λ t. t.0.value) tests) h) (each_value f tests (all_right f t.0.value (flat_map (λ t. t.0.value) tests) h))

is_scalar : (f : ℕ) → 0x10000 ≤ f → f < 0x110000 → IsScalar f
is_scalar f le lt = either (nat_le (suc f) 55296) (nat_le 57344 f && nat_le (suc f) 1114112) (and_from (nat_le 57344 f) (nat_le (suc f) 1114112) (le-leb 57344 f (omega arith)) (le-leb (suc f) 1114112 (omega arith)))
  where
    either : (b z : Bool) → z ≡ true → cond b true z ≡ true
    either true z e = refl
    either false z e = e

pub enough_left : EnoughLeft
enough_left tests few =
    let names = map (λ c. c ∷ []) (wide_of tests) in
    let free = find_free (λ k. (0x10000 + k) ∷ []) (length names) (λ j k low high. same j k) (length names) (omega arith) names (omega arith) in
    let small : free.0 ≤ 0xFFFFF = within free.0 free.1 in (
      0x10000 + free.0,
      is_scalar (0x10000 + free.0) (omega arith) (omega (arith, small)),
      omega arith,
      each_value (0x10000 + free.0) tests (all_wide (0x10000 + free.0) (omega arith) (flat_map (λ t. t.0.value) tests) (free_codes (0x10000 + free.0) (wide_of tests) free.2)),
    )
  where
    same : (j k : ℕ) → (0x10000 + j) ∷ [] ≡ (0x10000 + k) ∷ [] → j ≡ k
    same j k e = let h : 0x10000 + j ≡ 0x10000 + k = cc in omega (arith, h)

    within : (k : ℕ) → k ≤ length (map (λ c. c ∷ []) (wide_of tests)) → k ≤ 0xFFFFF
    within k le = let e : length (map (λ c. c ∷ []) (wide_of tests)) ≡ length (wide_of tests) = length-map (wide_of tests) (λ c. c ∷ []) in omega (arith, e, le, few)
