-- A name that no test refuses.
use Rattle.std.proofs.Common.{◌≡◌, ◌⊎◌, ℕ, zero, suc, ◌<◌, ◌≤◌, ◌^◌, Bool, true, false, not, ◌||◌, cond, List, [], ◌∷◌, length, refl, sym, ap, inl, inr, ◌∙◌, arith}
use Rattle.std.specs.List.{filter, list_any}
use Rattle.std.specs.Cmp.Lexicographic.{bytes_decides}
use Rattle.std.proofs.lemmas.Bool.{false≢true, true≢false}
use Rattle.std.specs.Prelude.{◌==◌, decimal, codes, ◌++◌, nat_le}
use Rattle.std.proofs.lemmas.Bool.Decides.{leb_tells}
use Rattle.std.proofs.lemmas.Fmt.{decimal_injective, decimal_nonempty}
use Rattle.std.proofs.lemmas.Bool.{eqb-true}
use Rattle.css_model.specs.Lists.{same_text}
use Rattle.compound_fit.specs.FreeNames.{free_name, is_among}
use Rattle.compound_fit.specs.Laws.{SomeNameIsFree}

holds : List (List ℕ) → List ℕ → Bool
holds refused v = list_any (λ r. same_text r v) refused

rest_of : List ℕ → List (List ℕ) → List (List ℕ)
rest_of v refused = filter (λ r. not (same_text r v)) refused

no_longer : (v : List ℕ) (refused : List (List ℕ)) → length (rest_of v refused) ≤ length refused
unfolding rest_of
no_longer v [] = omega arith
no_longer v (r ∷ refused) = cases (not (same_text r v)) (no_longer v refused)
  where
    cases : (b : Bool) → length (filter (λ r. not (same_text r v)) refused) ≤ length refused →
        length (cond b (r ∷ filter (λ r. not (same_text r v)) refused) (filter (λ r. not (same_text r v)) refused)) ≤ length (r ∷ refused)
    cases true h = omega arith
    cases false h = omega arith

shorter : (v : List ℕ) (refused : List (List ℕ)) → holds refused v ≡ true → length (rest_of v refused) < length refused
unfolding holds rest_of
shorter v [] e = absurd (false≢true e)
shorter v (r ∷ refused) e = cases (same_text r v) e (shorter v refused) (no_longer v refused)
  where
    cases : (b : Bool) → (b || list_any (λ r. same_text r v) refused) ≡ true →
        (list_any (λ r. same_text r v) refused ≡ true → length (filter (λ r. not (same_text r v)) refused) < length refused) →
        length (filter (λ r. not (same_text r v)) refused) ≤ length refused →
        length (cond (not b) (r ∷ filter (λ r. not (same_text r v)) refused) (filter (λ r. not (same_text r v)) refused)) < length (r ∷ refused)
    cases true e later h = omega arith
    cases false e later h = let l : length (filter (λ r. not (same_text r v)) refused) < length refused = later e in omega (arith, l)

-- a text other than v still stands in the rest
still : (v w : List ℕ) (refused : List (List ℕ)) → (v ≡ w → ⊥) → holds (rest_of v refused) w ≡ false → holds refused w ≡ false
unfolding holds rest_of
still v w [] ne e = refl
still v w (r ∷ refused) ne e = cases (same_text r v) refl e (still v w refused ne)
  where
    here : (b : Bool) → same_text r w ≡ b → (b || list_any (λ r. same_text r w) (filter (λ r. not (same_text r v)) refused)) ≡ false →
        (list_any (λ r. same_text r w) (filter (λ r. not (same_text r v)) refused) ≡ false → list_any (λ r. same_text r w) refused ≡ false) →
        (b || list_any (λ r. same_text r w) refused) ≡ false
    here true is e later = absurd (true≢false e)
    here false is e later = later e

    other : (b : Bool) → same_text r w ≡ b → same_text r v ≡ true → list_any (λ r. same_text r w) refused ≡ false → (b || list_any (λ r. same_text r w) refused) ≡ false
    other true is at e = absurd (ne (sym ((bytes_decides r v).0 at) ∙ (bytes_decides r w).0 is))
    other false is at e = e

    cases : (b : Bool) → same_text r v ≡ b →
        list_any (λ r. same_text r w) (cond (not b) (r ∷ filter (λ r. not (same_text r v)) refused) (filter (λ r. not (same_text r v)) refused)) ≡ false →
        (list_any (λ r. same_text r w) (filter (λ r. not (same_text r v)) refused) ≡ false → list_any (λ r. same_text r w) refused ≡ false) →
        (same_text r w || list_any (λ r. same_text r w) refused) ≡ false
    cases true at e later = other (same_text r w) refl at (later e)
    cases false at e later = here (same_text r w) refl e later

pub find_free : (name : ℕ → List ℕ) (top : ℕ) → ((j k : ℕ) → j ≤ top → k ≤ top → name j ≡ name k → j ≡ k) → (n : ℕ) → n ≤ top → (refused : List (List ℕ)) → length refused ≤ n →
    (k : ℕ) × (k ≤ n) × (list_any (λ r. same_text r (name k)) refused ≡ false)
unfolding holds
find_free name top apart zero within [] few = (zero, omega arith, refl)
find_free name top apart zero within (r ∷ refused) few = absurd (let bad : ⊥ = omega arith in bad)
find_free name top apart (suc n) within refused few = cases (holds refused (name (suc n))) refl (find_free name top apart n (omega arith) (rest_of (name (suc n)) refused))
  where
    cases : (b : Bool) → holds refused (name (suc n)) ≡ b →
        (length (rest_of (name (suc n)) refused) ≤ n → (k : ℕ) × (k ≤ n) × (holds (rest_of (name (suc n)) refused) (name k) ≡ false)) →
        (k : ℕ) × (k ≤ suc n) × (holds refused (name k) ≡ false)
    cases false is later = (suc n, omega arith, is)
    cases true is later =
        let less : length (rest_of (name (suc n)) refused) < length refused = shorter (name (suc n)) refused is in
        let r : (k : ℕ) × (k ≤ n) × (holds (rest_of (name (suc n)) refused) (name k) ≡ false) = later (omega (arith, less, few)) in
        (r.0, omega (arith, r.1), still (name (suc n)) (name r.0) refused (λ e. over r.0 r.1 (apart (suc n) r.0 within (let le = r.1 in omega arith) e)) r.2)
      where
        over : (k : ℕ) → k ≤ n → suc n ≡ k → ⊥
        over k le e = omega arith

-- the names differ
free_names_differ : (j k : ℕ) → j < 2 ^ 64 → k < 2 ^ 64 → free_name j ≡ free_name k → j ≡ k
free_names_differ j k small_j small_k e = cases (j == 0) refl (k == 0) refl e
  where
    x_then : List ℕ → List ℕ
    x_then ds = codes "x" ++ ds

    longer : (n : ℕ) → n < 2 ^ 64 → codes "x" ≡ codes "x" ++ decimal n → ⊥
    longer n small same =
        let some = decimal_nonempty n small in
        let none : [] ≡ decimal n = cc in
        let zero_long : 0 ≡ length (decimal n) = ap length none in
        let bad : ⊥ = omega arith in bad

    cases : (a : Bool) → (j == 0) ≡ a → (b : Bool) → (k == 0) ≡ b → cond a (codes "x") (codes "x" ++ decimal j) ≡ cond b (codes "x") (codes "x" ++ decimal k) → j ≡ k
    cases true is_j true is_k same = eqb-true j 0 is_j ∙ sym (eqb-true k 0 is_k)
    cases true is_j false is_k same = absurd (longer k small_k same)
    cases false is_j true is_k same = absurd (longer j small_j (sym same))
    cases false is_j false is_k same = decimal_injective j k small_j small_k (let t : decimal j ≡ decimal k = cc in t)

pub some_name_is_free : SomeNameIsFree
some_name_is_free refused small =
    find_free free_name (length refused) (λ j k j_low k_low e. free_names_differ j k (omega arith) (omega arith) e) (length refused) (omega arith) refused (omega arith)

-- what the search for a free name would have to find at its end
pub none_free : (refused : List (List ℕ)) (n : ℕ) → length refused < 2 ^ 64 → length refused ≤ n → ((k : ℕ) → k < n → is_among refused (free_name k) ≡ true) → is_among refused (free_name n) ≡ true → ⊥
none_free refused n small last before here = at (some_name_is_free refused small)
  where
    at : (k : ℕ) × (k ≤ length refused) × (is_among refused (free_name k) ≡ false) → ⊥
    at free = cases (leb_tells n free.0)
      where
        cases : ((nat_le n free.0 ≡ true) × (n ≤ free.0)) ⊎ ((nat_le n free.0 ≡ false) × (free.0 < n)) → ⊥
        cases (inr below) = true≢false (sym (before free.0 below.1) ∙ free.2)
        cases (inl above) = true≢false (sym here ∙ ap (λ (k : ℕ). is_among refused (free_name k)) (let low = free.1 in let high = above.1 in let e : n ≡ free.0 = omega arith in e) ∙ free.2)

pub is_taken : (b : Bool) → false ≡ not b → b ≡ true
is_taken true e = refl
is_taken false e = absurd (false≢true e)
