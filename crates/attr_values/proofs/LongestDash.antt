-- The first Dash whose value passes as asked is the longest one.
use Rattle.std.proofs.Common.{◌≡◌, ◌⊎◌, ℕ, ◌<◌, ◌≤◌, Bool, true, false, ◌&&◌, cond, List, [], ◌∷◌, ◌++◌, length, refl, sym, ap, subst, inl, inr, ◌∙◌, arith}
use Rattle.std.specs.Prelude.{nat_le}
use Rattle.std.specs.Bool.{MatchBool}
use Rattle.std.specs.List.{All}
use Rattle.std.proofs.lemmas.Bool.{false≢true, true≢false}
use Rattle.std.proofs.lemmas.Bool.Decides.{leb_tells}
use Rattle.std.proofs.lemmas.List.{length-append}
use Rattle.std.proofs.lemmas.List.Elements.{All-head, All-tail, All-nil, All-cons, All-weaker}
use Rattle.css_model.specs.declared.selector.AttrTest.{AttrTest}
use Rattle.css_model.specs.declared.selector.Op.{Op}
use Rattle.css_model.specs.declared.selector.Op.TheVariants.{Present, Equal, Word, Dash, Prefix, Suffix, Part}
use Rattle.css_model.specs.Documents.Attribute.{BeginsWith, Passes}
use Rattle.attr_values.specs.Asked.{PassesOne, PassesAsAsked, passes_as_asked, asked, is_dash, some_of}
use Rattle.attr_values.specs.Value.{longer, longest, first_passing}
use Rattle.attr_values.proofs.Candidates.{passing-decides}

-- what holds of all texts, and of the longest where there is one
longest_has : (P : List ℕ → Type 0) (xs : List (List ℕ)) → some_of xs ≡ true → All P xs → P (longest xs)
longest_has P [] some h = absurd (false≢true some)
longest_has P (x ∷ []) some h = cases (leb_tells 0 (length x))
  where
    cases : ((nat_le 0 (length x) ≡ true) × (0 ≤ length x)) ⊎ ((nat_le 0 (length x) ≡ false) × (length x < 0)) → P (longer x [])
    cases (inl t) = subst P (sym (ap (λ (b : Bool). cond b x []) t.0)) (All-head P x [] h)
    cases (inr t) = absurd (let low = t.1 in let bad : ⊥ = omega arith in bad)
longest_has P (x ∷ y ∷ ys) some h = cases (nat_le (length (longest (y ∷ ys))) (length x)) (longest_has P (y ∷ ys) refl (All-tail P x (y ∷ ys) h))
  where
    cases : (b : Bool) → P (longest (y ∷ ys)) → P (cond b x (longest (y ∷ ys)))
    cases true later = All-head P x (y ∷ ys) h
    cases false later = later

-- none is longer
longest_bounds : (xs : List (List ℕ)) → All (λ x. length x ≤ length (longest xs)) xs
longest_bounds [] = All-nil (λ x. length x ≤ 0)
longest_bounds (x ∷ xs) = cases (leb_tells (length (longest xs)) (length x)) (longest_bounds xs)
  where
    cases : ((nat_le (length (longest xs)) (length x) ≡ true) × (length (longest xs) ≤ length x)) ⊎ ((nat_le (length (longest xs)) (length x) ≡ false) × (length x < length (longest xs))) →
        All (λ y. length y ≤ length (longest xs)) xs → All (λ y. length y ≤ length (longer x (longest xs))) (x ∷ xs)
    cases (inl t) later =
        subst (λ (b : Bool). All (λ y. length y ≤ length (cond b x (longest xs))) (x ∷ xs)) (sym t.0)
        (All-cons (λ y. length y ≤ length x) x xs (omega arith) (All-weaker (λ y. length y ≤ length (longest xs)) (λ y. length y ≤ length x) (λ y le. let higher = t.1 in omega arith) xs later))
    cases (inr t) later =
        subst (λ (b : Bool). All (λ y. length y ≤ length (cond b x (longest xs))) (x ∷ xs)) (sym t.0)
        (All-cons (λ y. length y ≤ length (longest xs)) x xs (let higher = t.1 in omega arith) later)

-- a value that passes is the value of a Dash that is asked for, or is longer
dash_one : (s : List ℕ) (op : Op) (v : List ℕ) (b : Bool) (vs : List (List ℕ)) → MatchBool b (Passes op v s) (Passes op v s → ⊥) →
    All (λ d. (s ≡ d) ⊎ (length d < length s)) vs → All (λ d. (s ≡ d) ⊎ (length d < length s)) (cond (b && is_dash op) (v ∷ vs) vs)
dash_one s op v false vs h rest = rest
dash_one s Dash v true vs h rest = All-cons (λ d. (s ≡ d) ⊎ (length d < length s)) v vs (cases h) rest
  where
    cases : (s ≡ v) ⊎ BeginsWith s (v ++ 0x2D ∷ []) → (s ≡ v) ⊎ (length v < length s)
    cases (inl e) = inl e
    cases (inr begins) = inr (
        let whole : length s ≡ length ((v ++ 0x2D ∷ []) ++ begins.0) = ap length begins.1 in
        let outer = length-append (v ++ 0x2D ∷ []) begins.0 in
        let inner = length-append v (0x2D ∷ []) in
        omega arith)
dash_one s Present v true vs h rest = rest
dash_one s Equal v true vs h rest = rest
dash_one s Word v true vs h rest = rest
dash_one s Prefix v true vs h rest = rest
dash_one s Suffix v true vs h rest = rest
dash_one s Part v true vs h rest = rest

dashes_pass : (s : List ℕ) (tests : List (AttrTest × Bool)) → PassesAsAsked tests s → All (λ d. (s ≡ d) ⊎ (length d < length s)) (asked is_dash tests)
dashes_pass s [] h = All-nil (λ d. (s ≡ d) ⊎ (length d < length s))
dashes_pass s (t ∷ tests) h =
    dash_one s t.0.op t.0.value t.1 (asked is_dash tests) (All-head (PassesOne s) t tests h) (dashes_pass s tests (All-tail (PassesOne s) t tests h))

-- so each of them that passes is the longest
passing_is_longest : (tests : List (AttrTest × Bool)) → some_of (asked is_dash tests) ≡ true →
    All (λ v. passes_as_asked tests v ≡ true → v ≡ longest (asked is_dash tests)) (asked is_dash tests)
passing_is_longest tests some =
    All-weaker (λ v. length v ≤ length (longest (asked is_dash tests))) (λ v. passes_as_asked tests v ≡ true → v ≡ longest (asked is_dash tests))
    (λ v le pass. cases v le (longest_has (λ d. (v ≡ d) ⊎ (length d < length v)) (asked is_dash tests) some (dashes_pass v tests ((passing-decides tests v).0 pass))))
    (asked is_dash tests) (longest_bounds (asked is_dash tests))
  where
    cases : (v : List ℕ) → length v ≤ length (longest (asked is_dash tests)) → (v ≡ longest (asked is_dash tests)) ⊎ (length (longest (asked is_dash tests)) < length v) → v ≡ longest (asked is_dash tests)
    cases v le (inl e) = e
    cases v le (inr lt) = absurd (let bad : ⊥ = omega arith in bad)

-- the first that passes, where those that do are one
first_is : (tests : List (AttrTest × Bool)) (best other : List ℕ) (vs : List (List ℕ)) → All (λ v. passes_as_asked tests v ≡ true → v ≡ best) vs →
    All (λ v. passes_as_asked tests v ≡ true → first_passing tests vs other ≡ best) vs
first_is tests best other [] h = All-nil (λ v. passes_as_asked tests v ≡ true → other ≡ best)
first_is tests best other (v ∷ vs) h = cases (passes_as_asked tests v) refl (first_is tests best other vs (All-tail (λ v. passes_as_asked tests v ≡ true → v ≡ best) v vs h))
  where
    cases : (b : Bool) → passes_as_asked tests v ≡ b → All (λ v. passes_as_asked tests v ≡ true → first_passing tests vs other ≡ best) vs →
        All (λ x. passes_as_asked tests x ≡ true → cond b v (first_passing tests vs other) ≡ best) (v ∷ vs)
    cases true is later = λ k d l pass. All-head (λ v. passes_as_asked tests v ≡ true → v ≡ best) v vs h is
    cases false is later = All-cons (λ x. passes_as_asked tests x ≡ true → first_passing tests vs other ≡ best) v vs (λ pass. absurd (false≢true (sym is ∙ pass))) later

first_is_other : (tests : List (AttrTest × Bool)) (best other : List ℕ) (vs : List (List ℕ)) → All (λ v. passes_as_asked tests v ≡ true → v ≡ best) vs →
    passes_as_asked tests best ≡ false → first_passing tests vs other ≡ other
first_is_other tests best other [] h fails = refl
first_is_other tests best other (v ∷ vs) h fails = cases (passes_as_asked tests v) refl (first_is_other tests best other vs (All-tail (λ v. passes_as_asked tests v ≡ true → v ≡ best) v vs h) fails)
  where
    cases : (b : Bool) → passes_as_asked tests v ≡ b → first_passing tests vs other ≡ other → cond b v (first_passing tests vs other) ≡ other
    cases true is later = absurd (true≢false (sym is ∙ ap (passes_as_asked tests) (All-head (λ v. passes_as_asked tests v ≡ true → v ≡ best) v vs h is) ∙ fails))
    cases false is later = later

pub dash_passes : (tests : List (AttrTest × Bool)) (best : List ℕ) → best ≡ longest (asked is_dash tests) → true ≡ some_of (asked is_dash tests) →
    true ≡ passes_as_asked tests best → (other : List ℕ) → first_passing tests (asked is_dash tests) other ≡ best
dash_passes tests best is some passes other =
    longest_has (λ v. passes_as_asked tests v ≡ true → first_passing tests (asked is_dash tests) other ≡ longest (asked is_dash tests)) (asked is_dash tests) (sym some)
    (first_is tests (longest (asked is_dash tests)) other (asked is_dash tests) (passing_is_longest tests (sym some))) (sym (passes ∙ ap (passes_as_asked tests) is)) ∙ sym is

pub dash_fails : (tests : List (AttrTest × Bool)) (best : List ℕ) → best ≡ longest (asked is_dash tests) → true ≡ some_of (asked is_dash tests) →
    false ≡ passes_as_asked tests best → (other : List ℕ) → first_passing tests (asked is_dash tests) other ≡ other
dash_fails tests best is some fails other =
    first_is_other tests (longest (asked is_dash tests)) other (asked is_dash tests) (passing_is_longest tests (sym some)) (sym (fails ∙ ap (passes_as_asked tests) is))

pub no_dash : (tests : List (AttrTest × Bool)) → false ≡ some_of (asked is_dash tests) → (other : List ℕ) → first_passing tests (asked is_dash tests) other ≡ other
no_dash tests none other = cases (asked is_dash tests) none
  where
    cases : (vs : List (List ℕ)) → false ≡ some_of vs → first_passing tests vs other ≡ other
    cases [] e = refl
    cases (v ∷ vs) e = absurd (false≢true e)
