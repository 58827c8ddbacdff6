-- What a scan may pass over: numbers between two members of a step, and numbers that are not reduced.
use Rattle.std.proofs.Common.{◌≡◌, ◌⊎◌, inl, inr, ◌↔◌, ℕ, zero, suc, ◌+◌, ◌*◌, ◌^◌, ◌<◌, ◌≤◌, Bool, true, false, List, [], ◌∷◌, ℤ, pos, negsuc, ◌+ℤ◌, ◌*ℤ◌, refl, sym, ap, subst, ◌∙◌, arith, get_or, length, map}
use Rattle.std.specs.Prelude.{unsigned_abs}
use Rattle.std.specs.Bool.{MatchBool}
use Rattle.std.specs.List.{All, Contains}
use Rattle.std.proofs.lemmas.Bool.{cases_lt, cases_eq}
use Rattle.std.proofs.lemmas.Int.{ints}
use Rattle.std.proofs.lemmas.List.{get_or-map, length-map}
use Rattle.std.proofs.lemmas.List.Elements.{All-head, All-tail, All-nil, All-cons, Contains-append_right, Contains-get_or}
use Rattle.std.proofs.Math.Nat.{mul-le-mul_left, pow-le-pow_right}
use Rattle.css_model.specs.declared.position.AnB.{AnB}
use Rattle.css_model.specs.Documents.Matching.{IsNth}
use Rattle.css_model.specs.Positions.Range.{IsInRange}
use Rattle.nth_positions.specs.Gaps.{bounds_of, greatest_count, reduced}
use Rattle.sibling_counts.specs.declared.side.Asked.{Asked}
use Rattle.sibling_counts.specs.Sides.{PassesTest, PassesTests, positions_of}

-- two members differ by a step at least
step_apart : (a b : ℤ) (k m n n' : ℕ) → pos k ≡ (a *ℤ pos n) +ℤ b → pos m ≡ (a *ℤ pos n') +ℤ b → k < m → m < k + unsigned_abs a → ⊥
step_apart (pos s) b k m n n' e e' l h = elim (cases_lt n n') [
  | inl before ↦ (let far : s * suc n ≤ s * n' = mul-le-mul_left s before in let one : s * suc n ≡ s * n + s = omega arith in omega (arith, ints))
  | inr behind ↦ (let near : s * n' ≤ s * n = mul-le-mul_left s behind in omega (arith, ints))
]
step_apart (negsuc s) b k m n n' e e' l h = elim (cases_lt n' n) [
  | inl before ↦ (let far : suc s * suc n' ≤ suc s * n = mul-le-mul_left (suc s) before in let one : suc s * suc n' ≡ suc s * n' + suc s = omega arith in omega (arith, ints))
  | inr behind ↦ (let near : suc s * n ≤ suc s * n' = mul-le-mul_left (suc s) behind in omega (arith, ints))
]

pub members_apart : (x : AnB) (k m : ℕ) → IsNth x (k + 1) → IsNth x (m + 1) → k < m → m < k + unsigned_abs x.a → ⊥
members_apart x k m (n, e) (n', e') l h = step_apart x.a x.b (k + 1) (m + 1) n n' e e' (omega arith) (omega arith)

-- the law of reduced gaps, for tests that stand among others
abbrev pub KeepsMembers : Type 0
KeepsMembers = (parts : List AnB) (x : AnB) (gap k : ℕ) → Contains parts x → 1 ≤ k → IsNth x (gap + k) ↔ IsNth x (reduced (bounds_of parts) gap + k)

one_reduced : KeepsMembers → (all : List AnB) (t : Asked) (n : ℕ) → Contains all t.positions → PassesTest n t → PassesTest (reduced (bounds_of all) n) t
one_reduced law all t n among h = by t.negated h
  where
    same : IsNth t.positions (n + 1) ↔ IsNth t.positions (reduced (bounds_of all) n + 1)
    same = law all t.positions n 1 among (omega arith)

    by : (negated : Bool) → MatchBool negated (IsNth t.positions (n + 1) → ⊥) (IsNth t.positions (n + 1)) →
        MatchBool negated (IsNth t.positions (reduced (bounds_of all) n + 1) → ⊥) (IsNth t.positions (reduced (bounds_of all) n + 1))
    by true k = λ g. k (same.1 g)
    by false k = same.0 k

among_reduced : KeepsMembers → (all : List AnB) (tests : List Asked) (n : ℕ) → ((x : AnB) → Contains (positions_of tests) x → Contains all x) →
    PassesTests tests n → PassesTests tests (reduced (bounds_of all) n)
among_reduced law all [] n into h = All-nil (PassesTest (reduced (bounds_of all) n))
among_reduced law all (t ∷ tests) n into h =
    All-cons (PassesTest (reduced (bounds_of all) n)) t tests
    (one_reduced law all t n (into t.positions (Contains-get_or (positions_of (t ∷ tests)) 0 t.positions (omega arith))) (All-head (PassesTest n) t tests h))
    (among_reduced law all tests n (λ x c. into x (Contains-append_right (t.positions ∷ []) (positions_of tests) x c)) (All-tail (PassesTest n) t tests h))

-- what passes, passes reduced
pub passes_reduced : KeepsMembers → (tests : List Asked) (n : ℕ) → PassesTests tests n → PassesTests tests (reduced (bounds_of (positions_of tests)) n)
passes_reduced law tests n h = among_reduced law (positions_of tests) tests n (λ x c. c) h

-- the positions of a test in range
pub in_range_at : (tests : List Asked) (i : ℕ) (d : Asked) → i < length tests → All IsInRange (positions_of tests) → IsInRange (get_or tests i d).positions
in_range_at tests i d below h =
    subst IsInRange (get_or-map (λ (t : Asked). t.positions) tests i d d.positions below) (h i d.positions (subst (λ n. i < n) (sym (length-map tests (λ (t : Asked). t.positions))) below))

-- numbers that a stride passes over
pub skipped : (P : ℕ → Type 0) (start number stride : ℕ) → ((n : ℕ) → start ≤ n → n < number → P n → ⊥) → (P number → ⊥) →
    ((n : ℕ) → number < n → n < number + stride → P n → ⊥) → (n : ℕ) → start ≤ n → n < number + stride → P n → ⊥
skipped P start number stride before here behind n from below h = elim (cases_lt n number) [
  | inl l ↦ before n from l h
  | inr l ↦ at (cases_eq n number) l
]
  where
    at : (n ≡ number) ⊎ (n ≡ number → ⊥) → number ≤ n → ⊥
    at (inl e) l = here (subst P e h)
    at (inr d) l = behind n (omega arith) below h

-- where no number below the limit passes, none does
pub none_reduced : KeepsMembers → ((parts : List AnB) (gap : ℕ) → (reduced (bounds_of parts) gap ≡ 0) ↔ (gap ≡ 0)) →
    ((parts : List AnB) (gap : ℕ) → reduced (bounds_of parts) gap < (bounds_of parts).threshold + (bounds_of parts).period) →
    (tests : List Asked) (start number : ℕ) → start ≤ 1 → (bounds_of (positions_of tests)).threshold + (bounds_of (positions_of tests)).period ≤ number →
    ((n : ℕ) → start ≤ n → n < number → PassesTests tests n → ⊥) → (n : ℕ) → start ≤ n → PassesTests tests n → ⊥
none_reduced law zero_law below_law tests start number near limit none n from h =
    let r = reduced (bounds_of (positions_of tests)) n in
    none r (from_start (cases_eq r 0)) (let l : r < (bounds_of (positions_of tests)).threshold + (bounds_of (positions_of tests)).period = below_law (positions_of tests) n in omega arith) (passes_reduced law tests n h)
  where
    from_start : (reduced (bounds_of (positions_of tests)) n ≡ 0) ⊎ (reduced (bounds_of (positions_of tests)) n ≡ 0 → ⊥) → start ≤ reduced (bounds_of (positions_of tests)) n
    from_start (inl e) = let z : n ≡ 0 = (zero_law (positions_of tests) n).0 e in omega arith
    from_start (inr d) = omega arith

-- the bounds are small where the width is
pub few_numbers : (threshold period width : ℕ) → 0 < period → width ≤ 25 → greatest_count threshold period < 2 ^ width → threshold + period < 2 ^ 26
few_numbers threshold period width some narrow h =
    let wide : 2 ^ width ≤ 2 ^ 25 = pow-le-pow_right (let p : 0 < 2 = omega arith in p) narrow in
    omega arith
