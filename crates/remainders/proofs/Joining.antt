-- Remainders that one number leaves, joined.
use Rattle.std.proofs.Common.{Bool, List, Option, [], ap, arith, false, inl, inr, map, refl, subst, suc, sym, true, zero, ℕ, ◌%◌, ◌*◌, ◌++◌, ◌+◌, ◌-◌, ◌/◌, ◌<◌, ◌∙◌, ◌∷◌, ◌≡◌, ◌≤◌, ◌⊎◌}
use Rattle.std.proofs.Math.Nat.{add-mul-mod_self_left, add-mul-mod_self_right, div-add-mod, div-mul-le_self, dvd-mul_right, mod-lt, mul-add-mod_self_left, mul-div_cancel', mul-mod_left}
use Rattle.std.proofs.lemmas.Bool.{cases_lt, cond-false, cond-true, eq-eqb, eqb-true, false≢true, le-ltb, lt-ltb}
use Rattle.std.proofs.lemmas.Nat.{le-div}
use Rattle.std.specs.Int.{◌∣◌}
use Rattle.std.specs.List.{AllByRecursion}
use Rattle.std.specs.Prelude.{None, Some, if◌then◌else◌, nat_lt, ◌==◌}
use Rattle.nth_positions.proofs.CommonMultiples.{first_multiple}
use Rattle.nth_positions.proofs.FirstPassing.{IsFirst, first_passing_finds}
use Rattle.nth_positions.specs.Gaps.{IsLeastCommonMultiple, first_passing}
use Rattle.remainders.proofs.Searching.{passes_here, passes_later}
use Rattle.remainders.specs.Remainders.{Leaves, common_multiple, joined_after, joined_rest, joint_rest, joint_step, meets, most_joint}
use Rattle.remainders.specs.declared.remainder.Remainder.{Remainder}

-- the search ends at a number that passes, where one does
pub first_found : (p : ℕ → Bool) (start more j : ℕ) → start ≤ j → j ≤ start + more → p j ≡ true → p (first_passing p start more) ≡ true
first_found p start zero j low high here = ap p (let e : start ≡ j = omega arith in e) ∙ here
first_found p start (suc more) j low high here = by (p start) refl (λ next. first_found p (suc start) more j next (omega arith) here)
  where
    later : p start ≡ false → suc start ≤ j
    later e = elim (cases_lt start j) [ inl less ↦ less | inr more ↦ absurd (false≢true (sym e ∙ ap p (let q : start ≡ j = omega arith in q) ∙ here)) ]

    by : (b : Bool) → p start ≡ b → (suc start ≤ j → p (first_passing p (suc start) more) ≡ true) → p (first_passing p start (suc more)) ≡ true
    by true e rest = ap p (passes_here p start more e) ∙ e
    by false e rest = ap p (passes_later p start more e) ∙ rest (later e)

-- it is the least common multiple
pub common_is_least : (a b : ℕ) → 0 < a → 0 < b → IsLeastCommonMultiple a b (common_multiple a b)
common_is_least a b pa pb = first_multiple a b turns pa (let l = found.low in omega arith) (eqb-true ((a * turns) % b) 0 found.here) (λ k p q e. false≢true (sym (found.none k p q) ∙ eq-eqb ((a * k) % b) 0 e))
  where
    passes : ℕ → Bool
    passes t = (a * t) % b == 0

    turns : ℕ
    turns = first_passing passes 1 (b - 1)

    found : IsFirst passes 1 turns
    found = first_passing_finds passes 1 (b - 1) (ap passes (let e : 1 + (b - 1) ≡ b = omega arith in e) ∙ eq-eqb ((a * b) % b) 0 (mul-mod_left a b))

-- two numbers that leave the same are a multiple apart, and back
apart : (s n c : ℕ) → 0 < s → n % s ≡ c % s → c ≤ n → s ∣ (n - c)
apart s n c some same less =
    let dn = div-add-mod n s in
    let dc = div-add-mod c s in
    let low = div-mul-le_self c s in
    let order : c / s ≤ n / s = le-div (c / s) n s some (omega arith) in
    let parted : s * (n / s) ≡ s * (n / s - c / s) + s * (c / s) = ap (λ (j : ℕ). s * j) (let w : n / s ≡ (n / s - c / s) + c / s = omega arith in w) ∙ omega arith in
    let whole : s * (n / s - c / s) ≡ n - c = omega arith in
    subst (λ (k : ℕ). s ∣ k) whole (dvd-mul_right s (n / s - c / s))

back : (n c far : ℕ) → c ≤ n → far ≡ n - c → n ≡ c + far
back n c far less e = omega arith

same_again : (m n c : ℕ) → c ≤ n → m ∣ (n - c) → n % m ≡ c % m
same_again m n c less d = ap (λ (k : ℕ). k % m) (back n c (m * ((n - c) / m)) less (mul-div_cancel' m d)) ∙ add-mul-mod_self_left c m ((n - c) / m)

-- what leaves the same by two steps does so by their least common multiple
same_by_both : (a b m n c : ℕ) → 0 < a → 0 < b → IsLeastCommonMultiple a b m → n % a ≡ c % a → n % b ≡ c % b → n % m ≡ c % m
same_by_both a b m n c pa pb least ea eb = elim (cases_lt n c) [
  | inl less ↦ sym (same_again m c n (omega arith) (least.3 (c - n) (apart a c n pa (sym ea) (omega arith)) (apart b c n pb (sym eb) (omega arith))))
  | inr more ↦ same_again m n c more (least.3 (n - c) (apart a n c pa ea more) (apart b n c pb eb more))
]

-- the rest of the rest
rest_of_rest : (m n : ℕ) → n % m ≡ (n % m) % m
rest_of_rest m n = ap (λ (k : ℕ). k % m) (sym (div-add-mod n m)) ∙ mul-add-mod_self_left m (n / m) (n % m)

-- a multiple of m, by what the factor leaves
parted : (m s q rest n : ℕ) → m * q + rest ≡ n → n ≡ (rest + m * (q % s)) + (m * (q / s)) * s
parted m s q rest n d =
    let e : m * q ≡ m * (s * (q / s) + q % s) = ap (λ (k : ℕ). m * k) (sym (div-add-mod q s)) in
    let f : m * (s * (q / s) + q % s) ≡ m * (q % s) + (m * (q / s)) * s = omega arith in
    omega arith

-- one of the first numbers from n % m on, in steps of m, leaves what n does
some_meets : (m n : ℕ) (r : Remainder) → Leaves n r → meets (n % m) m r ((n / m) % r.step) ≡ true
some_meets m n r left =
    eq-eqb ((n % m + m * ((n / m) % r.step)) % r.step) r.rest
    (sym (add-mul-mod_self_right (n % m + m * ((n / m) % r.step)) (m * ((n / m) / r.step)) r.step) ∙ ap (λ (k : ℕ). k % r.step) (sym (parted m r.step (n / m) (n % m) n (div-add-mod n m))) ∙ left.1)

-- one remainder more
joined_one : (m n : ℕ) (r : Remainder) → 0 < m → Leaves n r → joined_rest m r (Some (n % m)) ≡ Some (n % common_multiple m r.step)
joined_one m n r pm left =
    cond-true (meets c m r k) (Some ((c + m * k) % common_multiple m r.step)) None found
    ∙ ap Some (same_by_both m r.step (common_multiple m r.step) (c + m * k) n pm left.0 (common_is_least m r.step pm left.0)
    (add-mul-mod_self_left c m k ∙ sym (rest_of_rest m n))
    (eqb-true ((c + m * k) % r.step) r.rest found ∙ sym left.1))
  where
    c : ℕ
    c = n % m

    k : ℕ
    k = first_passing (meets c m r) 0 r.step

    found : meets c m r k ≡ true
    found = first_found (meets c m r) 0 r.step ((n / m) % r.step) (omega arith) (let l = mod-lt (n / m) left.0 in omega arith) (some_meets m n r left)

-- the joint step of one more, by what is joined so far
abbrev joint_after : ℕ → ℕ → ℕ
joint_after step m = if nat_lt most_joint m then m else common_multiple m step

-- the joint step of one more
abbrev pub JointStep : Remainder → List Remainder → Type 0
JointStep r rs = ((most_joint < joint_step rs) × (joint_step (r ∷ rs) ≡ joint_step rs)) ⊎ ((joint_step rs ≤ most_joint) × (joint_step (r ∷ rs) ≡ common_multiple (joint_step rs) r.step))

joint_more : (r : Remainder) (rs : List Remainder) → JointStep r rs
joint_more r rs = elim (cases_lt most_joint (joint_step rs)) [
  | inl great ↦ inl (great, cond-true (nat_lt most_joint (joint_step rs)) (joint_step rs) (common_multiple (joint_step rs) r.step) (lt-ltb most_joint (joint_step rs) great))
  | inr small ↦ inr (small, cond-false (nat_lt most_joint (joint_step rs)) (joint_step rs) (common_multiple (joint_step rs) r.step) (le-ltb most_joint (joint_step rs) small))
]

-- all steps are some
abbrev pub HaveSteps : List Remainder → Type 0
HaveSteps rs = AllByRecursion (λ r. 0 < r.step) rs

pub leaving_steps : (n : ℕ) (rs : List Remainder) → AllByRecursion (Leaves n) rs → HaveSteps rs
leaving_steps n [] left = tt
leaving_steps n (r ∷ rs) left = (left.0.0, leaving_steps n rs left.1)

pub joint_positive : (rs : List Remainder) → HaveSteps rs → 0 < joint_step rs
joint_positive [] have = omega arith
joint_positive (r ∷ rs) have = by (joint_more r rs) (joint_positive rs have.1)
  where
    by : JointStep r rs → 0 < joint_step rs → 0 < joint_step (r ∷ rs)
    by (inl great) some = let e = great.1 in omega arith
    by (inr small) some = let e = small.1 in let l = (common_is_least (joint_step rs) r.step some have.0).0 in omega arith

pub joint_left : (n : ℕ) (rs : List Remainder) → AllByRecursion (Leaves n) rs → joint_step rs ≤ most_joint → joint_rest rs ≡ Some (n % joint_step rs)
joint_left n [] left few = ap Some (let e : 0 ≡ n % 1 = omega arith in e)
joint_left n (r ∷ rs) left few = by (joint_more r rs) (joint_positive rs (leaving_steps n rs left.1)) (joint_left n rs left.1)
  where
    by : JointStep r rs → 0 < joint_step rs → (joint_step rs ≤ most_joint → joint_rest rs ≡ Some (n % joint_step rs)) → joint_rest (r ∷ rs) ≡ Some (n % joint_step (r ∷ rs))
    by (inl great) some rest = let e = great.1 in let l = great.0 in absurd (omega arith)
    by (inr small) some rest =
        ap (joined_rest (joint_step rs) r) (rest small.0) ∙ joined_one (joint_step rs) n r some left.0 ∙ ap (λ (m : ℕ). Some (n % m)) (sym small.1)

-- what is joined depends on the steps alone
pub joint_same : (f : Remainder → Remainder) → ((r : Remainder) → (f r).step ≡ r.step) → (rs ss : List Remainder) → joint_step (rs ++ map f ss) ≡ joint_step (rs ++ ss)
joint_same f same (r ∷ rs) ss = ap (joint_after r.step) (joint_same f same rs ss)
joint_same f same [] [] = refl
joint_same f same [] (s ∷ ss) = ap (joint_after (f s).step) (joint_same f same [] ss) ∙ ap (λ (step : ℕ). joint_after step (joint_step ss)) (same s)
