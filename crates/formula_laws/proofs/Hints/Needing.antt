-- What tests of positions need that must not hold.
use Rattle.std.proofs.Common.{Bool, List, [], arith, false, negsuc, pos, refl, suc, true, ℕ, ℤ, ◌%◌, ◌*◌, ◌+ℤ◌, ◌+◌, ◌-◌, ◌<◌, ◌∷◌, ◌≡◌, ◌≤◌}
use Rattle.std.proofs.lemmas.Bool.{leb-true}
use Rattle.std.proofs.lemmas.Int.{ints}
use Rattle.std.specs.Bool.{MatchBool}
use Rattle.std.specs.List.{AllByRecursion, cons_option, filter_map}
use Rattle.std.specs.Prelude.{None, Some, if◌then◌else◌, nat_le, unsigned_abs}
use Rattle.css_model.specs.Documents.Matching.{IsNth}
use Rattle.css_model.specs.declared.position.AnB.{AnB}
use Rattle.css_model.specs.declared.selector.Simple.{Simple}
use Rattle.css_model.specs.declared.selector.Test.{Test}
use Rattle.css_model.specs.declared.selector.Test.TheVariants.{Nth, NthLast}
use Rattle.formula_laws.proofs.Hints.Positions.{counted, rest_at, steps_less_one}
use Rattle.formula_laws.proofs.Tests.Remainders.{nth_falling, nth_rising}
use Rattle.formula_laws.proofs.Tests.Tested.{CompoundSays, PositionSays, TestSays}
use Rattle.formula_laws.specs.Asked.{least_rest}
use Rattle.formula_laws.specs.Refused.{needing, needing_rest, refused_test, test_needs}
use Rattle.formula_laws.specs.declared.count.Count.{Count}
use Rattle.formula_laws.specs.declared.count.Count.TheVariants.{Before, Behind}
use Rattle.formula_laws.specs.declared.refused.Refused.{Refused}

-- the bound holds of a number
abbrev pub IsBounded : Refused → ℕ → Type 0
IsBounded r n = MatchBool r.rises (r.bound ≤ n) (n < r.bound)

-- where the number has what the test needs, its element is the root
abbrev pub IsDenied : Bool → Bool → ℕ → Refused → Type 0
IsDenied last root n r = (0 < r.rest.step) × (n % r.rest.step ≡ r.rest.rest → IsBounded r n → (last ≡ true) × (root ≡ true))

need_denied : (last root : Bool) (n : ℕ) (a b : ℤ) (xs : List Refused) → 2 ≤ unsigned_abs a → (IsNth (record { a = a; b = b }) (n + 1) → (last ≡ true) × (root ≡ true)) →
    AllByRecursion (IsDenied last root n) xs → AllByRecursion (IsDenied last root n) (cons_option (needing a b (record { step = unsigned_abs a; rest = least_rest (unsigned_abs a) b })) xs)
need_denied last root n (pos s) (pos k) xs some says rest =
    ((omega arith, λ same bound. says ((nth_rising s 1 (k + (s - 1)) n (pos k) (omega arith) (omega (arith, ints))).1 (same, let l : k - 1 ≤ n = bound in omega arith))), rest)
need_denied last root n (pos s) (negsuc k) xs some says rest =
    let w = steps_less_one s (k + 2) (omega arith) in
    ((omega arith, λ same bound. says ((nth_rising s (k + 2) ((k + 2) * (s - 1)) n (negsuc k) (omega arith) (let e : negsuc k +ℤ pos ((k + 2) * s) ≡ pos ((k + 2) * (s - 1) + 1) = omega (arith, ints) in e)).1 (same, omega arith))), rest)
need_denied last root n (negsuc s) (pos k) xs some says rest =
    ((omega arith, λ same bound. says ((nth_falling s 1 (k + (suc s - 1)) n (pos k) (omega (arith, ints))).1 (same, let l : n < k = bound in omega arith))), rest)
need_denied last root n (negsuc s) (negsuc k) xs some says rest = rest

-- among others
position_denied : (last root : Bool) (n : ℕ) (x : AnB) (xs : List Refused) → (IsNth x (n + 1) → (last ≡ true) × (root ≡ true)) →
    AllByRecursion (IsDenied last root n) xs → AllByRecursion (IsDenied last root n) (cons_option (needing_rest x (if nat_le 2 (unsigned_abs x.a) then Some (rest_at x) else None)) xs)
position_denied last root n x xs says rest = by (nat_le 2 (unsigned_abs x.a)) (λ e. need_denied last root n x.a x.b xs (leb-true 2 (unsigned_abs x.a) e) says rest)
  where
    by : (b : Bool) → (b ≡ true → AllByRecursion (IsDenied last root n) (cons_option (needing x.a x.b (rest_at x)) xs)) →
        AllByRecursion (IsDenied last root n) (cons_option (needing_rest x (if b then Some (rest_at x) else None)) xs)
    by true h = h refl
    by false h = rest

holds_never : (last : Bool) (G : Type 0) (r c : Bool) → TestSays last true G r c → G → (last ≡ true) × (r ≡ true)
holds_never true G r c s g = (refl, s.0 g)
holds_never false G r c s g = absurd (s g)

test_denied : (count : Count) (last n r c : Bool) (b a : ℕ) (t : Test) (xs : List Refused) → PositionSays last n r c b a t →
    AllByRecursion (IsDenied last r (counted count b a)) xs → AllByRecursion (IsDenied last r (counted count b a)) (cons_option (if n then test_needs count t else None) xs)
test_denied count last false r c b a t xs says rest = rest
test_denied Before last true r c b a (Nth x) xs says rest = position_denied last r b x xs (λ h. holds_never last (IsNth x (b + 1)) r c says h) rest
test_denied Before last true r c b a _ xs says rest = rest
test_denied Behind last true r c b a (NthLast x) xs says rest = position_denied last r a x xs (λ h. holds_never last (IsNth x (a + 1)) r c says h) rest
test_denied Behind last true r c b a _ xs says rest = rest

-- of all tests of a compound
pub compound_denied : (count : Count) (last r c : Bool) (b a : ℕ) (ss : List Simple) → CompoundSays last r c b a ss → AllByRecursion (IsDenied last r (counted count b a)) (filter_map (refused_test count) ss)
compound_denied count last r c b a [] says = tt
compound_denied count last r c b a (s ∷ ss) says =
    test_denied count last s.negated r c b a s.test (filter_map (refused_test count) ss) says.0 (compound_denied count last r c b a ss says.1)
