-- What is left of numbers of siblings by the tests of positions that are asked for.
use Rattle.std.proofs.Common.{Bool, List, [], ap, arith, false, negsuc, pos, refl, suc, true, ℕ, ℤ, ◌%◌, ◌*◌, ◌+ℤ◌, ◌+◌, ◌-◌, ◌<◌, ◌∙◌, ◌∷◌, ◌≡◌, ◌≤◌}
use Rattle.std.proofs.lemmas.Bool.{leb-true}
use Rattle.std.proofs.lemmas.Int.{ints}
use Rattle.std.specs.List.{AllByRecursion, cons_option, filter_map}
use Rattle.std.specs.Option.{option_map}
use Rattle.std.specs.Prelude.{None, Some, if◌then◌else◌, nat_le, unsigned_abs}
use Rattle.css_model.specs.Documents.Matching.{IsNth}
use Rattle.css_model.specs.declared.position.AnB.{AnB}
use Rattle.css_model.specs.declared.selector.Simple.{Simple}
use Rattle.css_model.specs.declared.selector.Test.{Test}
use Rattle.css_model.specs.declared.selector.Test.TheVariants.{Nth, NthLast}
use Rattle.formula_laws.proofs.Tests.Remainders.{nth_falling, nth_rising}
use Rattle.formula_laws.proofs.Tests.Tested.{CompoundSays, PositionSays, TestSays}
use Rattle.formula_laws.specs.Asked.{aside, asked_rest, least_rest, position_rest, test_rest}
use Rattle.formula_laws.specs.declared.count.Count.{Count}
use Rattle.formula_laws.specs.declared.count.Count.TheVariants.{Before, Behind}
use Rattle.remainders.specs.Remainders.{Leaves}
use Rattle.remainders.specs.declared.remainder.Remainder.{Remainder}

-- so many steps, and as many less one
pub steps_less_one : (s t : ℕ) → 0 < s → t * s ≡ t * (s - 1) + t
steps_less_one s t some = ap (λ (k : ℕ). t * k) (let e : s ≡ (s - 1) + 1 = omega arith in e) ∙ omega arith

nth_leaves : (a b : ℤ) (n : ℕ) → 2 ≤ unsigned_abs a → IsNth (record { a = a; b = b }) (n + 1) → n % unsigned_abs a ≡ least_rest (unsigned_abs a) b
nth_leaves (pos s) (pos k) n some h = ((nth_rising s 1 (k + (s - 1)) n (pos k) (omega arith) (omega (arith, ints))).0 h).0
nth_leaves (pos s) (negsuc k) n some h =
    let w = steps_less_one s (k + 2) (omega arith) in
    ((nth_rising s (k + 2) ((k + 2) * (s - 1)) n (negsuc k) (omega arith) (let e : negsuc k +ℤ pos ((k + 2) * s) ≡ pos ((k + 2) * (s - 1) + 1) = omega (arith, ints) in e)).0 h).0
nth_leaves (negsuc s) (pos k) n some h = ((nth_falling s 1 (k + (suc s - 1)) n (pos k) (omega (arith, ints))).0 h).0
nth_leaves (negsuc s) (negsuc k) n some h =
    let w = steps_less_one (suc s) (k + 2) (omega arith) in
    ((nth_falling s (k + 2) ((k + 2) * (suc s - 1)) n (negsuc k) (let e : negsuc k +ℤ pos ((k + 2) * suc s) ≡ pos ((k + 2) * (suc s - 1) + 1) = omega (arith, ints) in e)).0 h).0

-- the remainder of a position
abbrev pub rest_at : AnB → Remainder
rest_at x = record { step = unsigned_abs x.a; rest = least_rest (unsigned_abs x.a) x.b }

-- among others
position_consed : (P : Remainder → Type 0) (f : Remainder → Remainder) (x : AnB) (xs : List Remainder) → (2 ≤ unsigned_abs x.a → P (f (rest_at x))) →
    AllByRecursion P xs → AllByRecursion P (cons_option (option_map f (position_rest x)) xs)
position_consed P f x xs here rest = by (nat_le 2 (unsigned_abs x.a)) (λ e. here (leb-true 2 (unsigned_abs x.a) e))
  where
    by : (b : Bool) → (b ≡ true → P (f (rest_at x))) →
        AllByRecursion P (cons_option (option_map f (if b then Some (rest_at x) else None)) xs)
    by true h = (h refl, rest)
    by false h = rest

-- the number of one kind
abbrev pub counted : Count → ℕ → ℕ → ℕ
counted Before b a = b
counted Behind b a = a

holds_asked : (last : Bool) (G : Type 0) (r c : Bool) → TestSays last false G r c → G
holds_asked true G r c s = s.0
holds_asked false G r c s = s

test_consed : (count : Count) (last n r c : Bool) (b a : ℕ) (t : Test) (P : Remainder → Type 0) (f : Remainder → Remainder) (xs : List Remainder) → PositionSays last n r c b a t →
    ((q : Remainder) → Leaves (counted count b a) q → P (f q)) → AllByRecursion P xs → AllByRecursion P (cons_option (option_map f (if n then None else test_rest count t)) xs)
test_consed count last true r c b a t P f xs says to rest = rest
test_consed Before last false r c b a (Nth x) P f xs says to rest =
    position_consed P f x xs (λ some. to (rest_at x) (omega arith, nth_leaves x.a x.b b some (holds_asked last (IsNth x (b + 1)) r c says))) rest
test_consed Before last false r c b a _ P f xs says to rest = rest
test_consed Behind last false r c b a (NthLast x) P f xs says to rest =
    position_consed P f x xs (λ some. to (rest_at x) (omega arith, nth_leaves x.a x.b a some (holds_asked last (IsNth x (a + 1)) r c says))) rest
test_consed Behind last false r c b a _ P f xs says to rest = rest

-- what a compound asks of a number to the right
pub compound_leaves : (count : Count) (last r c : Bool) (b a : ℕ) (ss : List Simple) (right : ℕ) (P : Remainder → Type 0) → CompoundSays last r c b a ss → ((q : Remainder) → Leaves (counted count b a) q → P (aside count right 0 q)) →
    AllByRecursion P (filter_map (asked_rest count right) ss)
compound_leaves count last r c b a [] right P says to = tt
compound_leaves count last r c b a (s ∷ ss) right P says to =
    test_consed count last s.negated r c b a s.test P (aside count right 0) (filter_map (asked_rest count right) ss) says.0 to (compound_leaves count last r c b a ss right P says.1 to)

-- whatever is asked has a step
test_steps : (count : Count) (n : Bool) (t : Test) (P : Remainder → Type 0) (f : Remainder → Remainder) (xs : List Remainder) → ((q : Remainder) → 0 < q.step → P (f q)) → AllByRecursion P xs →
    AllByRecursion P (cons_option (option_map f (if n then None else test_rest count t)) xs)
test_steps count true t P f xs to rest = rest
test_steps Before false (Nth x) P f xs to rest = position_consed P f x xs (λ some. to (rest_at x) (omega arith)) rest
test_steps Before false _ P f xs to rest = rest
test_steps Behind false (NthLast x) P f xs to rest = position_consed P f x xs (λ some. to (rest_at x) (omega arith)) rest
test_steps Behind false _ P f xs to rest = rest

pub compound_steps : (count : Count) (ss : List Simple) (right : ℕ) (P : Remainder → Type 0) → ((q : Remainder) → 0 < q.step → P (aside count right 0 q)) → AllByRecursion P (filter_map (asked_rest count right) ss)
compound_steps count [] right P to = tt
compound_steps count (s ∷ ss) right P to = test_steps count s.negated s.test P (aside count right 0) (filter_map (asked_rest count right) ss) to (compound_steps count ss right P to)
