-- Examples of hints, by computation.
use Rattle.std.proofs.Common.{List, [], false, negsuc, pos, refl, true, ℕ, ℤ, ◌∷◌, ◌≡◌}
use Rattle.std.specs.Prelude.{None, Some}
use Rattle.cnf.specs.Cnf.{Cnf}
use Rattle.cnf.specs.Gates.{with_clauses}
use Rattle.cnf.specs.Lits.{negation}
use Rattle.cnf.specs.Numbers.{with_at_least}
use Rattle.cnf.specs.declared.lit.Lit.{Lit}
use Rattle.css_model.specs.Documents.SelectorParts.{SelectorParts}
use Rattle.css_model.specs.declared.selector.Combinator.{Combinator}
use Rattle.css_model.specs.declared.selector.Combinator.TheVariants.{Child, Later, Next}
use Rattle.css_model.specs.declared.selector.Simple.{Simple}
use Rattle.css_model.specs.declared.selector.Test.TheVariants.{Nth}
use Rattle.formula_laws.specs.Asked.{are_joined, least_rest, position_rest, run_rests, starts_run}
use Rattle.formula_laws.specs.Counts.{Names}
use Rattle.formula_laws.specs.Distances.{are_related, gap_rest, row_start, top_digit}
use Rattle.formula_laws.specs.Hinted.{with_hints}
use Rattle.formula_laws.specs.Hints.{cell_rests, rest_digits, with_rises}
use Rattle.formula_laws.specs.Path.{node_lit}
use Rattle.formula_laws.specs.Refused.{is_met, refused_test, with_refused_test}
use Rattle.formula_laws.specs.Relations.{with_less}
use Rattle.formula_laws.specs.declared.count.Count.TheVariants.{Before, Behind}
use Rattle.formula_laws.specs.declared.joint.Joint.{Joint}
use Rattle.grid_laws.specs.Grid.{together}
use Rattle.remainders.specs.Remainders.{joint_rest}

-- :nth-child(a n + b) and its negation
abbrev nth : ℤ → ℤ → Simple
nth a b = record { negated = false; test = Nth (record { a = a; b = b }) }

abbrev not_nth : ℤ → ℤ → Simple
not_nth a b = record { negated = true; test = Nth (record { a = a; b = b }) }

abbrev selector : List (List Simple) → List Combinator → SelectorParts
selector chain links = record { chain = chain; links = links; pseudo = None }

-- so many siblings are before the positions 3 n + 1, 3 n and 3 n - 1
rest_of_first : least_rest 3 (pos 1) ≡ 0
rest_of_first = refl

rest_of_none : least_rest 3 (pos 0) ≡ 2
rest_of_none = refl

rest_below_none : least_rest 3 (negsuc 0) ≡ 1
rest_below_none = refl

-- nothing is asked by n + 4, which leaves each remainder
no_rest : position_rest (record { a = pos 1; b = pos 4 }) ≡ None
no_rest = refl

rest_of_falling : position_rest (record { a = negsuc 1; b = pos 5 }) ≡ Some (record { step = 2; rest = 0 })
rest_of_falling = refl

-- a + b > c ~ d: the run of d is alone, c is not joined to d or b, and b begins the run of a and b
joined_neighbours : are_joined (Later ∷ Child ∷ Next ∷ []) 2 3 ≡ true
joined_neighbours = refl

not_joined : are_joined (Later ∷ Child ∷ Next ∷ []) 1 2 ≡ false
not_joined = refl

run_inside : starts_run (Later ∷ Child ∷ Next ∷ []) 3 ≡ false
run_inside = refl

-- :nth-child(2n+1) + :nth-child(3n): 2 of 3 and 1 of 2 siblings before the last one, so 5 of 6
asked_of_run : run_rests Before (Next ∷ []) ((nth (pos 3) (pos 0) ∷ []) ∷ (nth (pos 2) (pos 1) ∷ []) ∷ []) 0 ≡ record { step = 3; rest = 2 } ∷ record { step = 2; rest = 1 } ∷ []
asked_of_run = refl

joint_of_run : joint_rest (run_rests Before (Next ∷ []) ((nth (pos 3) (pos 0) ∷ []) ∷ (nth (pos 2) (pos 1) ∷ []) ∷ []) 0) ≡ Some 5
joint_of_run = refl

-- nothing is asked by a test that must not hold, or of the other kind of numbers
not_asked : run_rests Before [] ((not_nth (pos 3) (pos 0) ∷ []) ∷ []) 0 ≡ []
not_asked = refl

other_not_asked : run_rests Behind [] ((nth (pos 3) (pos 0) ∷ []) ∷ []) 0 ≡ []
other_not_asked = refl

-- 5 in three digits
five : (a b c : Lit) → rest_digits (a ∷ b ∷ c ∷ []) 5 ≡ (a ∷ []) ∷ (negation b ∷ []) ∷ (c ∷ []) ∷ []
five a b c = refl

-- :nth-child(2n) and :nth-child(2n+1) share no slot
never_together : (remainder : List Lit) →
    cell_rests Before (selector ((nth (pos 2) (pos 0) ∷ []) ∷ []) []) (selector ((nth (pos 2) (pos 1) ∷ []) ∷ []) []) 0 0 remainder 0 0 ≡ (negation (node_lit 1 together 0 0) ∷ []) ∷ []
never_together remainder = refl

-- along `~` the numbers behind rise, along `+` they say so already
rise_of_later : (a : ℕ → List Lit) (f : Cnf) → with_rises (Later ∷ []) a f ≡ with_less [] (a 0) (a 1) f
rise_of_later a f = refl

no_rise_of_next : (a : ℕ → List Lit) (f : Cnf) → with_rises (Next ∷ []) a f ≡ f
no_rise_of_next a f = refl

-- where no test looks at numbers there is no hint
no_hints : (names : Names) (f : Cnf) → with_hints (selector ([] ∷ [] ∷ []) (Later ∷ [])) (selector ([] ∷ []) []) names f ≡ f
no_hints names f = refl

-- :nth-child(2n) needs an odd number before, :nth-child(-2n+5) an even one below 5
needs_of_even : refused_test Before (not_nth (pos 2) (pos 0)) ≡ Some (record { rest = record { step = 2; rest = 1 }; rises = true; bound = 0 })
needs_of_even = refl

needs_of_falling : refused_test Before (not_nth (negsuc 1) (pos 5)) ≡ Some (record { rest = record { step = 2; rest = 0 }; rises = false; bound = 5 })
needs_of_falling = refl

asked_needs_nothing : refused_test Before (nth (pos 2) (pos 0)) ≡ None
asked_needs_nothing = refl

-- 5 of 6 is odd, and the next element to the left has an even number before it
abbrev five_of_six : Joint
five_of_six = record { given = None; step = 6; rest = Some 5; right = 0; left = 0 }

odd_here : is_met Before 0 (record { step = 2; rest = 1 }) five_of_six ≡ true
odd_here = refl

even_beside : is_met Before 1 (record { step = 2; rest = 0 }) five_of_six ≡ true
even_beside = refl

-- what 5 of 6 leaves when divided by 4 is not known
not_by_four : is_met Before 0 (record { step = 4; rest = 1 }) five_of_six ≡ false
not_by_four = refl

-- so :nth-child(2n), which must not hold there, has a bound that fails
bound_fails : (n : List Lit) (f : Cnf) → with_refused_test Before (five_of_six ∷ []) 0 n [] (record { rest = record { step = 2; rest = 1 }; rises = true; bound = 0 }) f ≡ with_clauses (with_at_least f n 0).0 ((negation (with_at_least f n 0).1 ∷ []) ∷ [])
bound_fails n f = refl

-- of a ~ b > c + d, the row of d and c begins with d, and that of b and a with b
row_of_third : row_start (Next ∷ Child ∷ Later ∷ []) 3 ≡ 2
row_of_third = refl

row_of_first : row_start (Next ∷ Child ∷ Later ∷ []) 1 ≡ 0
row_of_first = refl

-- an odd number and an even one are an odd distance apart, which is even with 7 added
odd_gap : gap_rest 2 1 0 3 ≡ 0
odd_gap = refl

top_of_two : (a b : Lit) → top_digit (a ∷ b ∷ []) ≡ (b ∷ []) ∷ []
top_of_two a b = refl

related_steps : are_related 6 4 ≡ true
related_steps = refl

unrelated_steps : are_related 6 5 ≡ false
unrelated_steps = refl
