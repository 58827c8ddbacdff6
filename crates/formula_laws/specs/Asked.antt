-- What tests of positions ask of the remainders of numbers of siblings.
use Rattle.std.specs.List.{filter_map}
use Rattle.std.specs.Option.{option_map}
use Rattle.std.specs.Prelude.{Bool, List, None, Option, Some, [], false, if◌then◌else◌, length, nat_le, negsuc, not, pos, suc, true, unsigned_abs, zero, ℕ, ℤ, ◌%◌, ◌&&◌, ◌*◌, ◌+◌, ◌-◌, ◌==◌, ◌||◌, ◌∷◌}
use Rattle.css_model.specs.declared.position.AnB.{AnB}
use Rattle.css_model.specs.declared.selector.Combinator.{Combinator}
use Rattle.css_model.specs.declared.selector.Combinator.TheVariants.{Child, Inside, Later, Next}
use Rattle.css_model.specs.declared.selector.Simple.{Simple}
use Rattle.css_model.specs.declared.selector.Test.{Test}
use Rattle.css_model.specs.declared.selector.Test.TheVariants.{Nth, NthLast}
use Rattle.formula_laws.specs.Path.{each_below, only_if}
use Rattle.formula_laws.specs.declared.count.Count.{Count}
use Rattle.formula_laws.specs.declared.count.Count.TheVariants.{Before, Behind}
use Rattle.grid_laws.specs.Solved.{nth_compound}
use Rattle.remainders.specs.Remainders.{moved}
use Rattle.remainders.specs.declared.remainder.Remainder.{Remainder}

-- what b - 1 leaves when divided by the step
abbrev pub least_rest : ℕ → ℤ → ℕ
least_rest step (pos k) = (k + (step - 1)) % step
least_rest step (negsuc k) = ((k + 2) * (step - 1)) % step

-- what the number before a position leaves, where the step is 2 or more
abbrev pub position_rest : AnB → Option Remainder
position_rest x = if nat_le 2 (unsigned_abs x.a) then Some (record { step = unsigned_abs x.a; rest = least_rest (unsigned_abs x.a) x.b }) else None

abbrev pub test_rest : Count → Test → Option Remainder
test_rest Before (Nth x) = position_rest x
test_rest Behind (NthLast x) = position_rest x
test_rest count _ = None

-- what a number leaves that stands so many places to the right of another one, or to the left
abbrev pub aside : Count → ℕ → ℕ → Remainder → Remainder
aside Before right left r = moved right left r
aside Behind right left r = moved left right r

-- what a test asks, if it is asked for, of the number so many places to the right
abbrev pub asked_rest : Count → ℕ → Simple → Option Remainder
asked_rest count right s = option_map (aside count right 0) (if s.negated then None else test_rest count s.test)

-- whether a combinator leads to the sibling right before
abbrev pub is_next : Combinator → Bool
is_next Inside = false
is_next Child = false
is_next Next = true
is_next Later = false

-- whether that between the k-th compound of a chain and the next one does
abbrev pub is_next_at : List Combinator → ℕ → Bool
is_next_at [] k = false
is_next_at (link ∷ links) zero = is_next link
is_next_at (link ∷ links) (suc k) = is_next_at links k

-- whether the compounds from the p-th to the q-th are direct neighbours, one after the other
abbrev pub are_joined : List Combinator → ℕ → ℕ → Bool
are_joined links p zero = p == 0
are_joined links p (suc q) = (p == suc q) || (are_joined links p q && is_next_at links q)

-- whether the k-th compound is the first of its run of direct neighbours
abbrev pub starts_run : List Combinator → ℕ → Bool
starts_run links zero = true
starts_run links (suc k) = not (is_next_at links k)

-- what the number of a run's first compound leaves, by what is asked of the q-th one
abbrev pub compound_rests : Count → List Combinator → List (List Simple) → ℕ → ℕ → List Remainder
compound_rests count links chain p q = only_if (are_joined links p q) (filter_map (asked_rest count (q - p)) (nth_compound chain q))

-- and of all of them
abbrev pub run_rests : Count → List Combinator → List (List Simple) → ℕ → List Remainder
run_rests count links chain p = each_below (suc (length links)) (compound_rests count links chain p)
