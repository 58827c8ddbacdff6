-- Hints on tests of positions that must not hold. Where the remainder is right, the bound fails.
use Rattle.std.specs.List.{filter_map, list_any}
use Rattle.std.specs.Prelude.{Bool, List, None, Option, Some, [], false, if◌then◌else◌, length, nat_le, negsuc, pos, suc, true, ℕ, ℤ, ◌%◌, ◌&&◌, ◌++◌, ◌+◌, ◌-◌, ◌==◌, ◌∷◌}
use Rattle.cnf.specs.Cnf.{Cnf}
use Rattle.cnf.specs.Gates.{with_clauses}
use Rattle.cnf.specs.Lits.{negation}
use Rattle.cnf.specs.Numbers.{with_at_least}
use Rattle.cnf.specs.declared.lit.Lit.{Lit}
use Rattle.css_model.specs.Documents.SelectorParts.{SelectorParts}
use Rattle.css_model.specs.declared.position.AnB.{AnB}
use Rattle.css_model.specs.declared.selector.Combinator.{Combinator}
use Rattle.css_model.specs.declared.selector.Simple.{Simple}
use Rattle.css_model.specs.declared.selector.Test.{Test}
use Rattle.css_model.specs.declared.selector.Test.TheVariants.{Nth, NthLast}
use Rattle.formula_laws.specs.Asked.{are_joined, aside, position_rest, run_rests, starts_run}
use Rattle.formula_laws.specs.Counts.{Names, steps_below, when}
use Rattle.formula_laws.specs.Hints.{Owns, is_cell, owns_of, shared_rests}
use Rattle.formula_laws.specs.Path.{each_below, node_lit, only_if}
use Rattle.formula_laws.specs.declared.count.Count.{Count}
use Rattle.formula_laws.specs.declared.count.Count.TheVariants.{Before, Behind}
use Rattle.formula_laws.specs.declared.joint.Joint.{Joint}
use Rattle.formula_laws.specs.declared.refused.Refused.{Refused}
use Rattle.grid_laws.specs.Grid.{together}
use Rattle.grid_laws.specs.Solved.{nth_compound}
use Rattle.remainders.specs.Remainders.{joint_rest, joint_step, most_joint}
use Rattle.remainders.specs.declared.remainder.Remainder.{Remainder}

-- a step for each item of a list
abbrev pub with_each : {A : Type 0} → (A → Cnf → Cnf) → List A → Cnf → Cnf
with_each step [] f = f
with_each step (x ∷ xs) f = with_each step xs (step x f)

-- what a position a n + b needs besides its remainder: a number from b - 1 on where a rises, and below b where a falls
abbrev pub needing : ℤ → ℤ → Remainder → Option Refused
needing (pos s) (pos k) r = Some (record { rest = r; rises = true; bound = k - 1 })
needing (pos s) (negsuc k) r = Some (record { rest = r; rises = true; bound = 0 })
needing (negsuc s) (pos k) r = Some (record { rest = r; rises = false; bound = k })
needing (negsuc s) (negsuc k) r = None

-- the same where the step is 2 or more
abbrev pub needing_rest : AnB → Option Remainder → Option Refused
needing_rest x None = None
needing_rest x (Some r) = needing x.a x.b r

-- what a test needs of one kind of numbers
abbrev pub test_needs : Count → Test → Option Refused
test_needs Before (Nth x) = needing_rest x (position_rest x)
test_needs Behind (NthLast x) = needing_rest x (position_rest x)
test_needs count _ = None

-- what a test needs that must not hold
abbrev pub refused_test : Count → Simple → Option Refused
refused_test count s = if s.negated then test_needs count s.test else None

-- a literal that is true where the number's bound fails
abbrev pub failing : List Lit → Refused → Cnf → Cnf × Lit
failing n r f = let g = with_at_least f n r.bound in (g.0, if r.rises then negation g.1 else g.1)

-- whether a number leaves this that is so far from one of which something is known
abbrev pub is_left : Count → ℕ → ℕ → Remainder → ℕ → Option ℕ → Bool
is_left count right left r step None = false
is_left count right left r step (Some c) = (step % r.step == 0) && ((aside count right left (record { step = r.step; rest = c % r.step })).rest == r.rest)

-- the same of a compound that is `far` places to the left of its run's first one
abbrev pub is_met : Count → ℕ → Remainder → Joint → Bool
is_met count far r joint = is_left count joint.right (joint.left + far) r joint.step joint.rest

-- a clause that says nothing where the literal is false
abbrev pub given_clause : Option Lit → List Lit → List Lit
given_clause None ls = ls
given_clause (Some l) ls = negation l ∷ ls

-- then one of these literals is true
abbrev pub met_clause : Count → ℕ → Remainder → List Lit → Joint → Option (List Lit)
met_clause count far r ls joint = if is_met count far r joint then Some (given_clause joint.given ls) else None

-- a test that must not hold, unless one of these literals is true, by all that is known of its run
abbrev pub with_refused_test : Count → List Joint → ℕ → List Lit → List Lit → Refused → Cnf → Cnf
with_refused_test count joints far n others r = when (list_any (is_met count far r.rest) joints)
    (λ f. let g = failing n r f in with_clauses g.0 (filter_map (met_clause count far r.rest (g.1 ∷ others)) joints))

-- the tests of the k-th compound, of the run that begins with the p-th one; the root passes what is refused
abbrev pub with_refused_compound : Count → List Combinator → List (List Simple) → List Joint → (ℕ → List Lit) → Lit → ℕ → ℕ → Cnf → Cnf
with_refused_compound count links chain joints own root p k = when (are_joined links p k)
    (with_each (with_refused_test count joints (k - p) (own k) (only_if (k == length links) (root ∷ []))) (filter_map (refused_test count) (nth_compound chain k)))

-- those of a chain, where it is known so much of each run
abbrev pub with_refused_chain : Count → List Combinator → List (List Simple) → (ℕ → List Joint) → (ℕ → List Lit) → Lit → Cnf → Cnf
with_refused_chain count links chain joints own root = steps_below (suc (length links)) (λ p. when (starts_run links p)
    (steps_below (suc (length links)) (with_refused_compound count links chain (joints p) own root p)))

-- what is known of a run by itself
abbrev pub own_joint : List Remainder → List Joint
own_joint rs = only_if (nat_le (joint_step rs) most_joint)
    (record { given = None; step = joint_step rs; rest = joint_rest rs; right = 0; left = 0 } ∷ [])

-- what two runs have together is not too great
abbrev pub is_joint : List Remainder → List Remainder → Bool
is_joint rx ry = nat_le (joint_step (rx ++ ry)) most_joint

-- what is known of two runs where the compounds i and j share a slot, of a run so far from the left one
abbrev pub cell_joint : Count → SelectorParts → SelectorParts → ℕ → ℕ → ℕ → ℕ → ℕ → ℕ → List Joint
cell_joint count x y p q right left i j = only_if (is_cell x y p q i j) (record {
  given = Some (node_lit (suc (length y.links)) together i j);
  step = joint_step (run_rests count x.links x.chain p ++ run_rests count y.links y.chain q);
  rest = joint_rest (shared_rests count (run_rests count x.links x.chain p) (run_rests count y.links y.chain q) (i - p) (j - q));
  right = right;
  left = left;
} ∷ [])

-- what is known of a left run by a right one that asks something
abbrev pub left_cells : Count → SelectorParts → SelectorParts → ℕ → ℕ → List Joint
left_cells count x y p q =
    only_if (starts_run y.links q && (nat_le 1 (length (run_rests count y.links y.chain q)) && is_joint (run_rests count x.links x.chain p) (run_rests count y.links y.chain q)))
    (each_below (suc (length x.links)) (λ i. each_below (suc (length y.links)) (λ j. cell_joint count x y p q 0 0 i j)))

-- and the other way round
abbrev pub right_cells : Count → SelectorParts → SelectorParts → ℕ → ℕ → List Joint
right_cells count x y q p =
    only_if (starts_run x.links p && (nat_le 1 (length (run_rests count x.links x.chain p)) && is_joint (run_rests count x.links x.chain p) (run_rests count y.links y.chain q)))
    (each_below (suc (length x.links)) (λ i. each_below (suc (length y.links)) (λ j. cell_joint count x y p q (j - q) (i - p) i j)))

-- all that is known of a left run
abbrev pub left_joints : Count → SelectorParts → SelectorParts → ℕ → List Joint
left_joints count x y p = own_joint (run_rests count x.links x.chain p) ++ each_below (suc (length y.links)) (left_cells count x y p)

-- and of a right one
abbrev pub right_joints : Count → SelectorParts → SelectorParts → ℕ → List Joint
right_joints count x y q = own_joint (run_rests count y.links y.chain q) ++ each_below (suc (length x.links)) (right_cells count x y q)

-- the hints on one kind of numbers
abbrev pub with_refused : SelectorParts → SelectorParts → Owns → Lit → Lit → Cnf → Cnf
with_refused x y owns rx ry f =
    with_refused_chain owns.count y.links y.chain (right_joints owns.count x y) owns.right ry (with_refused_chain owns.count x.links x.chain (left_joints owns.count x y) owns.left rx f)

-- the hints on tests that must not hold
abbrev pub with_refused_hints : SelectorParts → SelectorParts → Names → Cnf → Cnf
with_refused_hints x y names f =
    with_refused x y (owns_of names Behind) names.rx names.ry (with_refused x y (owns_of names Before) names.rx names.ry f)
