-- What is asked of an element that two selectors share, and the documents that show it.
use Rattle.std.proofs.Common.{◌≡◌, ℕ, zero, suc, [], ◌∷◌, ◌++◌, Some, None, inl, true, false, pos, refl, map, arith}
use Rattle.std.specs.Prelude.{codes}
use Rattle.body_examples.proofs.Values.{a_class, b_class, class, features, inside, plain}
use Rattle.clause_encode.specs.Fits.{pair_formula}
use Rattle.compound_fit.specs.Table.{groups}
use Rattle.css_model.specs.declared.selector.Combinator.TheVariants.{Child, Inside, Later, Next}
use Rattle.css_model.specs.declared.selector.Test.TheVariants.{Empty, Id, Kind, Nth, NthLast}
use Rattle.css_model.specs.Documents.SelectorParts.{SelectorParts}
use Rattle.css_model.specs.Selectors.Compounds.{is_stepped_test}
use Rattle.example_doc.specs.Lines.{line, top_lines}
use Rattle.cnf.specs.Lits.{negation, positive}
use Rattle.css_model.specs.declared.selector.Simple.{Simple}
use Rattle.formula_laws.specs.Allowed.{empty_fits, own_ids_fit, share_id, whole_clauses}
use Rattle.formula_laws.specs.Asked.{run_rests}
use Rattle.formula_laws.specs.Hints.{is_later_at, rest_clauses, shared_rests}
use Rattle.formula_laws.specs.Root.{top_clauses}
use Rattle.formula_laws.specs.declared.count.Count.TheVariants.{Before, Behind}
use Rattle.grid_laws.specs.Slots.{step_for}
use Rattle.nth_positions.specs.Gaps.{reduced}
use Rattle.remainders.specs.Remainders.{joint_rest, joint_step}
use Rattle.shape_laws.specs.Document.Trees.{example_of}
use Rattle.shape_laws.specs.Forced.{AreOfOne, GoTogether, parents, siblings}
use Rattle.sibling_counts.specs.Sides.{limit_of}
use Rattle.single_examples.specs.Examples.{child_example}
use Rattle.slot_plan.specs.declared.shape.SlotStep.TheVariants.{Further, NextTo, UpOne}

-- ---- What one element may have to pass

-- one element has to pass the targets of both selectors, the left one first
both_targets_are_asked : groups a_class.chain b_class.chain ≡ (plain (class (codes "a")) ∷ plain (class (codes "b")) ∷ []) ∷ []
both_targets_are_asked = refl

-- a parent is not empty
parent_is_not_empty : empty_fits true (plain Empty ∷ []) ≡ false
parent_is_not_empty = refl

other_may_be_empty : empty_fits false (plain Empty ∷ []) ≡ true
other_may_be_empty = refl

-- ---- Compounds that have to hold of one element

-- the siblings directly before one element are one
next_siblings_are_one : AreOfOne (Next ∷ []) (Next ∷ []) 1 1 1
next_siblings_are_one = (0, 0, (refl, refl), siblings refl refl refl refl)

-- and so are the parents, here that of `.b` in `.a > .b + .c`, and that of `.c` in `.a > .c`
parents_are_one : AreOfOne (Next ∷ Child ∷ []) (Child ∷ []) 1 2 1
parents_are_one = (0, 0, (refl, refl), parents 1 0 (inl refl, refl) refl refl refl)

-- earlier siblings may be two
earlier_siblings_may_be_two : GoTogether (Later ∷ []) (Later ∷ []) 0 0 1 1 → ⊥
earlier_siblings_may_be_two (siblings at at' e f) = absurd (let n : Some Later ≡ Some Next = at in cc)
earlier_siblings_may_be_two (parents zero n up up' e f) = absurd (let n : Some Later ≡ Some Child = up in cc)
earlier_siblings_may_be_two (parents (suc m) n up up' e f) = absurd (omega (arith, e))

-- and so may ancestors
ancestors_may_be_two : GoTogether (Inside ∷ []) (Inside ∷ []) 0 0 1 1 → ⊥
ancestors_may_be_two (siblings at at' e f) = absurd (let n : Some Inside ≡ Some Next = at in cc)
ancestors_may_be_two (parents zero n up up' e f) = absurd (let n : Some Inside ≡ Some Child = up in cc)
ancestors_may_be_two (parents (suc m) n up up' e f) = absurd (omega (arith, e))

-- ---- Ids

equal_ids_are_shared : share_id (plain (Id (codes "a")) ∷ []) (plain (Id (codes "a")) ∷ []) ≡ true
equal_ids_are_shared = refl

other_ids_are_not : share_id (plain (Id (codes "a")) ∷ []) (plain (Id (codes "b")) ∷ []) ≡ false
other_ids_are_not = refl

-- `#a #a` asks for an id of two elements
id_is_asked_of_two : own_ids_fit (inside (Id (codes "a")) (Id (codes "a"))) ≡ false
id_is_asked_of_two = refl

-- so its formula has the empty clause
refused_pair_has_the_empty_clause : whole_clauses false ≡ [] ∷ []
refused_pair_has_the_empty_clause = refl

-- ---- The formula

abbrev formula_size : SelectorParts → SelectorParts → ℕ
formula_size x y = (pair_formula x y (Some (features (codes "x")) ∷ Some (features (codes "x")) ∷ Some (features (codes "x")) ∷ [])).vars

-- two compounds take more nodes than one
formulas_differ : formula_size a_class b_class ≡ 8
unfolding positive negation
formulas_differ = refl

of_more_compounds : formula_size (inside (Kind (codes "ul")) (class (codes "a"))) b_class ≡ 11
unfolding positive negation
of_more_compounds = refl

-- The root has no siblings. The digit of the number of earlier ones is variable 1, that of the later ones variable 2.
root_has_no_later_siblings : top_clauses (positive 0) true (positive 1 ∷ []) (positive 2 ∷ [])
    ≡ (negation (positive 0) ∷ negation (positive 1) ∷ []) ∷ (negation (positive 0) ∷ negation (positive 2) ∷ []) ∷ []
unfolding positive negation
root_has_no_later_siblings = refl

-- ---- Hints

abbrev nth : ℕ → Simple
nth step = plain (Nth (record { a = pos step; b = pos 0 }))

abbrev nth_last : ℕ → Simple
nth_last step = plain (NthLast (record { a = pos step; b = pos 0 }))

-- By `:nth-child(3n)+:nth-child(3n)` the number before the second element leaves 2 when divided by 3. That before the
-- first one leaves 2 too, so the second one's, which is one more, would leave 0.
other_compound_asks_of_the_first : run_rests Before (Next ∷ []) ((nth 3 ∷ []) ∷ (nth 3 ∷ []) ∷ []) 0 ≡ record { step = 3; rest = 2 } ∷ record { step = 3; rest = 0 } ∷ []
other_compound_asks_of_the_first = refl

-- the number after it is one less
other_asks_the_other_way_round : run_rests Behind (Next ∷ []) ((nth_last 3 ∷ []) ∷ (nth_last 3 ∷ []) ∷ []) 0 ≡ record { step = 3; rest = 2 } ∷ record { step = 3; rest = 1 } ∷ []
other_asks_the_other_way_round = refl

-- of `~` it is not known how far it is to the other element
no_other_asks_beyond : run_rests Before (Later ∷ []) ((nth 3 ∷ []) ∷ (nth 3 ∷ []) ∷ []) 0 ≡ record { step = 3; rest = 2 } ∷ []
no_other_asks_beyond = refl

numbers_rise_along_later : is_later_at (Next ∷ Later ∷ []) 1 ≡ true
numbers_rise_along_later = refl

-- `:nth-child(2n)` and `:nth-child(4n)` agree: 3 is left, in two digits
agreeing_are_not_refused : rest_clauses (positive 0 ∷ positive 1 ∷ []) (joint_rest (record { step = 2; rest = 1 } ∷ record { step = 4; rest = 3 } ∷ [])) ≡ (positive 0 ∷ []) ∷ (positive 1 ∷ []) ∷ []
unfolding positive negation
agreeing_are_not_refused = refl

-- `:nth-child(2n)` and `:nth-child(4n+1)` do not
clashing_are_refused : rest_clauses (positive 0 ∷ positive 1 ∷ []) (joint_rest (record { step = 2; rest = 1 } ∷ record { step = 4; rest = 0 } ∷ [])) ≡ [] ∷ []
clashing_are_refused = refl

-- what both runs ask for counts: `:nth-child(2n)` of one and `:nth-child(3n)` of the other have steps of 6 together
both_runs_are_stepped : joint_step ((record { step = 2; rest = 1 } ∷ []) ++ (record { step = 3; rest = 2 } ∷ [])) ≡ 6
both_runs_are_stepped = refl

-- Where a compound of the left run that is one to the left of its first one shares a slot with the right run's first
-- one, the right run's number is one less.
shared_slot_moves : shared_rests Before [] (record { step = 5; rest = 1 } ∷ []) 1 0 ≡ record { step = 5; rest = 2 } ∷ []
shared_slot_moves = refl

-- ---- Shapes and their documents

-- from the element with one sibling before it to that sibling
neighbour_is_next : step_for false 1 0 ≡ NextTo
neighbour_is_next = refl

second_neighbour_is_further : step_for false 2 0 ≡ Further
second_neighbour_is_further = refl

-- the siblings of the last slot get a root of their own
root_has_no_siblings : map (λ l. l.depth) (top_lines false 2) ≡ 0 ∷ 1 ∷ []
root_has_no_siblings = refl

-- `.a > .b` as a shape: the target, and its parent as the root
parent_is_laid_around : example_of None (record { steps = UpOne ∷ []; left = []; right = []; before = 0 ∷ 0 ∷ []; after = 0 ∷ 0 ∷ []; top_is_root = true; root_is_child = false })
    (features (codes "li") ∷ features (codes "ul") ∷ [])
    ≡ record { doc = record { root_is_child = false; lines = record { depth = 0; count = 1; element = features (codes "ul") } ∷ record { depth = 1; count = 1; element = features (codes "li") } ∷ [] }; marked = 1; pseudo = None }
parent_is_laid_around = refl

-- two earlier siblings are one line, so the marked element has the third line
marked_after_siblings : (child_example 2 0 (features (codes "li")) None).marked ≡ 2
marked_after_siblings = refl

marked_without_siblings : (child_example 0 2 (features (codes "li")) None).marked ≡ 1
marked_without_siblings = refl

-- ---- Positions

-- `:nth-last-child(3n)` has a step of 2 or more
last_position_is_stepped : is_stepped_test (NthLast (record { a = pos 3; b = pos 0 })) ≡ true
last_position_is_stepped = refl

-- for `:nth-child(100)` a hundred siblings are looked at
many_siblings_are_tried : limit_of (record { positions = record { a = pos 0; b = pos 100 }; negated = false } ∷ []) ≡ 101
many_siblings_are_tried = refl

-- a gap is as far from the threshold as before, modulo the period
gap_keeps_its_remainder : reduced (record { threshold = 3; period = 4; width = 1 }) 9 ≡ 5
gap_keeps_its_remainder = refl
