-- How many positions of a selector, of a part of it and of a pair have a step of 2 or more in size.
use Rattle.std.proofs.Common.{◌≡◌, ℕ, ◌+◌, ◌<◌, ◌≤◌, List, [], ◌∷◌, length, take, get_or, pos, refl, sym, ap, ◌∙◌, arith}
use Rattle.std.specs.List.{count_by, filter_map, flat_map, sum_by, cons_option}
use Rattle.std.specs.Prelude.{cond}
use Rattle.std.proofs.lemmas.List.Sums.{sum_by-append, sum_by-cons, sum_by_more_le}
use Rattle.css_model.specs.declared.position.AnB.{AnB}
use Rattle.css_model.specs.declared.selector.Simple.{Simple}
use Rattle.css_model.specs.declared.selector.Test.{Test}
use Rattle.css_model.specs.declared.selector.Test.TheVariants.{Any, Kind, Id, Attr, Nth, NthLast, OnlyChild, Root, Empty, State}
use Rattle.css_model.specs.Documents.SelectorParts.{SelectorParts}
use Rattle.css_model.specs.Documents.Specificity.{simples_of}
use Rattle.css_model.specs.Positions.Range.{is_stepped}
use Rattle.css_model.specs.Selectors.Compounds.{is_stepped_test}
use Rattle.slot_plan.specs.Parts.{part_of, parts_of, pair_parts, stepped_count}

abbrev stepped : List Simple → ℕ
stepped simples = count_by (λ s. is_stepped_test s.test) simples

by_compound : (chain : List (List Simple)) → stepped (flat_map (λ compound. compound) chain) ≡ sum_by stepped chain
by_compound [] = refl
by_compound (compound ∷ chain) =
    sum_by-append (λ s. cond (is_stepped_test s.test) 1 0) compound (flat_map (λ c. c) chain)
    ∙ ap (λ (n : ℕ). stepped compound + n) (by_compound chain)
    ∙ sym (sum_by-cons stepped compound chain)

-- those of the compounds so far and of the next one are among all
pub stepped_within : (chain : List (List Simple)) (i : ℕ) (d : List Simple) → i < length chain →
    count_by (λ s. is_stepped_test s.test) (flat_map (λ compound. compound) (take i chain)) + count_by (λ s. is_stepped_test s.test) (get_or chain i d)
    ≤ count_by (λ s. is_stepped_test s.test) (flat_map (λ compound. compound) chain)
stepped_within chain i d below =
    let front = by_compound (take i chain) in
    let all = by_compound chain in
    let within = sum_by_more_le stepped chain i d below in
    omega arith

-- a test gives a part with such a step where it is one of such a position
same_step : (t : Test) (parts : List AnB) → count_by is_stepped (cons_option (part_of t) parts) ≡ cond (is_stepped_test t) 1 0 + count_by is_stepped parts
same_step (Nth x) parts = sum_by-cons (λ p. cond (is_stepped p) 1 0) x parts
same_step (NthLast x) parts = sum_by-cons (λ p. cond (is_stepped p) 1 0) x parts
same_step OnlyChild parts = sum_by-cons (λ p. cond (is_stepped p) 1 0) (record { a = pos 0; b = pos 1 }) parts
same_step Any parts = omega arith
same_step (Kind name) parts = omega arith
same_step (Id name) parts = omega arith
same_step (Attr test) parts = omega arith
same_step Root parts = omega arith
same_step Empty parts = omega arith
same_step (State flag) parts = omega arith

same_count : (simples : List Simple) → count_by is_stepped (filter_map (λ s. part_of s.test) simples) ≡ stepped simples
same_count [] = refl
same_count (s ∷ simples) =
    same_step s.test (filter_map (λ t. part_of t.test) simples)
    ∙ ap (λ (n : ℕ). cond (is_stepped_test s.test) 1 0 + n) (same_count simples)
    ∙ sym (sum_by-cons (λ t. cond (is_stepped_test t.test) 1 0) s simples)

-- the parts of a pair
pub stepped_parts : (x y : SelectorParts) → count_by is_stepped (pair_parts x y) ≡ stepped_count x + stepped_count y
stepped_parts x y =
    let front = same_count (simples_of x) in
    let back = same_count (simples_of y) in
    let both = sum_by-append (λ p. cond (is_stepped p) 1 0) (parts_of x) (parts_of y) in
    omega arith
