-- The values of a compound's tests stand in the terms of its selector, each in one of its own.
use Rattle.std.proofs.Common.{◌≡◌, ◌≤◌, ◌+◌, ℕ, Option, List, [], ◌∷◌, ◌++◌, sym, ap, ◌∙◌, subst, arith}
use Rattle.std.specs.List.{AllByRecursion}
use Rattle.list_facts.proofs.Elements.{all_with}
use Rattle.list_facts.proofs.Sums.{total}
use Rattle.css_model.specs.declared.selector.Combinator.{Combinator}
use Rattle.css_model.specs.declared.selector.Pseudo.{Pseudo}
use Rattle.css_model.specs.declared.selector.Simple.{Simple}
use Rattle.css_model.specs.Documents.SelectorParts.{SelectorParts}
use Rattle.css_model.specs.Selectors.Terms.{Term}
use Rattle.selector_laws.proofs.ForCallers.{all_append, all_reverse}
use Rattle.selector_laws.specs.Grammar.{IsCompound, IsFront, IsLast, IsSelector}
use Rattle.selector_laws.specs.Grammar.IsCompound.{of_type, of_simple, more}
use Rattle.selector_laws.specs.Grammar.IsFront.{at_start, by_sign, by_white}
use Rattle.selector_laws.specs.Grammar.IsLast.{plain, behind, alone}
use Rattle.pair_laws.proofs.Profile.DerivedTests.{room, simple_wide, test_wide, total_append, type_wide}

-- the code points from U+10000 on in the values of a compound
abbrev pub simples_wide : List Simple → ℕ
simples_wide simples = total (λ s. test_wide s.test) simples

-- at most so many
abbrev pub IsWithin : ℕ → List Simple → Type 0
IsWithin n simples = simples_wide simples ≤ n

compound_wide : (terms : List Term) (simples : List Simple) → IsCompound terms simples → simples_wide simples ≤ total room terms
compound_wide terms simples (of_type x test t) = let none = type_wide x test t in omega (arith, none)
compound_wide terms simples (of_simple ts simple d) = let le = simple_wide ts simple d in omega (arith, le)
compound_wide terms simples (more front rest some simple d touches e) =
    let first = compound_wide front some d in
    let last = simple_wide rest simple e in
    let all = total_append room front rest in
    let both : simples_wide (some ++ simple ∷ []) ≡ simples_wide some + (test_wide simple.test + 0) = total_append (λ (s : Simple). test_wide s.test) some (simple ∷ []) in
    omega (arith, first, last, all, both)

widened : (m n : ℕ) (chain : List (List Simple)) → m ≤ n → AllByRecursion (IsWithin m) chain → AllByRecursion (IsWithin n) chain
widened m n chain le all = all_with (IsWithin m) (IsWithin n) (λ c h. omega (arith, h, le)) chain all

front_wide : (terms : List Term) (chain : List (List Simple)) (links : List Combinator) → IsFront terms chain links → AllByRecursion (IsWithin (total room terms)) chain
front_wide terms chain links at_start = tt
front_wide terms chain links (by_sign before rest y others earlier c link d compound signs) =
    let size : total room (before ++ rest ++ y ∷ []) ≡ total room (before ++ rest) + (room y + 0) = total_append room (before ++ rest) (y ∷ []) in
    let later : total room (before ++ rest) ≡ total room before + total room rest = total_append room before rest in
    let here = compound_wide rest c compound in
    all_append (IsWithin (total room (before ++ rest ++ y ∷ []))) others (c ∷ [])
    (widened (total room before) (total room (before ++ rest ++ y ∷ [])) others (omega (arith, size, later)) (front_wide before others earlier d))
    ((let le : simples_wide c ≤ total room (before ++ rest ++ y ∷ []) = omega (arith, size, later, here) in le), tt)
front_wide terms chain links (by_white before rest others earlier c d compound white) =
    let size : total room (before ++ rest) ≡ total room before + total room rest = total_append room before rest in
    let here = compound_wide rest c compound in
    all_append (IsWithin (total room (before ++ rest))) others (c ∷ [])
    (widened (total room before) (total room (before ++ rest)) others (omega (arith, size)) (front_wide before others earlier d))
    ((let le : simples_wide c ≤ total room (before ++ rest) = omega (arith, size, here) in le), tt)

last_wide : (terms : List Term) (simples : List Simple) (pseudo : Option Pseudo) → IsLast terms simples pseudo → simples_wide simples ≤ total room terms
last_wide terms simples pseudo (plain c is) = compound_wide terms simples c
last_wide terms simples pseudo (behind front rest element e c touches p is) =
    let here = compound_wide front simples c in
    let size : total room terms ≡ total room front + total room rest = ap (total room) e ∙ total_append room front rest in
    omega (arith, here, size)
last_wide terms simples pseudo (alone element p e is) = let none : simples_wide simples ≡ 0 = ap simples_wide e in omega (arith, none)

pub selector_wide : (terms : List Term) (selector : SelectorParts) → IsSelector terms selector → AllByRecursion (IsWithin (total room terms)) selector.chain
selector_wide terms selector s =
    let size : total room terms ≡ total room s.front + total room s.rest = ap (total room) s.parts ∙ total_append room s.front s.rest in
    let before = widened (total room s.front) (total room terms) s.compounds (omega (arith, size)) (front_wide s.front s.compounds s.links s.before) in
    let last = last_wide s.rest s.simples s.pseudo s.last in
    let all = all_append (IsWithin (total room terms)) s.compounds (s.simples ∷ []) before ((let le : simples_wide s.simples ≤ total room terms = omega (arith, size, last) in le), tt) in
    subst (AllByRecursion (IsWithin (total room terms))) (ap (λ (x : SelectorParts). x.chain) (sym s.is)) (all_reverse (IsWithin (total room terms)) (s.compounds ++ s.simples ∷ []) all)
