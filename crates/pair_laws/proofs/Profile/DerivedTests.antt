-- What the value of a test says stands in the terms that it is derived from.
use Rattle.std.proofs.Common.{◌≡◌, ◌≤◌, ◌+◌, ℕ, List, [], ◌∷◌, ◌++◌, refl, ap, ◌∙◌, subst, arith}
use Rattle.list_facts.proofs.Sums.{total}
use Rattle.css_model.specs.declared.position.AnB.{AnB}
use Rattle.css_model.specs.declared.selector.Simple.{Simple}
use Rattle.css_model.specs.declared.selector.Test.{Test}
use Rattle.css_model.specs.declared.selector.Test.TheVariants.{Id, Attr}
use Rattle.css_model.specs.Selectors.PseudoClasses.{plain_pseudo_classes, position_functions}
use Rattle.css_model.specs.Selectors.Terms.{Term}
use Rattle.css_model.specs.Selectors.Tokens.{row_of}
use Rattle.css_model.specs.Text.Names.{code_points}
use Rattle.selector_laws.proofs.ForCallers.{HoldsOfSome, row_holds}
use Rattle.selector_laws.specs.Grammar.{IsAttribute, IsNegated, IsSimple, IsTest, IsType}
use Rattle.selector_laws.specs.Grammar.IsAttribute.{present, equal, matching}
use Rattle.selector_laws.specs.Grammar.IsNegated.{of_type, of_test}
use Rattle.selector_laws.specs.Grammar.IsSimple.{plain, negation}
use Rattle.selector_laws.specs.Grammar.IsTest.{id, class, of_attribute, pseudo_class, position}
use Rattle.selector_laws.specs.Grammar.IsType.{universal, named}
use Rattle.pair_laws.proofs.Profile.Wide.{wide}

-- the code points from U+10000 on of a term's name, and of the value of a test
abbrev pub room : Term → ℕ
room x = wide (code_points x.name)

abbrev pub test_wide : Test → ℕ
test_wide (Attr t) = wide t.value
test_wide (Id v) = wide v
test_wide _ = 0

pub total_append : {A : Type 0} (f : A → ℕ) (xs ys : List A) → total f (xs ++ ys) ≡ total f xs + total f ys
total_append f [] ys = omega arith
total_append f (x ∷ xs) ys = let later = total_append f xs ys in omega (arith, later)

pub type_wide : (x : Term) (test : Test) → IsType x test → test_wide test ≡ 0
type_wide x test (universal star is) = ap test_wide is
type_wide x test (named ident dashes is) = ap test_wide is

attribute_wide : (terms : List Term) (test : Test) → IsAttribute terms test → test_wide test ≤ total room terms
attribute_wide terms test (present bracket name close e opens names closes is) = let none : test_wide test ≡ 0 = ap test_wide is in omega (arith, none)
attribute_wide terms test (equal bracket name sign value close e opens names equals says closes is) =
    let size : total room terms ≡ room bracket + (room name + (room sign + (room value + (room close + 0)))) = ap (total room) e in
    let here : test_wide test ≡ room value = ap test_wide is in
    omega (arith, size, here)
attribute_wide terms test (matching bracket name first second value close op e opens names ops equals touches other says closes is) =
    let size : total room terms ≡ room bracket + (room name + (room first + (room second + (room value + (room close + 0))))) = ap (total room) e in
    let here : test_wide test ≡ room value = ap test_wide is in
    omega (arith, size, here)

IsNarrow : Test → Type 0
IsNarrow test = test_wide test ≡ 0

MakesNarrow : (AnB → Test) → Type 0
MakesNarrow make = (a : AnB) → test_wide (make a) ≡ 0

pub test_wide_le : (terms : List Term) (test : Test) → IsTest terms test → test_wide test ≤ total room terms
unfolding IsNarrow MakesNarrow
test_wide_le terms test (id x e hash is) =
    let size : total room terms ≡ room x + 0 = ap (total room) e in
    let here : test_wide test ≡ room x = ap test_wide is in
    omega (arith, size, here)
test_wide_le terms test (class sign x e dots touches names is) =
    let size : total room terms ≡ room sign + (room x + 0) = ap (total room) e in
    let here : test_wide test ≡ room x = ap test_wide is in
    omega (arith, size, here)
test_wide_le terms test (of_attribute a) = attribute_wide terms test a
test_wide_le terms test (pseudo_class sign x e colons touches ident other row) =
    let rows : HoldsOfSome IsNarrow (row_of x.name plain_pseudo_classes) =
    row_holds IsNarrow x.name plain_pseudo_classes (refl, (refl, (refl, (refl, (refl, (refl, (refl, (refl, (refl, (refl, (refl, (refl, (refl, (refl, tt)))))))))))))) in
    let none : test_wide test ≡ 0 = subst (HoldsOfSome IsNarrow) row rows in
    omega (arith, none)
test_wide_le terms test (position sign x make argument e colons touches calls row reads is) =
    let rows : HoldsOfSome MakesNarrow (row_of x.name position_functions) = row_holds MakesNarrow x.name position_functions ((λ a. refl), ((λ a. refl), tt)) in
    let makes : MakesNarrow make = subst (HoldsOfSome MakesNarrow) row rows in
    let none : test_wide test ≡ 0 = ap test_wide is ∙ makes argument in
    omega (arith, none)

negated_wide : (terms : List Term) (test : Test) → IsNegated terms test → test_wide test ≤ total room terms
negated_wide terms test (of_type x e t) = let none = type_wide x test t in omega (arith, none)
negated_wide terms test (of_test t) = test_wide_le terms test t

pub simple_wide : (terms : List Term) (simple : Simple) → IsSimple terms simple → test_wide simple.test ≤ total room terms
simple_wide terms simple (plain test t is) =
    let here : test_wide simple.test ≡ test_wide test = ap (λ (s : Simple). test_wide s.test) is in
    let le = test_wide_le terms test t in
    omega (arith, here, le)
simple_wide terms simple (negation sign function close inside test e colons touches calls word n closes is) =
    let here : test_wide simple.test ≡ test_wide test = ap (λ (s : Simple). test_wide s.test) is in
    let le = negated_wide inside test n in
    let size : total room terms ≡ room sign + (room function + total room (inside ++ close ∷ [])) = ap (total room) e in
    let parts : total room (inside ++ close ∷ []) ≡ total room inside + (room close + 0) = total_append room inside (close ∷ []) in
    omega (arith, here, le, size, parts)
