-- Each test that the grammar derives names something, where the idents of its terms do.
use Rattle.std.proofs.Common.{◌≡◌, ◌≢◌, ℕ, true, not, List, [], ◌∷◌, ◌++◌, length, sym, ap, subst, arith, codes}
use Rattle.std.specs.List.{AllByRecursion}
use Rattle.std.proofs.lemmas.Bool.{and_parts}
use Rattle.std.proofs.lemmas.List.{length-map}
use Rattle.css_model.specs.declared.position.AnB.{AnB}
use Rattle.css_model.specs.declared.selector.Op.{Op}
use Rattle.css_model.specs.declared.selector.Simple.{Simple}
use Rattle.css_model.specs.declared.selector.Test.{Test}
use Rattle.css_model.specs.Selectors.Attributes.{attribute_test}
use Rattle.css_model.specs.Selectors.Classes.{is_name}
use Rattle.css_model.specs.Selectors.PseudoClasses.{plain_pseudo_classes, position_functions}
use Rattle.css_model.specs.Selectors.Terms.{Term}
use Rattle.css_model.specs.Selectors.Tokens.{row_of}
use Rattle.css_model.specs.Text.Lexemes.{is_ident}
use Rattle.css_model.specs.Text.Names.{code_points, lower}
use Rattle.selector_laws.proofs.ForCallers.{HoldsOfSome, row_holds}
use Rattle.selector_laws.specs.Grammar.{IsAttribute, IsNegated, IsSimple, IsTest, IsType}
use Rattle.selector_laws.specs.Grammar.IsAttribute.{present, equal, matching}
use Rattle.selector_laws.specs.Grammar.IsNegated.{of_type, of_test}
use Rattle.selector_laws.specs.Grammar.IsSimple.{plain, negation}
use Rattle.selector_laws.specs.Grammar.IsTest.{id, class, of_attribute, pseudo_class, position}
use Rattle.selector_laws.specs.Grammar.IsType.{universal, named}
use Rattle.pair_laws.specs.Profile.Named.{HasName}
use Rattle.pair_laws.proofs.Profile.NamedTokens.{IsNamedTerm}

abbrev pub AreNamed : List Term → Type 0
AreNamed terms = AllByRecursion IsNamedTerm terms

pub left_all : {A : Type 0} (P : A → Type 0) (xs ys : List A) → AllByRecursion P (xs ++ ys) → AllByRecursion P xs
left_all P [] ys all = tt
left_all P (x ∷ xs) ys all = (all.0, left_all P xs ys all.1)

pub right_all : {A : Type 0} (P : A → Type 0) (xs ys : List A) → AllByRecursion P (xs ++ ys) → AllByRecursion P ys
right_all P [] ys all = all
right_all P (x ∷ xs) ys all = right_all P xs ys all.1

-- a name in lower case
lower_some : (x : Term) → IsNamedTerm x → is_ident x.kind ≡ true → lower (code_points x.name) ≢ []
lower_some x here ident none =
    let some = here ident in
    let size : length (lower (code_points x.name)) ≡ 0 = ap length none in
    let same : length (lower (code_points x.name)) ≡ length (code_points x.name) = length-map (code_points x.name) _ in
    omega (arith, some, size, same)

attribute_name : (name : Term) (op : Op) (value : List ℕ) (test : Test) → IsNamedTerm name → is_name name ≡ true → test ≡ attribute_test (lower (code_points name.name)) op value → HasName test
attribute_name name op value test here names is = subst HasName (sym is) (lower_some name here (and_parts (is_ident name.kind) (not name.only_dashes) names).0)

pub type_named : (x : Term) (test : Test) → IsNamedTerm x → IsType x test → HasName test
type_named x test here (universal star is) = subst HasName (sym is) tt
type_named x test here (named ident dashes is) = subst HasName (sym is) (lower_some x here ident)

attribute_named : (terms : List Term) (test : Test) → AreNamed terms → IsAttribute terms test → HasName test
attribute_named terms test all (present bracket name close e opens names closes is) = let each : AreNamed (bracket ∷ name ∷ close ∷ []) = subst AreNamed e all in attribute_name name _ _ test each.1.0 names is
attribute_named terms test all (equal bracket name sign value close e opens names equals says closes is) =
    let each : AreNamed (bracket ∷ name ∷ sign ∷ value ∷ close ∷ []) = subst AreNamed e all in
    attribute_name name _ _ test each.1.0 names is
attribute_named terms test all (matching bracket name first second value close op e opens names ops equals touches other says closes is) =
    let each : AreNamed (bracket ∷ name ∷ first ∷ second ∷ value ∷ close ∷ []) = subst AreNamed e all in
    attribute_name name _ _ test each.1.0 names is

MakesNamed : (AnB → Test) → Type 0
MakesNamed make = (a : AnB) → HasName (make a)

test_named : (terms : List Term) (test : Test) → AreNamed terms → IsTest terms test → HasName test
unfolding MakesNamed
test_named terms test all (id x e hash is) = subst HasName (sym is) tt
test_named terms test all (class sign x e dots touches names is) = subst HasName (sym is) (λ none. let size : length (codes "class") ≡ 0 = ap length none in omega (arith, size))
test_named terms test all (of_attribute a) = attribute_named terms test all a
test_named terms test all (pseudo_class sign x e colons touches ident other row) =
    let rows : HoldsOfSome HasName (row_of x.name plain_pseudo_classes) =
    row_holds HasName x.name plain_pseudo_classes (tt, (tt, (tt, (tt, (tt, (tt, (tt, (tt, (tt, (tt, (tt, (tt, (tt, (tt, tt)))))))))))))) in
    subst (HoldsOfSome HasName) row rows
test_named terms test all (position sign x make argument e colons touches calls row reads is) =
    let rows : HoldsOfSome MakesNamed (row_of x.name position_functions) = row_holds MakesNamed x.name position_functions ((λ a. tt), ((λ a. tt), tt)) in
    let makes : MakesNamed make = subst (HoldsOfSome MakesNamed) row rows in
    subst HasName (sym is) (makes argument)

negated_named : (terms : List Term) (test : Test) → AreNamed terms → IsNegated terms test → HasName test
negated_named terms test all (of_type x e t) = let each : AreNamed (x ∷ []) = subst AreNamed e all in type_named x test each.0 t
negated_named terms test all (of_test t) = test_named terms test all t

pub simple_named : (terms : List Term) (simple : Simple) → AreNamed terms → IsSimple terms simple → HasName simple.test
simple_named terms simple all (plain test t is) = subst (λ (s : Simple). HasName s.test) (sym is) (test_named terms test all t)
simple_named terms simple all (negation sign function close inside test e colons touches calls word n closes is) =
    let each : AreNamed (sign ∷ function ∷ (inside ++ close ∷ [])) = subst AreNamed e all in
    subst (λ (s : Simple). HasName s.test) (sym is) (negated_named inside test (left_all IsNamedTerm inside (close ∷ []) each.1.1) n)
