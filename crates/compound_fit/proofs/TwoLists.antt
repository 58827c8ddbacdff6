-- What two lists of simple selectors ask for together.
use Rattle.std.proofs.Common.{◌≡◌, ℕ, Bool, true, false, not, if◌then◌else◌, List, [], ◌∷◌, ◌++◌, Some, None, refl, ap, ◌∙◌}
use Rattle.css_model.specs.declared.selector.AttrTest.{AttrTest}
use Rattle.css_model.specs.declared.selector.Simple.{Simple}
use Rattle.css_model.specs.declared.selector.Test.{Test}
use Rattle.css_model.specs.declared.selector.Test.TheVariants.{Any, Kind, Id, Attr, Nth, NthLast, OnlyChild, Root, Empty, State}
use Rattle.attr_values.specs.Value.{head_of}
use Rattle.compound_fit.specs.Attributes.{attribute_test, attribute_tests}
use Rattle.compound_fit.specs.Kinds.{asked_kinds, named_kind, refused_kinds}

test_then : (t : Test) (wanted : Bool) (a b : List (AttrTest × Bool)) → attribute_test t wanted (a ++ b) ≡ attribute_test t wanted a ++ b
test_then Any wanted a b = refl
test_then (Kind name) wanted a b = refl
test_then (Id name) wanted a b = refl
test_then (Attr test) wanted a b = refl
test_then (Nth positions) wanted a b = refl
test_then (NthLast positions) wanted a b = refl
test_then OnlyChild wanted a b = refl
test_then Root wanted a b = refl
test_then Empty wanted a b = refl
test_then (State flag) wanted a b = refl

pub tests_append : (x y : List Simple) → attribute_tests (x ++ y) ≡ attribute_tests x ++ attribute_tests y
tests_append [] y = refl
tests_append (s ∷ x) y = ap (attribute_test s.test (not s.negated)) (tests_append x y) ∙ test_then s.test (not s.negated) (attribute_tests x) (attribute_tests y)

kind_then : (t : Test) (a b : List (List ℕ)) → named_kind t (a ++ b) ≡ named_kind t a ++ b
kind_then Any a b = refl
kind_then (Kind name) a b = refl
kind_then (Id name) a b = refl
kind_then (Attr test) a b = refl
kind_then (Nth positions) a b = refl
kind_then (NthLast positions) a b = refl
kind_then OnlyChild a b = refl
kind_then Root a b = refl
kind_then Empty a b = refl
kind_then (State flag) a b = refl

asked_append : (x y : List Simple) → asked_kinds (x ++ y) ≡ asked_kinds x ++ asked_kinds y
asked_append [] y = refl
asked_append (s ∷ x) y = cases s.negated (asked_append x y)
  where
    cases : (b : Bool) → asked_kinds (x ++ y) ≡ asked_kinds x ++ asked_kinds y →
        (if b then asked_kinds (x ++ y) else named_kind s.test (asked_kinds (x ++ y))) ≡ (if b then asked_kinds x else named_kind s.test (asked_kinds x)) ++ asked_kinds y
    cases true later = later
    cases false later = ap (named_kind s.test) later ∙ kind_then s.test (asked_kinds x) (asked_kinds y)

pub refused_append : (x y : List Simple) → refused_kinds (x ++ y) ≡ refused_kinds x ++ refused_kinds y
refused_append [] y = refl
refused_append (s ∷ x) y = cases s.negated (refused_append x y)
  where
    cases : (b : Bool) → refused_kinds (x ++ y) ≡ refused_kinds x ++ refused_kinds y →
        (if b then named_kind s.test (refused_kinds (x ++ y)) else refused_kinds (x ++ y)) ≡ (if b then named_kind s.test (refused_kinds x) else refused_kinds x) ++ refused_kinds y
    cases true later = ap (named_kind s.test) later ∙ kind_then s.test (refused_kinds x) (refused_kinds y)
    cases false later = later

-- the first of two lists
head_some : (a b : List (List ℕ)) (v : List ℕ) → head_of a ≡ Some v → head_of (a ++ b) ≡ Some v
head_some [] b v e = cc
head_some (w ∷ a) b v e = e

head_none : (a b : List (List ℕ)) → head_of a ≡ None → head_of (a ++ b) ≡ head_of b
head_none [] b e = refl
head_none (w ∷ a) b e = cc

pub first_asked : (x y : List Simple) (v : List ℕ) → head_of (asked_kinds x) ≡ Some v → head_of (asked_kinds (x ++ y)) ≡ Some v
first_asked x y v e = ap head_of (asked_append x y) ∙ head_some (asked_kinds x) (asked_kinds y) v e

pub then_asked : (x y : List Simple) → head_of (asked_kinds x) ≡ None → head_of (asked_kinds (x ++ y)) ≡ head_of (asked_kinds y)
then_asked x y e = ap head_of (asked_append x y) ∙ head_none (asked_kinds x) (asked_kinds y) e
