-- Which elements a selector matches, in the words of Selectors 3 (`Matches`), and as a test that
-- computes (`matches`, in the second part). A law says that the two agree.
use Rattle.std.specs.Prelude.{◌≡◌, ◌≢◌, ℕ, zero, suc, ◌%◌, ◌<◌, Bool, true, false, not, ◌&&◌, if◌then◌else◌, ◌==◌, List, [], ◌∷◌, ◌++◌, map, Option, Some, None, IsSomeAnd, ℤ, pos, negsuc, ◌+ℤ◌, ◌-ℤ◌, ◌*ℤ◌, codes}
use Rattle.std.specs.Bool.{MatchBool}
use Rattle.std.specs.List.{All, list_all, list_any}
use Rattle.css_model.specs.declared.position.AnB.{AnB}
use Rattle.css_model.specs.declared.selector.Combinator.{Combinator}
use Rattle.css_model.specs.declared.selector.Combinator.TheVariants.{Inside, Child, Next, Later}
use Rattle.css_model.specs.declared.selector.Pseudo.{Pseudo}
use Rattle.css_model.specs.declared.selector.Pseudo.TheVariants.{FirstLine, FirstLetter, Before, After}
use Rattle.css_model.specs.declared.selector.Simple.{Simple}
use Rattle.css_model.specs.declared.selector.Test.{Test}
use Rattle.css_model.specs.declared.selector.Test.TheVariants.{Any, Kind, Id, Attr, Nth, NthLast, OnlyChild, Root, Empty, State}
use Rattle.css_model.specs.Documents.Attribute.{Passes, passes}
use Rattle.css_model.specs.Documents.Document.{Siblings, none, first, Document, ElementAt, element_at, Target, attribute_value}
use Rattle.css_model.specs.Lists.{same_text}
use Rattle.css_model.specs.Documents.SelectorParts.{SelectorParts}

-- how many elements stand side by side (Selectors 3, section 6.6.5)
abbrev pub count_siblings : Siblings → ℕ
count_siblings none = 0
count_siblings (first e children later) = suc (count_siblings later)

-- Which child of its parent an element is, from 1 on: one more than the number of its siblings
-- before it (Selectors 3, section 6.6.5.2). The root is a child only where the document says so, and
-- then the first (own).
abbrev pub sibling_number : Document → List ℕ → Option ℕ
sibling_number doc [] = if doc.root_is_child then Some 1 else None
sibling_number doc (i ∷ []) = Some (suc i)
sibling_number doc (i ∷ j ∷ path) = sibling_number doc (j ∷ path)

-- the same, counted from the last child back (Selectors 3, section 6.6.5.3)
abbrev pub sibling_number_from_end : Document → List ℕ → ElementAt → Option ℕ
sibling_number_from_end doc [] here = if doc.root_is_child then Some 1 else None
sibling_number_from_end doc (i ∷ path) here = Some (suc (count_siblings here.later))

-- the place is a·n + b for some n of at least 0 (Selectors 3, section 6.6.5.2)
abbrev pub IsNth : AnB → ℕ → Type 0
IsNth x place = (n : ℕ) × (pos place ≡ x.a *ℤ pos n +ℤ x.b)

-- What a test says of an element, by the section of Selectors 3.
--     Any, Kind       `*` (6.2) and a type selector (6.1)
--     Id              the attribute `id` has this value (6.5)
--     Attr            an attribute's value passes (6.3); a class is a word of the attribute `class` (6.4)
--     Nth, NthLast    `:nth-child()` (6.6.5.2), `:nth-last-child()` (6.6.5.3)
--     OnlyChild       the first child and the last one (6.6.5.10)
--     Root            the root (6.6.5.1)
--     Empty           no children, neither elements nor text (6.6.5.12)
--     State           `:link`, `:hover` and their kin: a flag (6.6.1, 6.6.2, 6.6.4)
abbrev pub TestHolds : Document → List ℕ → ElementAt → Test → Type 0
TestHolds doc path here Any = Unit {0}
TestHolds doc path here (Kind name) = here.element.kind ≡ name
TestHolds doc path here (Id name) = attribute_value here.element (codes "id") ≡ Some name
TestHolds doc path here (Attr test) = IsSomeAnd (attribute_value here.element test.name) (λ value. Passes test.op test.value value)
TestHolds doc path here (Nth x) = IsSomeAnd (sibling_number doc path) (λ place. IsNth x place)
TestHolds doc path here (NthLast x) = IsSomeAnd (sibling_number_from_end doc path here) (λ place. IsNth x place)
TestHolds doc path here OnlyChild = (sibling_number doc path ≡ Some 1) × (sibling_number_from_end doc path here ≡ Some 1)
TestHolds doc path here Root = path ≡ []
TestHolds doc path here Empty = (here.children ≡ none) × (here.element.text ≡ false)
TestHolds doc path here (State flag) = here.element.flags flag ≡ true

-- a simple selector: its test holds, or in `:not()` does not (Selectors 3, section 6.6.7)
abbrev pub SimpleHolds : Document → List ℕ → ElementAt → Simple → Type 0
SimpleHolds doc path here s = MatchBool s.negated (TestHolds doc path here s.test → ⊥) (TestHolds doc path here s.test)

-- there is an element at the path, and all simple selectors of a sequence hold of it (Selectors 3, section 4)
abbrev pub CompoundHolds : Document → List ℕ → List Simple → Type 0
CompoundHolds doc path simples = IsSomeAnd (element_at doc path) (λ here. All (λ s. SimpleHolds doc path here s) simples)

-- How the element at `other`, of the sequence at the left of a combinator, stands to the element at
-- `path`, of the sequence at its right (Selectors 3, section 8).
--     Inside    it is an ancestor (8.1)
--     Child     it is the parent (8.2)
--     Next      it is the sibling directly before (8.3.1)
--     Later     it is a sibling before (8.3.2)
abbrev pub Allows : Combinator → List ℕ → List ℕ → Type 0
Allows Inside path other = (rest : List ℕ) × (rest ≢ []) × (path ≡ other ++ rest)
Allows Child path other = (i : ℕ) × (path ≡ other ++ i ∷ [])
Allows Next path other = (parent : List ℕ) × (i : ℕ) × (path ≡ parent ++ suc i ∷ []) × (other ≡ parent ++ i ∷ [])
Allows Later path other = (parent : List ℕ) × (i : ℕ) × (j : ℕ) × (path ≡ parent ++ i ∷ []) × (other ≡ parent ++ j ∷ []) × (j < i)

-- The sequences, from right to left, match at the path: the first one holds there, and the others
-- match at some element that the combinator allows (Selectors 3, sections 4 and 8). Between each two
-- sequences stands one combinator; where one is missing, nothing matches, and one too many is not
-- read (own: no text is read as such a selector, nor as one with an empty sequence).
abbrev pub MatchesFrom : Document → List (List Simple) → List Combinator → List ℕ → Type 0
MatchesFrom doc [] links path = ⊥
MatchesFrom doc (c ∷ []) links path = CompoundHolds doc path c
MatchesFrom doc (c ∷ d ∷ cs) [] path = ⊥
MatchesFrom doc (c ∷ d ∷ cs) (link ∷ links) path =
    CompoundHolds doc path c × ((other : List ℕ) × Allows link path other × MatchesFrom doc (d ∷ cs) links other)

-- A selector matches a target: the target is of the selector's pseudo-element, or both have none
-- (Selectors 3, section 7), and the sequences match at the target's element.
pub record Matches (doc : Document) (target : Target) (selector : SelectorParts) : Type 0 where
  pub pseudo : target.pseudo ≡ selector.pseudo
  pub element : MatchesFrom doc selector.chain selector.links target.path

-- The rest of this file is the same as a test that computes (own; a law says that they agree).

-- the second number is the first one times some n of at least 0
abbrev pub is_multiple : ℤ → ℤ → Bool
is_multiple (pos zero) (pos zero) = true
is_multiple (pos zero) _ = false
is_multiple (pos (suc a)) (pos d) = d % suc a == 0
is_multiple (pos (suc a)) (negsuc d) = false
is_multiple (negsuc a) (pos zero) = true
is_multiple (negsuc a) (pos (suc d)) = false
is_multiple (negsuc a) (negsuc d) = suc d % suc a == 0

-- whether the place is a·n + b
abbrev pub is_nth : AnB → ℕ → Bool
is_nth x place = is_multiple x.a (pos place -ℤ x.b)

-- whether there is a value that passes a test
abbrev pub some_passes : {A : Type 0} → (A → Bool) → Option A → Bool
some_passes test None = false
some_passes test (Some x) = test x

abbrev pub is_none : Siblings → Bool
is_none none = true
is_none (first e children later) = false

abbrev pub is_root : List ℕ → Bool
is_root [] = true
is_root (i ∷ path) = false

abbrev pub test_holds : Document → List ℕ → ElementAt → Test → Bool
test_holds doc path here Any = true
test_holds doc path here (Kind name) = same_text here.element.kind name
test_holds doc path here (Id name) = some_passes (λ value. same_text value name) (attribute_value here.element (codes "id"))
test_holds doc path here (Attr test) = some_passes (passes test.op test.value) (attribute_value here.element test.name)
test_holds doc path here (Nth x) = some_passes (is_nth x) (sibling_number doc path)
test_holds doc path here (NthLast x) = some_passes (is_nth x) (sibling_number_from_end doc path here)
test_holds doc path here OnlyChild = some_passes (λ place. place == 1) (sibling_number doc path) && some_passes (λ place. place == 1) (sibling_number_from_end doc path here)
test_holds doc path here Root = is_root path
test_holds doc path here Empty = is_none here.children && not here.element.text
test_holds doc path here (State flag) = here.element.flags flag

abbrev pub simple_holds : Document → List ℕ → ElementAt → Simple → Bool
simple_holds doc path here s = if s.negated then not (test_holds doc path here s.test) else test_holds doc path here s.test

abbrev pub compound_holds : Document → List ℕ → List Simple → Bool
compound_holds doc path simples = some_passes (λ here. list_all (simple_holds doc path here) simples) (element_at doc path)

-- the paths of the proper ancestors
abbrev pub ancestors : List ℕ → List (List ℕ)
ancestors [] = []
ancestors (i ∷ path) = [] ∷ map (λ other. i ∷ other) (ancestors path)

-- the paths that come from a path by putting others in place of its last index
abbrev pub change_last : (ℕ → List (List ℕ)) → List ℕ → List (List ℕ)
change_last change [] = []
change_last change (i ∷ []) = change i
change_last change (i ∷ j ∷ path) = map (λ other. i ∷ other) (change_last change (j ∷ path))

-- the index before
abbrev pub one_before : ℕ → List (List ℕ)
one_before zero = []
one_before (suc i) = (i ∷ []) ∷ []

-- all indexes before
abbrev pub all_before : ℕ → List (List ℕ)
all_before zero = []
all_before (suc i) = (i ∷ []) ∷ all_before i

-- the paths that a combinator allows
abbrev pub allowed : Combinator → List ℕ → List (List ℕ)
allowed Inside path = ancestors path
allowed Child path = change_last (λ i. [] ∷ []) path
allowed Next path = change_last one_before path
allowed Later path = change_last all_before path

abbrev pub matches_from : Document → List (List Simple) → List Combinator → List ℕ → Bool
matches_from doc [] links path = false
matches_from doc (c ∷ []) links path = compound_holds doc path c
matches_from doc (c ∷ d ∷ cs) [] path = false
matches_from doc (c ∷ d ∷ cs) (link ∷ links) path =
    compound_holds doc path c && list_any (λ other. matches_from doc (d ∷ cs) links other) (allowed link path)

abbrev pub same_pseudo : Option Pseudo → Option Pseudo → Bool
same_pseudo None None = true
same_pseudo (Some FirstLine) (Some FirstLine) = true
same_pseudo (Some FirstLetter) (Some FirstLetter) = true
same_pseudo (Some Before) (Some Before) = true
same_pseudo (Some After) (Some After) = true
same_pseudo _ _ = false

-- whether a selector matches a target
abbrev pub matches : Document → Target → SelectorParts → Bool
matches doc target selector = same_pseudo target.pseudo selector.pseudo && matches_from doc selector.chain selector.links target.path
