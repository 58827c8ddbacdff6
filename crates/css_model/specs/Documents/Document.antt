-- Documents as Selectors 3 sees them: trees of elements. All texts are lists of code points. Names and
-- values compare code point by code point, there are no namespaces, and ids and classes are the
-- attributes `id` and `class` (own: Selectors 3, sections 3, 6.1.1, 6.3.3, 6.4 and 6.5, leave these to
-- the document language).
use Rattle.std.specs.Prelude.{◌≡◌, ◌≢◌, ℕ, zero, suc, Bool, true, if◌then◌else◌, List, [], ◌∷◌, ◌++◌, Option, Some, None, nat_eq, codes}
use Rattle.std.specs.List.{All, AllPairs, filter_map}
use Rattle.std.specs.Char.{IsScalar}
use Rattle.css_model.specs.declared.selector.Flag.{Flag}
use Rattle.css_model.specs.declared.selector.Flag.TheVariants.{Link, Visited, Enabled, Disabled}
use Rattle.css_model.specs.declared.selector.Pseudo.{Pseudo}
use Rattle.css_model.specs.Lists.{same_text}

-- an attribute of an element (Selectors 3, section 6.3)
pub record Attribute : Type 0 where
  pub name : List ℕ
  pub value : List ℕ

-- What an element has beside its children: its type (Selectors 3, section 6.1), its attributes
-- (section 6.3), the flags that the dynamic, target and user-interface pseudo-classes ask for (sections
-- 6.6.1, 6.6.2 and 6.6.4), and whether it has text of its own, be it white space alone, so that
-- `:empty` does not hold (section 6.6.5.12).
pub record Element : Type 0 where
  pub kind : List ℕ
  pub attributes : List Attribute
  pub flags : Flag → Bool
  pub text : Bool

-- Elements side by side below one parent, in order: the first one, with its own children, and its
-- later siblings (the document tree of Selectors 3, section 2).
pub data Siblings : Type 0 where
  none : Siblings
  first : (element : Element) (children later : Siblings) → Siblings

-- A document: its root element, the root's children, and whether the root counts as the only child
-- of a parent (own: Selectors 3 says that it does not, Selectors 4 that it does).
pub record Document : Type 0 where
  pub root : Element
  pub children : Siblings
  pub root_is_child : Bool

-- an element in its place, with its children and its later siblings (own)
pub record ElementAt : Type 0 where
  pub element : Element
  pub children : Siblings
  pub later : Siblings

-- the element that a path leads to, from elements side by side on: each number says how many
-- siblings to pass (own)
abbrev pub element_below : Siblings → ℕ → List ℕ → Option ElementAt
element_below none i path = None
element_below (first e children later) zero [] = Some (record { element = e; children = children; later = later })
element_below (first e children later) zero (j ∷ path) = element_below children j path
element_below (first e children later) (suc i) path = element_below later i path

-- The element at a path, the list of child indexes from the root down; the empty path is that of
-- the root (own).
abbrev pub element_at : Document → List ℕ → Option ElementAt
element_at doc [] = Some (record { element = doc.root; children = doc.children; later = none })
element_at doc (i ∷ path) = element_below doc.children i path

-- A target: an element by its path, or one of its pseudo-elements (Selectors 3, section 7).
pub record Target : Type 0 where
  pub path : List ℕ
  pub pseudo : Option Pseudo

-- the value of the attribute of a name, in a list of attributes (Selectors 3, section 6.3)
abbrev pub value_among : List Attribute → List ℕ → Option (List ℕ)
value_among [] name = None
value_among (a ∷ rest) name = if same_text a.name name then Some a.value else value_among rest name

-- the value of an element's attribute of a name, if it has one (Selectors 3, section 6.3)
abbrev pub attribute_value : Element → List ℕ → Option (List ℕ)
attribute_value e name = value_among e.attributes name

-- all elements below, each before its descendants and its later siblings (own)
abbrev pub elements_below : Siblings → List Element
elements_below none = []
elements_below (first e children later) = e ∷ elements_below children ++ elements_below later

-- all elements of a document, in document order (own)
abbrev pub elements_of : Document → List Element
elements_of doc = doc.root ∷ elements_below doc.children

-- a text that is not empty (own)
abbrev pub if_not_empty : Option (List ℕ) → Option (List ℕ)
if_not_empty None = None
if_not_empty (Some []) = None
if_not_empty (Some (c ∷ cs)) = Some (c ∷ cs)

-- the ids of a document's elements, without the empty ones (Selectors 3, section 6.5)
abbrev pub ids_of : Document → List (List ℕ)
ids_of doc = filter_map (λ e. if_not_empty (attribute_value e (codes "id"))) (elements_of doc)

-- each number is a scalar value: a code point that is no surrogate (CSS Syntax 3, section 3.3)
abbrev pub IsText : List ℕ → Type 0
IsText numbers = All IsScalar numbers

-- An element as a document may have it: its texts are texts, its attributes' names differ, and it is
-- not both an unvisited and a visited link (Selectors 3, section 6.6.1.1), nor both enabled and
-- disabled (section 6.6.4.1).
pub record IsLegalElement (e : Element) : Type 0 where
  pub kind : IsText e.kind
  pub attributes : All (λ a. IsText a.name × IsText a.value) e.attributes
  pub names : AllPairs (λ a b. a.name ≢ b.name) e.attributes
  pub links : e.flags Link ≡ true → e.flags Visited ≡ true → ⊥
  pub controls : e.flags Enabled ≡ true → e.flags Disabled ≡ true → ⊥

-- A legal document: its elements are legal, and no two have the same id (Selectors 3, section 6.5);
-- the empty id is none (own).
pub record IsLegal (doc : Document) : Type 0 where
  pub elements : All IsLegalElement (elements_of doc)
  pub ids : AllPairs ◌≢◌ (ids_of doc)
