-- Selectors on small documents, with the answers of Selectors 3: each theorem is by computation.
use Rattle.std.proofs.Common.{◌≡◌, ℕ, zero, suc, Bool, true, false, List, [], ◌∷◌, Some, None, ℤ, pos, negsuc, refl, map}
use Rattle.std.specs.Prelude.{codes}
use Rattle.css_model.specs.declared.selector.Combinator.{Combinator}
use Rattle.css_model.specs.declared.selector.Combinator.TheVariants.{Inside, Child, Next, Later}
use Rattle.css_model.specs.declared.selector.Flag.{Flag}
use Rattle.css_model.specs.declared.selector.Flag.TheVariants.{Hover}
use Rattle.css_model.specs.declared.selector.Op.TheVariants.{Present, Equal, Word, Dash, Prefix, Suffix, Part}
use Rattle.css_model.specs.declared.selector.Pseudo.TheVariants.{Before, After}
use Rattle.css_model.specs.declared.selector.Simple.{Simple}
use Rattle.css_model.specs.declared.selector.Test.{Test}
use Rattle.css_model.specs.declared.selector.Test.TheVariants.{Any, Kind, Id, Attr, Nth, NthLast, OnlyChild, Root, Empty, State}
use Rattle.css_model.specs.Documents.Attribute.{passes}
use Rattle.css_model.specs.Documents.Document.{Attribute, Element, Siblings, none, first, Document, Target}
use Rattle.css_model.specs.Documents.Matching.{matches}
use Rattle.css_model.specs.Documents.SelectorParts.{SelectorParts}

-- ---- How to write documents and selectors

abbrev no_flags : Flag → Bool
no_flags flag = false

abbrev hovered : Flag → Bool
hovered Hover = true
hovered _ = false

-- an element of a type with attributes and no text
abbrev pub element : List ℕ → List Attribute → Element
element kind attributes = record { kind = kind; attributes = attributes; flags = no_flags; text = false }

abbrev pub attribute : List ℕ → List ℕ → Attribute
attribute name value = record { name = name; value = value }

abbrev pub document : Element → Siblings → Document
document root children = record { root = root; children = children; root_is_child = false }

abbrev pub at : List ℕ → Target
at path = record { path = path; pseudo = None }

abbrev pub plain : Test → Simple
plain test = record { negated = false; test = test }

abbrev pub but : Test → Simple
but test = record { negated = true; test = test }

-- a selector of one compound
abbrev pub simple : List Simple → SelectorParts
simple compound = record { chain = compound ∷ []; links = []; pseudo = None }

abbrev pub class : List ℕ → Test
class name = Attr (record { name = codes "class"; op = Word; value = name })

abbrev nth : ℤ → ℤ → Test
nth a b = Nth (record { a = a; b = b })

-- ---- Positions: section 6.6.5.2

-- `ul` with ten `li`
abbrev items : ℕ → Siblings
items zero = none
items (suc n) = first (element (codes "li") []) none (items n)

abbrev ten : Document
ten = document (element (codes "ul") []) (items 10)

-- which of the ten a test holds for
abbrev which : Test → List Bool
which test = map (λ i. matches ten (at (i ∷ [])) (simple (plain test ∷ []))) (0 ∷ 1 ∷ 2 ∷ 3 ∷ 4 ∷ 5 ∷ 6 ∷ 7 ∷ 8 ∷ 9 ∷ [])

-- `:nth-child(2n+1)`: the odd ones
odd : which (nth (pos 2) (pos 1)) ≡ true ∷ false ∷ true ∷ false ∷ true ∷ false ∷ true ∷ false ∷ true ∷ false ∷ []
odd = refl

-- `:nth-child(-n+3)`: the first three
first_three : which (nth (negsuc 0) (pos 3)) ≡ true ∷ true ∷ true ∷ false ∷ false ∷ false ∷ false ∷ false ∷ false ∷ false ∷ []
first_three = refl

-- `:nth-child(10n-1)`: the ninth
ninth : which (nth (pos 10) (negsuc 0)) ≡ false ∷ false ∷ false ∷ false ∷ false ∷ false ∷ false ∷ false ∷ true ∷ false ∷ []
ninth = refl

-- `:nth-child(10n+9)`: the ninth too
ninth_too : which (nth (pos 10) (pos 9)) ≡ which (nth (pos 10) (negsuc 0))
ninth_too = refl

-- `:nth-child(0n+5)`: the fifth
fifth : which (nth (pos 0) (pos 5)) ≡ false ∷ false ∷ false ∷ false ∷ true ∷ false ∷ false ∷ false ∷ false ∷ false ∷ []
fifth = refl

-- `:nth-child(-2n-1)`: none, since no place is below 1
no_place : which (nth (negsuc 1) (negsuc 0)) ≡ false ∷ false ∷ false ∷ false ∷ false ∷ false ∷ false ∷ false ∷ false ∷ false ∷ []
no_place = refl

-- `:nth-child(3n)`: the third, the sixth and the ninth
thirds : which (nth (pos 3) (pos 0)) ≡ false ∷ false ∷ true ∷ false ∷ false ∷ true ∷ false ∷ false ∷ true ∷ false ∷ []
thirds = refl

-- `:nth-last-child(-n+2)`: the last two (section 6.6.5.3)
last_two : which (NthLast (record { a = negsuc 0; b = pos 2 })) ≡ false ∷ false ∷ false ∷ false ∷ false ∷ false ∷ false ∷ false ∷ true ∷ true ∷ []
last_two = refl

-- `:only-child` holds for none of ten, and for one of one (section 6.6.5.10)
not_only : which OnlyChild ≡ false ∷ false ∷ false ∷ false ∷ false ∷ false ∷ false ∷ false ∷ false ∷ false ∷ []
not_only = refl

only : matches (document (element (codes "ul") []) (items 1)) (at (0 ∷ [])) (simple (plain OnlyChild ∷ [])) ≡ true
only = refl

-- ---- The root: section 6.6.5.1

root_is_root : matches ten (at []) (simple (plain Root ∷ [])) ≡ true
root_is_root = refl

item_is_no_root : matches ten (at (0 ∷ [])) (simple (plain Root ∷ [])) ≡ false
item_is_no_root = refl

-- the root has no parent, so it is no first child, unless the document counts it as one
root_is_no_child : matches ten (at []) (simple (plain (nth (pos 0) (pos 1)) ∷ [])) ≡ false
root_is_no_child = refl

root_is_child : matches (record { root = element (codes "ul") []; children = none; root_is_child = true }) (at []) (simple (plain (nth (pos 0) (pos 1)) ∷ plain OnlyChild ∷ [])) ≡ true
root_is_child = refl

root_is_no_second_child : matches (record { root = element (codes "ul") []; children = none; root_is_child = true }) (at []) (simple (plain (nth (pos 2) (pos 0)) ∷ [])) ≡ false
root_is_no_second_child = refl

-- ---- `:empty`: section 6.6.5.12

empty_item : matches ten (at (0 ∷ [])) (simple (plain Empty ∷ [])) ≡ true
empty_item = refl

list_is_not_empty : matches ten (at []) (simple (plain Empty ∷ [])) ≡ false
list_is_not_empty = refl

text_is_not_empty : matches (document (record { kind = codes "p"; attributes = []; flags = no_flags; text = true }) none) (at []) (simple (plain Empty ∷ [])) ≡ false
text_is_not_empty = refl

-- ---- Attributes: section 6.3

-- `a:not([href])` matches an anchor and no link
anchor : Document
anchor = document (element (codes "p") []) (first (element (codes "a") (attribute (codes "name") (codes "top") ∷ [])) none (first (element (codes "a") (attribute (codes "href") (codes "x.html") ∷ [])) none none))

abbrev no_href : SelectorParts
no_href = simple (plain (Kind (codes "a")) ∷ but (Attr (record { name = codes "href"; op = Present; value = [] })) ∷ [])

anchor_has_no_href : matches anchor (at (0 ∷ [])) no_href ≡ true
unfolding anchor
anchor_has_no_href = refl

link_has_href : matches anchor (at (1 ∷ [])) no_href ≡ false
unfolding anchor
link_has_href = refl

-- `[lang|=en]`: `en`, `en-US` and `en-cockney`, and not `english` or `de`
lang_en : map (passes Dash (codes "en")) (codes "en" ∷ codes "en-US" ∷ codes "en-cockney" ∷ codes "english" ∷ codes "de" ∷ []) ≡ true ∷ true ∷ true ∷ false ∷ false ∷ []
lang_en = refl

-- `[rel~=copyright]` in the words of a value; no word where it is part of one, empty or has white space
rel_copyright : map (passes Word (codes "copyright")) (codes "copyright copyleft copyeditor" ∷ codes "a copyright" ∷ codes "copyrighted" ∷ codes "x-copyright" ∷ [] ∷ []) ≡ true ∷ true ∷ false ∷ false ∷ false ∷ []
rel_copyright = refl

no_empty_word : map (passes Word []) ([] ∷ codes " " ∷ codes "a  b" ∷ []) ≡ false ∷ false ∷ false ∷ []
no_empty_word = refl

no_two_words : passes Word (codes "a b") (codes "a b") ≡ false
no_two_words = refl

-- tab and line feed part words, and no-break space does not
tab_parts_words : map (passes Word (codes "b")) ((97 ∷ 9 ∷ 98 ∷ 10 ∷ 99 ∷ []) ∷ (97 ∷ 160 ∷ 98 ∷ []) ∷ []) ≡ true ∷ false ∷ []
tab_parts_words = refl

-- `[type^="image/"]`, `[href$=".html"]`, `[title*="hello"]`; nothing begins with, ends with or contains the empty value (section 6.3.2)
image : map (passes Prefix (codes "image/")) (codes "image/png" ∷ codes "text/image/" ∷ []) ≡ true ∷ false ∷ []
image = refl

html : map (passes Suffix (codes ".html")) (codes "a.html" ∷ codes ".html" ∷ codes "a.html5" ∷ []) ≡ true ∷ true ∷ false ∷ []
html = refl

hello : map (passes Part (codes "hello")) (codes "say hello to" ∷ codes "hel lo" ∷ []) ≡ true ∷ false ∷ []
hello = refl

nothing_empty : map (λ op. passes op [] (codes "a")) (Prefix ∷ Suffix ∷ Part ∷ Equal ∷ Present ∷ []) ≡ false ∷ false ∷ false ∷ false ∷ true ∷ []
nothing_empty = refl

-- ---- Combinators: section 8

-- div#top with p, then ul with two li, in the second of which an em
abbrev page : Document
page = document (element (codes "div") (attribute (codes "id") (codes "top") ∷ []))
    (first (element (codes "p") []) none
    (first (element (codes "ul") (attribute (codes "class") (codes "nav main") ∷ []))
    (first (element (codes "li") []) none
    (first (record { kind = codes "li"; attributes = []; flags = hovered; text = true }) (first (element (codes "em") []) none none) none))
    none))

-- `ul > li + li`: the second item and not the first
abbrev second_item : SelectorParts
second_item = record { chain = (plain (Kind (codes "li")) ∷ []) ∷ (plain (Kind (codes "li")) ∷ []) ∷ (plain (Kind (codes "ul")) ∷ []) ∷ []; links = Next ∷ Child ∷ []; pseudo = None }

second_matches : matches page (at (1 ∷ 1 ∷ [])) second_item ≡ true
second_matches = refl

first_does_not : matches page (at (1 ∷ 0 ∷ [])) second_item ≡ false
first_does_not = refl

-- `#top em`: an ancestor at any height; `#top > em`: the parent alone
abbrev two : Test → Combinator → Test → SelectorParts
two left link right = record { chain = (plain right ∷ []) ∷ (plain left ∷ []) ∷ []; links = link ∷ []; pseudo = None }

em_inside : matches page (at (1 ∷ 1 ∷ 0 ∷ [])) (two (Id (codes "top")) Inside (Kind (codes "em"))) ≡ true
em_inside = refl

em_no_child : matches page (at (1 ∷ 1 ∷ 0 ∷ [])) (two (Id (codes "top")) Child (Kind (codes "em"))) ≡ false
em_no_child = refl

-- an element is not its own ancestor
not_itself : matches page (at []) (two (Id (codes "top")) Inside (Id (codes "top"))) ≡ false
not_itself = refl

-- `p ~ .nav`: a sibling before; `.nav ~ p`: none
nav_later : matches page (at (1 ∷ [])) (two (Kind (codes "p")) Later (class (codes "nav"))) ≡ true
nav_later = refl

p_is_first : matches page (at (0 ∷ [])) (two (class (codes "nav")) Later (Kind (codes "p"))) ≡ false
p_is_first = refl

-- `.nav.main`, in either order, and not `.na`
both_classes : map (λ names. matches page (at (1 ∷ [])) (simple (map (λ name. plain (class name)) names))) ((codes "nav" ∷ codes "main" ∷ []) ∷ (codes "main" ∷ codes "nav" ∷ []) ∷ (codes "na" ∷ []) ∷ []) ≡ true ∷ true ∷ false ∷ []
both_classes = refl

-- `li:hover`, and `li:not(:hover)` for the other item (section 6.6.7)
hover : map (λ i. matches page (at (1 ∷ i ∷ [])) (simple (plain (State Hover) ∷ []))) (0 ∷ 1 ∷ []) ≡ false ∷ true ∷ []
hover = refl

no_hover : map (λ i. matches page (at (1 ∷ i ∷ [])) (simple (but (State Hover) ∷ []))) (0 ∷ 1 ∷ []) ≡ true ∷ false ∷ []
no_hover = refl

-- `p::before` matches that pseudo-element, and neither the element nor another one (section 7)
abbrev before_p : SelectorParts
before_p = record { chain = (plain (Kind (codes "p")) ∷ []) ∷ []; links = []; pseudo = Some Before }

before_target : map (λ pseudo. matches page (record { path = 0 ∷ []; pseudo = pseudo }) before_p) (Some Before ∷ Some After ∷ None ∷ []) ≡ true ∷ false ∷ false ∷ []
before_target = refl

-- and `p` matches the element alone
element_target : map (λ pseudo. matches page (record { path = 0 ∷ []; pseudo = pseudo }) (simple (plain (Kind (codes "p")) ∷ []))) (Some Before ∷ None ∷ []) ≡ false ∷ true ∷ []
element_target = refl

-- no element stands at a path that leads out of the document
nowhere : matches page (at (7 ∷ [])) (simple (plain Any ∷ [])) ≡ false
nowhere = refl
