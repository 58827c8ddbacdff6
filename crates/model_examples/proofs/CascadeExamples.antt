-- Winners on small sheets, with the answers of CSS Cascading 3, section 6: each theorem is by
-- computation.
use Rattle.std.proofs.Common.{◌≡◌, ℕ, Bool, true, false, List, [], ◌∷◌, Option, Some, None, refl, map, zero, suc, ap, arith}
use Rattle.std.proofs.lemmas.Bool.{false≢true}
use Rattle.std.proofs.lemmas.List.Elements.{All-cons, All-nil, All-head}
use Rattle.std.specs.Cmp.Lexicographic.{bytes_decides}
use Rattle.std.specs.List.{Contains}
use Rattle.std.specs.Prelude.{codes}
use Rattle.model_examples.proofs.MatchingExamples.{element, attribute, document, at, plain, but, simple, class}
use Rattle.css_model.specs.declared.selector.Combinator.TheVariants.{Inside}
use Rattle.css_model.specs.declared.selector.Pseudo.TheVariants.{Before}
use Rattle.css_model.specs.declared.selector.Specificity.{Specificity}
use Rattle.css_model.specs.declared.selector.Test.TheVariants.{Any, Kind, Id, Root}
use Rattle.css_model.specs.declared.sheet.Decl.{Decl}
use Rattle.css_model.specs.declared.sheet.Item.{Item}
use Rattle.css_model.specs.declared.sheet.Item.TheVariants.{Rule, KeptRule, KeptBlock}
use Rattle.css_model.specs.declared.sheet.Piece.{Piece}
use Rattle.css_model.specs.Cascade.Winner.{AreMeanings, Declared, Understood, Winner, winner}
use Rattle.css_model.specs.Documents.Document.{none, first, Document, Target}
use Rattle.css_model.specs.Documents.SelectorParts.{SelectorParts}
use Rattle.css_model.specs.Documents.Specificity.{specificity_of}

-- ---- How to write sheets

abbrev nowhere : Piece
nowhere = record { start = 0; end = 0 }

abbrev decl : List ℕ → List ℕ → Bool → Decl
decl name value important = record { name = name; value = value; important = important }

-- a rule of selectors and declarations
abbrev rule : List SelectorParts → List Decl → Item
rule selectors decls = Rule (record { selectors = map (λ s. record { selector = s; piece = nowhere }) selectors; decls = map (λ d. record { decl = d; name = nowhere; value = nowhere }) decls })

abbrev understands : List ℕ → List ℕ → Understood
understands name value = record { name = name; value = value }

abbrev count : ℕ → ℕ → ℕ → Specificity
count a b c = record { a = a; b = b; c = c }

abbrev won : List ℕ → List ℕ → Bool → Specificity → Option Winner
won name value important specificity = Some (record { name = name; value = value; important = important; specificity = specificity })

-- `color`, and what a browser understands of it here
abbrev color : List ℕ → Decl
color value = decl (codes "color") value false

abbrev colors : List Understood
colors = understands (codes "color") (codes "red") ∷ understands (codes "color") (codes "blue") ∷ understands (codes "color") (codes "lime") ∷ []

-- ---- The document: div with p.note#first and p
abbrev page : Document
page = document (element (codes "div") [])
    (first (element (codes "p") (attribute (codes "class") (codes "note") ∷ attribute (codes "id") (codes "first") ∷ [])) none
    (first (element (codes "p") []) none none))

abbrev noted : Target
noted = at (0 ∷ [])

abbrev other : Target
other = at (1 ∷ [])

abbrev p : SelectorParts
p = simple (plain (Kind (codes "p")) ∷ [])

abbrev note : SelectorParts
note = simple (plain (class (codes "note")) ∷ [])

abbrev first_id : SelectorParts
first_id = simple (plain (Id (codes "first")) ∷ [])

-- ---- Order of appearance

-- `p{color:red}p{color:blue}`: the later one
later : winner page noted [] (rule (p ∷ []) (color (codes "red") ∷ []) ∷ rule (p ∷ []) (color (codes "blue") ∷ []) ∷ []) colors ≡ won (codes "color") (codes "blue") false (count 0 0 1)
later = refl

-- in one rule too
later_in_rule : winner page noted [] (rule (p ∷ []) (color (codes "red") ∷ color (codes "blue") ∷ []) ∷ []) colors ≡ won (codes "color") (codes "blue") false (count 0 0 1)
later_in_rule = refl

-- what a browser does not understand counts for nothing: `p{color:red;color:oklch(1 0 0)}`
fallback : winner page noted [] (rule (p ∷ []) (color (codes "red") ∷ color (codes "oklch(1 0 0)") ∷ []) ∷ []) colors ≡ won (codes "color") (codes "red") false (count 0 0 1)
fallback = refl

-- ---- Specificity

-- `.note{color:red}p{color:blue}`: a class is above a type, whatever comes later
class_over_type : winner page noted [] (rule (note ∷ []) (color (codes "red") ∷ []) ∷ rule (p ∷ []) (color (codes "blue") ∷ []) ∷ []) colors ≡ won (codes "color") (codes "red") false (count 0 1 0)
class_over_type = refl

-- but where the class does not match, the type wins
other_paragraph : winner page other [] (rule (note ∷ []) (color (codes "red") ∷ []) ∷ rule (p ∷ []) (color (codes "blue") ∷ []) ∷ []) colors ≡ won (codes "color") (codes "blue") false (count 0 0 1)
other_paragraph = refl

-- an id is above any number of classes
id_over_classes : winner page noted [] (rule (first_id ∷ []) (color (codes "red") ∷ []) ∷ rule (simple (plain (class (codes "note")) ∷ plain (class (codes "note")) ∷ plain (Kind (codes "p")) ∷ []) ∷ []) (color (codes "blue") ∷ []) ∷ []) colors
    ≡ won (codes "color") (codes "red") false (count 1 0 0)
id_over_classes = refl

-- of several selectors of one rule the most specific one that matches counts: `p,.note,#x{color:red}p.note..`
of_several : winner page noted [] (rule (p ∷ note ∷ simple (plain (Id (codes "x")) ∷ []) ∷ []) (color (codes "red") ∷ []) ∷ rule (p ∷ []) (color (codes "blue") ∷ []) ∷ []) colors ≡ won (codes "color") (codes "red") false (count 0 1 0)
of_several = refl

-- `:not(#x)` is as specific as `#x`
not_x : winner page noted [] (rule (simple (but (Id (codes "x")) ∷ []) ∷ []) (color (codes "red") ∷ []) ∷ rule (note ∷ []) (color (codes "blue") ∷ []) ∷ []) colors ≡ won (codes "color") (codes "red") false (count 1 0 0)
not_x = refl

-- `*` is less than anything else: `p{color:red}*{color:blue}`
star : winner page noted [] (rule (p ∷ []) (color (codes "red") ∷ []) ∷ rule (simple (plain Any ∷ []) ∷ []) (color (codes "blue") ∷ []) ∷ []) colors ≡ won (codes "color") (codes "red") false (count 0 0 1)
star = refl

-- ---- Importance

-- `p{color:red!important}#first{color:blue}`: importance comes before specificity
important : winner page noted [] (rule (p ∷ []) (decl (codes "color") (codes "red") true ∷ []) ∷ rule (first_id ∷ []) (color (codes "blue") ∷ []) ∷ []) colors ≡ won (codes "color") (codes "red") true (count 0 0 1)
important = refl

-- of two important ones the more specific one
both_important : winner page noted [] (rule (first_id ∷ []) (decl (codes "color") (codes "blue") true ∷ []) ∷ rule (p ∷ []) (decl (codes "color") (codes "red") true ∷ []) ∷ []) colors ≡ won (codes "color") (codes "blue") true (count 1 0 0)
both_important = refl

-- ---- What does not apply

-- no rule matches, or nothing is understood
nothing_matches : winner page noted [] (rule (simple (plain (Kind (codes "em")) ∷ []) ∷ []) (color (codes "red") ∷ []) ∷ []) colors ≡ None
nothing_matches = refl

nothing_understood : winner page noted [] (rule (p ∷ []) (color (codes "red") ∷ []) ∷ []) [] ≡ None
nothing_understood = refl

-- `p::before{color:red}p{color:blue}`: the pseudo-element and the element are two targets
before_p : winner page (record { path = 1 ∷ []; pseudo = Some Before }) [] (rule (record { chain = (plain (Kind (codes "p")) ∷ []) ∷ []; links = []; pseudo = Some Before } ∷ []) (color (codes "red") ∷ []) ∷ rule (p ∷ []) (color (codes "blue") ∷ []) ∷ []) colors
    ≡ won (codes "color") (codes "red") false (count 0 0 2)
before_p = refl

p_itself : winner page other [] (rule (record { chain = (plain (Kind (codes "p")) ∷ []) ∷ []; links = []; pseudo = Some Before } ∷ []) (color (codes "red") ∷ []) ∷ rule (p ∷ []) (color (codes "blue") ∷ []) ∷ []) colors
    ≡ won (codes "color") (codes "blue") false (count 0 0 1)
p_itself = refl

-- ---- Shorthands and longhands: both may set one longhand

-- `p{margin-top:1px}p{margin:0}` sets the top margin by the shorthand
shorthand : winner page noted [] (rule (p ∷ []) (decl (codes "margin-top") (codes "1px") false ∷ []) ∷ rule (p ∷ []) (decl (codes "margin") (codes "0") false ∷ []) ∷ [])
    (understands (codes "margin") (codes "0") ∷ understands (codes "margin-top") (codes "1px") ∷ [])
    ≡ won (codes "margin") (codes "0") false (count 0 0 1)
shorthand = refl

-- ---- Kept items

-- a block that is kept stands between two rules and applies what it applies, at its place
kept_between : winner page noted ((record { decl = color (codes "lime"); specificity = count 0 0 1 } ∷ []) ∷ []) (rule (p ∷ []) (color (codes "red") ∷ []) ∷ KeptBlock nowhere ∷ []) colors
    ≡ won (codes "color") (codes "lime") false (count 0 0 1)
kept_between = refl

kept_before : winner page noted ((record { decl = color (codes "lime"); specificity = count 0 0 1 } ∷ []) ∷ []) (KeptBlock nowhere ∷ rule (p ∷ []) (color (codes "red") ∷ []) ∷ []) colors
    ≡ won (codes "color") (codes "red") false (count 0 0 1)
kept_before = refl

-- ---- Specificities: the examples of Selectors 3, section 9
s12 : specificity_of (simple (plain (Id (codes "s12")) ∷ but (Kind (codes "foo")) ∷ [])) ≡ count 1 0 1
s12 = refl

li_red_level : specificity_of (simple (plain (Kind (codes "li")) ∷ plain (class (codes "red")) ∷ plain (class (codes "level")) ∷ [])) ≡ count 0 2 1
li_red_level = refl

universal : specificity_of (simple (plain Any ∷ [])) ≡ count 0 0 0
universal = refl

root_before : specificity_of (record { chain = (plain Root ∷ []) ∷ []; links = []; pseudo = Some Before }) ≡ count 0 1 1
root_before = refl

-- `#a .b c::before`, `:not(#a)` and `*`
of_three : specificity_of (record {
  chain = (plain (Kind (codes "c")) ∷ []) ∷ (plain (class (codes "b")) ∷ []) ∷ (plain (Id (codes "a")) ∷ []) ∷ [];
  links = Inside ∷ Inside ∷ [];
  pseudo = Some Before;
}) ≡ count 1 1 2
of_three = refl

not_id : specificity_of (simple (but (Id (codes "a")) ∷ [])) ≡ count 1 0 0
not_id = refl

-- ---- What kept items may mean

-- a kept rule applies its own declarations, in any number, and no other ones
abbrev kept_rule : Item
kept_rule = KeptRule (record { piece = nowhere; decls = color (codes "red") ∷ []; reason = 1 })

abbrev means : List ℕ → List (List Declared)
means value = (record { decl = color value; specificity = count 0 1 0 } ∷ []) ∷ []

own_declaration : AreMeanings (kept_rule ∷ []) (means (codes "red"))
own_declaration = (All-cons (λ (e : Declared). Contains (color (codes "red") ∷ []) e.decl) (record { decl = color (codes "red"); specificity = count 0 1 0 }) [] (0, omega arith, refl) (All-nil (λ (e : Declared). Contains (color (codes "red") ∷ []) e.decl)), tt)

foreign_declaration : AreMeanings (kept_rule ∷ []) (means (codes "blue")) → ⊥
foreign_declaration h = foreign (All-head (λ (e : Declared). Contains (color (codes "red") ∷ []) e.decl) (record { decl = color (codes "blue"); specificity = count 0 1 0 }) [] h.0)
  where
    foreign : Contains (color (codes "red") ∷ []) (color (codes "blue")) → ⊥
    foreign (zero, l, e) = false≢true ((bytes_decides (codes "red") (codes "blue")).1 (ap (λ (d : Decl). d.value) e))
    foreign (suc k, l, e) = absurd (omega arith)

-- rules have no meaning of that kind
rules_have_none : AreMeanings (rule (p ∷ []) (color (codes "red") ∷ []) ∷ []) []
rules_have_none = tt
