-- Small selectors, declarations and rules, as the examples use them.
use Rattle.std.proofs.Common.{ℕ, false, List, [], ◌∷◌, None, map}
use Rattle.std.specs.Prelude.{codes}
use Rattle.css_model.specs.Cascade.Order.{Pair}
use Rattle.css_model.specs.declared.selector.Combinator.TheVariants.{Inside}
use Rattle.css_model.specs.declared.selector.Op.TheVariants.{Word}
use Rattle.css_model.specs.declared.selector.Simple.{Simple}
use Rattle.css_model.specs.declared.selector.Test.{Test}
use Rattle.css_model.specs.declared.selector.Test.TheVariants.{Attr}
use Rattle.css_model.specs.declared.sheet.Decl.{Decl}
use Rattle.css_model.specs.declared.sheet.DeclItem.{DeclItem}
use Rattle.css_model.specs.declared.sheet.Item.{Item}
use Rattle.css_model.specs.declared.sheet.Item.TheVariants.{KeptBlock, KeptRule, Rule}
use Rattle.css_model.specs.declared.sheet.Piece.{Piece}
use Rattle.css_model.specs.declared.sheet.SelItem.{SelItem}
use Rattle.css_model.specs.Documents.FeatureParts.{FeatureParts}
use Rattle.css_model.specs.Documents.SelectorParts.{SelectorParts}
use Rattle.css_model.specs.Sheets.RuleParts.{RuleParts}

-- ---- Selectors

abbrev pub plain : Test → Simple
plain test = record { negated = false; test = test }

abbrev pub class : List ℕ → Test
class name = Attr (record { name = codes "class"; op = Word; value = name })

-- a selector of one test
abbrev pub simple : Test → SelectorParts
simple test = record { chain = (plain test ∷ []) ∷ []; links = []; pseudo = None }

-- a test of an element inside one of another test
abbrev pub inside : Test → Test → SelectorParts
inside outer inner = record { chain = (plain inner ∷ []) ∷ (plain outer ∷ []) ∷ []; links = Inside ∷ []; pseudo = None }

abbrev pub a_class : SelectorParts
a_class = simple (class (codes "a"))

abbrev pub b_class : SelectorParts
b_class = simple (class (codes "b"))

-- ---- Declarations

abbrev pub decl : List ℕ → List ℕ → Decl
decl name value = record { name = name; value = value; important = false }

abbrev pub top : Decl
top = decl (codes "top") (codes "0")

abbrev pub left : Decl
left = decl (codes "left") (codes "0")

abbrev pub red : Decl
red = decl (codes "color") (codes "red")

-- ---- Rules, without their places

abbrev pub piece : ℕ → ℕ → Piece
piece start «end» = record { start = start; «end» = «end» }

abbrev pub selects : SelectorParts → SelItem
selects selector = record { selector = selector; piece = piece 0 0 }

abbrev pub declares : Decl → DeclItem
declares d = record { decl = d; name = piece 0 0; value = piece 0 0 }

abbrev pub parts : List SelectorParts → List Decl → RuleParts
parts selectors decls = record { selectors = map selects selectors; decls = map declares decls }

abbrev pub rule : List SelectorParts → List Decl → Item
rule selectors decls = Rule (parts selectors decls)

-- a rule of one selector and one declaration
abbrev pub one : SelectorParts → Decl → Item
one selector d = rule (selector ∷ []) (d ∷ [])

abbrev pub pair : SelectorParts → Decl → Pair
pair selector d = record { selector = selector; decl = d }

-- a kept rule, and an at-rule
abbrev pub kept_rule : Decl → Item
kept_rule d = KeptRule (record { piece = piece 0 0; decls = d ∷ []; reason = 1 })

abbrev pub at_rule : Item
at_rule = KeptBlock (piece 0 0)

-- ---- Elements

abbrev pub features : List ℕ → FeatureParts
features kind = record { kind = kind; attrs = []; flags = 0; text = false }
