-- How the examples write sheets, and a document whose root has two classes.
use lib.Utf8.{scalar}
use Rattle.std.proofs.Common.{◌≡◌, ◌≢◌, ℕ, Bool, true, false, List, [], ◌∷◌, map, None, refl, arith}
use Rattle.std.specs.Char.{IsScalar}
use Rattle.std.specs.List.{AllPairs, list_all}
use Rattle.std.specs.Prelude.{codes}
use Rattle.std.proofs.lemmas.Bool.{false≢true}
use Rattle.std.proofs.lemmas.Bool.Decides.{Decides-by_and}
use Rattle.std.proofs.lemmas.List.Elements.{All-cons, All-nil}
use Rattle.css_model.specs.declared.selector.Flag.{Flag}
use Rattle.css_model.specs.declared.selector.Op.TheVariants.{Word}
use Rattle.css_model.specs.declared.selector.Test.{Test}
use Rattle.css_model.specs.declared.selector.Test.TheVariants.{Attr, Kind}
use Rattle.css_model.specs.declared.sheet.Decl.{Decl}
use Rattle.css_model.specs.declared.sheet.Item.{Item}
use Rattle.css_model.specs.declared.sheet.Item.TheVariants.{Rule, KeptRule, KeptBlock}
use Rattle.css_model.specs.declared.sheet.Piece.{Piece}
use Rattle.css_model.specs.Documents.Document.{Attribute, none, Document, Target, IsText, IsLegalElement, IsLegal}
use Rattle.css_model.specs.Sheets.RuleParts.{RuleParts}
use Rattle.css_model.specs.Documents.SelectorParts.{SelectorParts}

-- ---- Selectors, declarations and items

abbrev selector_of_one : Test → SelectorParts
selector_of_one test = record { chain = (record { negated = false; test = test } ∷ []) ∷ []; links = []; pseudo = None }

abbrev pub class : List ℕ → SelectorParts
class name = selector_of_one (Attr (record { name = codes "class"; op = Word; value = name }))

-- `.a`, `.b` and `div`
abbrev pub a : SelectorParts
a = class (codes "a")

abbrev pub b : SelectorParts
b = class (codes "b")

abbrev pub div : SelectorParts
div = selector_of_one (Kind (codes "div"))

abbrev pub decl : List ℕ → List ℕ → Decl
decl name value = record { name = name; value = value; important = false }

abbrev pub important : Decl → Decl
important d = record d { important = true }

abbrev pub red : Decl
red = decl (codes "color") (codes "red")

abbrev pub blue : Decl
blue = decl (codes "color") (codes "blue")

abbrev pub top : List ℕ → Decl
top value = decl (codes "top") value

abbrev pub nowhere : Piece
nowhere = record { start = 0; end = 0 }

abbrev pub rule_of : List SelectorParts → List Decl → RuleParts
rule_of selectors decls = record {
  selectors = map (λ s. record { selector = s; piece = nowhere }) selectors;
  decls = map (λ d. record { decl = d; name = nowhere; value = nowhere }) decls;
}

abbrev pub rule : SelectorParts → List Decl → Item
rule s decls = Rule (rule_of (s ∷ []) decls)

abbrev pub kept_rule : List Decl → Item
kept_rule decls = KeptRule (record { piece = nowhere; decls = decls; reason = 1 })

abbrev pub kept_block : Item
kept_block = KeptBlock nowhere

-- ---- `<div class="a b"></div>`

abbrev no_flags : Flag → Bool
no_flags flag = false

abbrev classes : Attribute
classes = record { name = codes "class"; value = codes "a b" }

abbrev pub page : Document
page = record { root = record { kind = codes "div"; attributes = classes ∷ []; flags = no_flags; text = false }; children = none; root_is_child = false }

abbrev pub root : Target
root = record { path = []; pseudo = None }

text : (numbers : List ℕ) → list_all scalar numbers ≡ true → IsText numbers
text numbers h = (Decides-by_and scalar IsScalar (list_all scalar) (λ c. (λ g. g, λ g. g)) refl (λ _ _. refl) numbers).0 h

single : {X : Type 0} (R : X → X → Type 0) (x : X) → AllPairs R (x ∷ [])
single R x i j d l m = absurd (omega arith)

pub page_is_legal : IsLegal page
page_is_legal = record {
  elements = All-cons IsLegalElement page.root [] (record {
    kind = text (codes "div") refl;
    attributes = All-cons (λ (x : Attribute). IsText x.name × IsText x.value) classes [] (text (codes "class") refl, text (codes "a b") refl) (All-nil (λ (x : Attribute). IsText x.name × IsText x.value));
    names = single (λ (x y : Attribute). x.name ≢ y.name) classes;
    links = λ h g. false≢true h;
    controls = λ h g. false≢true h;
  }) (All-nil IsLegalElement);
  ids = λ i j d l m. absurd (omega arith);
}
