-- Documents that are legal, and some that are not.
use lib.Utf8.{scalar}
use Rattle.std.proofs.Common.{◌≡◌, ◌≢◌, ℕ, zero, suc, Bool, true, false, List, [], ◌∷◌, refl, arith}
use Rattle.std.specs.Prelude.{codes}
use Rattle.std.specs.Char.{IsScalar}
use Rattle.std.specs.Cmp.Lexicographic.{bytes_decides}
use Rattle.std.specs.List.{AllPairs, list_all}
use Rattle.std.proofs.lemmas.Bool.{false≢true}
use Rattle.std.proofs.lemmas.Bool.Decides.{Decides-by_and}
use Rattle.std.proofs.lemmas.List.Elements.{All-cons, All-nil}
use Rattle.model_examples.proofs.MatchingExamples.{element, attribute, document}
use Rattle.css_model.specs.declared.selector.Flag.{Flag}
use Rattle.css_model.specs.declared.selector.Flag.TheVariants.{Link, Visited}
use Rattle.css_model.specs.Documents.Document.{Attribute, none, first, Document, IsText, IsLegalElement, IsLegal}

-- a test of texts
pub text : (numbers : List ℕ) → list_all scalar numbers ≡ true → IsText numbers
text numbers h = (Decides-by_and scalar IsScalar (list_all scalar) (λ c. (λ g. g, λ g. g)) refl (λ _ _. refl) numbers).0 h

-- two members that differ
pair : {X : Type 0} (R : X → X → Type 0) (x y : X) → R x y → AllPairs R (x ∷ y ∷ [])
pair R x y h zero zero d l m = absurd (omega arith)
pair R x y h zero (suc zero) d l m = h
pair R x y h zero (suc (suc j)) d l m = absurd (omega arith)
pair R x y h (suc i) j d l m = absurd (omega arith)

pub single : {X : Type 0} (R : X → X → Type 0) (x : X) → AllPairs R (x ∷ [])
single R x i j d l m = absurd (omega arith)

-- `<div id=a class=b><p id=b></p></div>`
abbrev small : Document
small = document (element (codes "div") (attribute (codes "id") (codes "a") ∷ attribute (codes "class") (codes "b") ∷ []))
    (first (element (codes "p") (attribute (codes "id") (codes "b") ∷ [])) none none)

-- a test of an attribute's texts
pub attribute_texts : (name value : List ℕ) → list_all scalar name ≡ true → list_all scalar value ≡ true → IsText name × IsText value
attribute_texts name value h g = (text name h, text value g)

div_is_legal : IsLegalElement small.root
div_is_legal = record {
  kind = text (codes "div") refl;
  attributes = All-cons (λ (a : Attribute). IsText a.name × IsText a.value) (attribute (codes "id") (codes "a")) (attribute (codes "class") (codes "b") ∷ []) (attribute_texts (codes "id") (codes "a") refl refl)
      (All-cons (λ (a : Attribute). IsText a.name × IsText a.value) (attribute (codes "class") (codes "b")) [] (attribute_texts (codes "class") (codes "b") refl refl) (All-nil (λ (a : Attribute). IsText a.name × IsText a.value)));
  names = pair (λ (a b : Attribute). a.name ≢ b.name) (attribute (codes "id") (codes "a")) (attribute (codes "class") (codes "b")) (λ e. false≢true ((bytes_decides (codes "id") (codes "class")).1 e));
  links = λ h g. false≢true h;
  controls = λ h g. false≢true h;
}

p_is_legal : IsLegalElement (element (codes "p") (attribute (codes "id") (codes "b") ∷ []))
p_is_legal = record {
  kind = text (codes "p") refl;
  attributes = All-cons (λ (a : Attribute). IsText a.name × IsText a.value) (attribute (codes "id") (codes "b")) [] (attribute_texts (codes "id") (codes "b") refl refl) (All-nil (λ (a : Attribute). IsText a.name × IsText a.value));
  names = single (λ (a b : Attribute). a.name ≢ b.name) (attribute (codes "id") (codes "b"));
  links = λ h g. false≢true h;
  controls = λ h g. false≢true h;
}

small_is_legal : IsLegal small
small_is_legal = record {
  elements = All-cons IsLegalElement small.root (element (codes "p") (attribute (codes "id") (codes "b") ∷ []) ∷ []) div_is_legal
      (All-cons IsLegalElement (element (codes "p") (attribute (codes "id") (codes "b") ∷ [])) [] p_is_legal (All-nil IsLegalElement));
  ids = pair (λ (a b : List ℕ). a ≢ b) (codes "a") (codes "b") (λ e. false≢true ((bytes_decides (codes "a") (codes "b")).1 e));
}

-- two elements with one id
abbrev twins : Document
twins = document (element (codes "div") (attribute (codes "id") (codes "a") ∷ [])) (first (element (codes "p") (attribute (codes "id") (codes "a") ∷ [])) none none)

twins_are_not_legal : IsLegal twins → ⊥
twins_are_not_legal h = h.ids 0 1 [] (omega arith) (omega arith) refl

-- an element that is a visited link and an unvisited one
both_links : Flag → Bool
both_links Link = true
both_links Visited = true
both_links _ = false

linked_twice_is_not_legal : IsLegalElement (record { kind = codes "a"; attributes = []; flags = both_links; text = false }) → ⊥
unfolding both_links
linked_twice_is_not_legal h = h.links refl refl
