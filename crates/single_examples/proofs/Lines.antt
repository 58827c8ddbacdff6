-- Features that fit two compounds may stand in a line, and suit the slot of both.
use Rattle.std.proofs.Common.{◌≡◌, ◌≢◌, ℕ, ◌<◌, Bool, false, not, ◌&&◌, List, [], ◌∷◌, ◌++◌, map, refl}
use Rattle.std.specs.List.{All}
use Rattle.std.proofs.lemmas.List.Elements.{All-head, All-tail, All-nil, All-cons}
use Rattle.css_model.specs.declared.selector.Simple.{Simple}
use Rattle.css_model.specs.Documents.Document.{Attribute, IsText, IsLegalElement}
use Rattle.css_model.specs.Documents.FeatureParts.{FeatureParts}
use Rattle.css_model.specs.Documents.Features.{element_of}
use Rattle.css_model.specs.Documents.RunDocuments.{AreRunFeatures}
use Rattle.compound_fit.specs.Fitting.{AreFeatures}
use Rattle.shape_laws.specs.Document.SlotElements.{SuitsSlot}
use Rattle.element_laws.proofs.ForCallers.{kind_full, names_full, suits_same}
use Rattle.element_laws.specs.Names.{HaveNames}
use Rattle.single_examples.specs.Examples.{with_text}

texts_of : (attrs : List (List ℕ × List ℕ)) → All (λ (a : Attribute). IsText a.name × IsText a.value) (map (λ (a : List ℕ × List ℕ). record { name = a.0; value = a.1 }) attrs) → All (λ a. IsText a.0 × IsText a.1) attrs
texts_of [] h = All-nil (λ (a : List ℕ × List ℕ). IsText a.0 × IsText a.1)
texts_of (a ∷ attrs) h =
    All-cons (λ (a : List ℕ × List ℕ). IsText a.0 × IsText a.1) a attrs
    (All-head (λ (a : Attribute). IsText a.name × IsText a.value) (record { name = a.0; value = a.1 }) (map (λ (a : List ℕ × List ℕ). record { name = a.0; value = a.1 }) attrs) h)
    (texts_of attrs (All-tail (λ (a : Attribute). IsText a.name × IsText a.value) (record { name = a.0; value = a.1 }) (map (λ (a : List ℕ × List ℕ). record { name = a.0; value = a.1 }) attrs) h))

written : (f : FeatureParts) (simples : List Simple) → HaveNames simples → AreFeatures f simples → AreRunFeatures (with_text f simples)
written f simples named h = record {
  kind = (h.legal.kind, kind_full f.kind simples named h.kind);
  attributes = λ k d l. (let t = texts_of f.attrs h.legal.attributes k d l in (t.0, names_full f.attrs simples named h.attributes k d l, t.1));
  ascending = h.attributes.ascending;
  flags = h.few;
}

pub suits_slot : (f : FeatureParts) (simples : List Simple) → HaveNames simples → AreFeatures f simples → SuitsSlot false simples (with_text f simples)
suits_slot f simples named h = record {
  suits = suits_same simples (element_of f) (element_of (with_text f simples)) refl refl refl h.suits;
  legal = record { kind = h.legal.kind; attributes = h.legal.attributes; names = h.legal.names; links = h.legal.links; controls = h.legal.controls };
  text = refl;
  written = written f simples named h;
}
