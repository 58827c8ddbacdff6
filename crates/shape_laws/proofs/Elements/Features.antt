-- What holds of an element alone, and the elements of a document.
use Rattle.std.proofs.Common.{Bool, List, None, Some, [], ap, false, refl, subst, suc, sym, true, zero, ℕ, ◌++◌, ◌∷◌, ◌≡◌}
use Rattle.std.proofs.lemmas.Bool.{false≢true}
use Rattle.std.proofs.lemmas.List.Elements.{Contains-append_left, Contains-append_right}
use Rattle.std.specs.Bool.{MatchBool}
use Rattle.std.specs.List.{All}
use Rattle.std.specs.Prelude.{Contains}
use Rattle.css_model.specs.Documents.Document.{Document, ElementAt, IsLegalElement, Siblings, element_at, element_below, elements_below, elements_of, first, none}
use Rattle.css_model.specs.Documents.Features.{CanSuit, HoldsOf, PassesSimple, is_structural}
use Rattle.css_model.specs.Documents.Matching.{SimpleHolds, TestHolds}
use Rattle.css_model.specs.declared.selector.Simple.{Simple}
use Rattle.css_model.specs.declared.selector.Test.{Test}
use Rattle.css_model.specs.declared.selector.Test.TheVariants.{Any, Attr, Empty, Id, Kind, Nth, NthLast, OnlyChild, Root, State}
use Rattle.list_facts.proofs.Members.{Contains-here, Contains-there}
use Rattle.shape_laws.proofs.Elements.Siblings.{placed_same}

-- a test that is not structural says the same of an element alone
pub alone_same : (doc : Document) (path : List ℕ) (here : ElementAt) (t : Test) → is_structural t ≡ false → TestHolds doc path here t ≡ HoldsOf here.element t
alone_same doc path here Any plain = refl
alone_same doc path here (Kind name) plain = refl
alone_same doc path here (Id name) plain = refl
alone_same doc path here (Attr test) plain = refl
alone_same doc path here (State flag) plain = refl
alone_same doc path here (Nth x) plain = absurd (false≢true (sym plain))
alone_same doc path here (NthLast x) plain = absurd (false≢true (sym plain))
alone_same doc path here OnlyChild plain = absurd (false≢true (sym plain))
alone_same doc path here Root plain = absurd (false≢true (sym plain))
alone_same doc path here Empty plain = absurd (false≢true (sym plain))

-- so an element passes a simple selector that holds where it stands
passes_alone : (doc : Document) (path : List ℕ) (here : ElementAt) (s : Simple) → SimpleHolds doc path here s → PassesSimple here.element s
passes_alone doc path here s holds = by (is_structural s.test) refl
  where
    by : (b : Bool) → is_structural s.test ≡ b → MatchBool b (Unit {0}) (MatchBool s.negated (HoldsOf here.element s.test → ⊥) (HoldsOf here.element s.test))
    by true _ = tt
    by false plain = subst (λ P. MatchBool s.negated (P → ⊥) P) (alone_same doc path here s.test plain) holds

-- an element of which simple selectors hold shows that they can hold of one
pub suits_here : (doc : Document) (path : List ℕ) (here : ElementAt) (simples : List Simple) → IsLegalElement here.element → All (λ s. SimpleHolds doc path here s) simples → CanSuit simples
suits_here doc path here simples legal all = (here.element, legal, λ k d h. passes_alone doc path here _ (all k d h))

-- elements of a document
member_below : (s : Siblings) (k : ℕ) (p : List ℕ) (x : ElementAt) → element_below s k p ≡ Some x → Contains (elements_below s) x.element
member_below none k p x e = absurd (let n : None ≡ Some x = e in cc)
member_below (first f children later) zero [] x e = subst (λ g. Contains (f ∷ (elements_below children ++ elements_below later)) g) (ap (λ (r : ElementAt). r.element) (placed_same (record { element = f; children = children; later = later }) x e)) (Contains-here f (elements_below children ++ elements_below later))
member_below (first f children later) zero (j ∷ p) x e = Contains-there f (elements_below children ++ elements_below later) x.element (Contains-append_left (elements_below children) (elements_below later) x.element (member_below children j p x e))
member_below (first f children later) (suc k) p x e = Contains-there f (elements_below children ++ elements_below later) x.element (Contains-append_right (elements_below children) (elements_below later) x.element (member_below later k p x e))

-- and in a document
pub member_at : (doc : Document) (path : List ℕ) (x : ElementAt) → element_at doc path ≡ Some x → Contains (elements_of doc) x.element
member_at doc [] x e = subst (λ g. Contains (elements_of doc) g) (ap (λ (r : ElementAt). r.element) (placed_same (record { element = doc.root; children = doc.children; later = none }) x e)) (Contains-here doc.root (elements_below doc.children))
member_at doc (k ∷ p) x e = Contains-there doc.root (elements_below doc.children) x.element (member_below doc.children k p x e)
