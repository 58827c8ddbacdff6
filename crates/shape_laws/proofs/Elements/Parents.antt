-- Parents have children, so `:empty` does not hold of them.
use Rattle.std.proofs.Common.{Bool, List, None, Some, [], ap, arith, false, length, subst, sym, true, ℕ, ◌++◌, ◌+◌, ◌<◌, ◌∙◌, ◌∷◌, ◌≡◌, ◌≢◌}
use Rattle.std.proofs.lemmas.Bool.{false≢true}
use Rattle.std.proofs.lemmas.List.{append_assoc}
use Rattle.std.specs.Bool.{MatchBool}
use Rattle.css_model.specs.Documents.Document.{Document, ElementAt, element_at, element_below, none}
use Rattle.css_model.specs.Documents.Matching.{SimpleHolds}
use Rattle.css_model.specs.declared.selector.Simple.{Simple}
use Rattle.css_model.specs.declared.selector.Test.{Test}
use Rattle.css_model.specs.declared.selector.Test.TheVariants.{Any, Attr, Empty, Id, Kind, Nth, NthLast, OnlyChild, Root, State}
use Rattle.slot_plan.specs.ValidShape.{is_empty_test}
use Rattle.shape_laws.proofs.Elements.Siblings.{below_at}
use Rattle.shape_laws.proofs.Visits.Places.{IsPlace, Place, child, root}

-- a parent has children
parent_children : (doc : Document) (path : List ℕ) (here there : ElementAt) (i : ℕ) (rest : List ℕ) → element_at doc path ≡ Some here → element_at doc (path ++ i ∷ rest) ≡ Some there → here.children ≢ none
parent_children doc path here there i rest h t no_child = nothing (sym (below_at doc path here i rest h) ∙ t)
  where
    nothing : element_below here.children i rest ≡ Some there → ⊥
    nothing e = let n : None ≡ Some there = subst (λ s. element_below s i rest ≡ Some there) no_child e in cc

-- what one who asks for `:empty` sees
pub empty_seen : (doc : Document) (path : List ℕ) (here : ElementAt) (s : Simple) → is_empty_test s.test ≡ true → SimpleHolds doc path here s → MatchBool s.negated (((here.children ≡ none) × (here.element.text ≡ false)) → ⊥) ((here.children ≡ none) × (here.element.text ≡ false))
empty_seen doc path here s = by s.negated s.test
  where
    by : (n : Bool) (t : Test) → is_empty_test t ≡ true → SimpleHolds doc path here (record { negated = n; test = t }) → MatchBool n (((here.children ≡ none) × (here.element.text ≡ false)) → ⊥) ((here.children ≡ none) × (here.element.text ≡ false))
    by n Empty e h = h
    by n Any e h = absurd (false≢true e)
    by n (Kind name) e h = absurd (false≢true e)
    by n (Id name) e h = absurd (false≢true e)
    by n (Attr test) e h = absurd (false≢true e)
    by n (Nth x) e h = absurd (false≢true e)
    by n (NthLast x) e h = absurd (false≢true e)
    by n OnlyChild e h = absurd (false≢true e)
    by n Root e h = absurd (false≢true e)
    by n (State flag) e h = absurd (false≢true e)

-- a place on the line above the target has children
pub above_children : (doc : Document) (target : List ℕ) (there : ElementAt) (p : Place) (path : List ℕ) (here : ElementAt) → element_at doc target ≡ Some there → IsPlace target p path → element_at doc path ≡ Some here → p.left ≡ 0 → 0 < p.up → here.children ≢ none
above_children doc target there p path here e (root n l is) h left up = by target n e
  where
    by : (target : List ℕ) → length target ≡ p.up → element_at doc target ≡ Some there → here.children ≢ none
    by [] n e = absurd (omega arith)
    by (i ∷ rest) n e = parent_children doc [] here there i rest (ap (element_at doc) (sym is) ∙ h) e
above_children doc target there p path here e (child parent i below at n is) h left up = by below n at
  where
    by : (below : List ℕ) → length below ≡ p.up → target ≡ parent ++ (p.left + i) ∷ below → here.children ≢ none
    by [] n at = absurd (omega arith)
    by (j ∷ rest) n at = parent_children doc path here there j rest h
        (ap (element_at doc) (ap (λ o. o ++ j ∷ rest) is ∙ append_assoc parent (i ∷ []) (j ∷ rest) ∙ ap (λ (m : ℕ). parent ++ m ∷ (j ∷ rest)) (let w : i ≡ p.left + i = omega arith in w) ∙ sym at) ∙ e)
