-- What is held as selectors are asked for, one after the other.
use Rattle.std.proofs.Common.{◌≡◌, ℕ, ◌+◌, ◌<◌, List, [], ◌∷◌, ◌++◌, length, take, get_or, append-nil, append_assoc, refl, sym, ap, subst, ◌∙◌}
use Rattle.std.specs.List.{All, Contains}
use Rattle.std.proofs.lemmas.List.{take_more}
use Rattle.std.proofs.lemmas.List.Elements.{All-append, All-nil, All-push, All-weaker, Contains-append_left}
use Rattle.css_model.specs.Documents.SelectorParts.{SelectorParts}
use Rattle.dead_sel.specs.Living.{every}
use Rattle.overlap.specs.PairsParts.{Answered, PairsParts}
use Rattle.overlap.specs.Remembered.{Asks, IsHeld}
use Rattle.lint_text.specs.Asking.{AreHeld, AsksEach, IsOfOne}

pub asks_none : (p : PairsParts) (selectors : List SelectorParts) → AsksEach p p selectors
asks_none p selectors = record { budget = refl; more = []; is = sym (append-nil p.answers); only = All-nil (IsOfOne selectors) }

pub asks_one : (p q r : PairsParts) (selectors : List SelectorParts) (s : SelectorParts) → Contains selectors s → AsksEach p q selectors → Asks q r s (every s.pseudo) → AsksEach p r selectors
asks_one p q r selectors s among h a = record {
  budget = a.budget ∙ h.budget;
  more = h.more ++ a.more;
  is = a.is ∙ ap (λ (xs : List Answered). xs ++ a.more) h.is ∙ append_assoc p.answers h.more a.more;
  only = All-append (IsOfOne selectors) h.more a.more h.only
      (All-weaker (λ (e : Answered). (e.left ≡ s) × (e.right ≡ every s.pseudo)) (IsOfOne selectors) (λ e is. (s, among, is.0, is.1)) a.more a.only);
}

-- what is held is held when more was asked for
stays : (q r : PairsParts) (x y : SelectorParts) → Asks q r x y → (s : SelectorParts) → IsHeld q.answers s (every s.pseudo) → IsHeld r.answers s (every s.pseudo)
stays q r x y a s h = (
  h.0,
  subst (λ (answers : List Answered). Contains answers (record { left = s; right = every s.pseudo; answer = h.0 })) (sym a.is)
      (Contains-append_left q.answers a.more (record { left = s; right = every s.pseudo; answer = h.0 }) h.1),
)

-- the next one of some selectors
pub held_next : (q r : PairsParts) (selectors : List SelectorParts) (i : ℕ) (s : SelectorParts) → i < length selectors → s ≡ get_or selectors i s →
    AreHeld q.answers (take i selectors) → Asks q r s (every s.pseudo) → IsHeld r.answers s (every s.pseudo) → AreHeld r.answers (take (i + 1) selectors)
held_next q r selectors i s below at h a new =
    let Held : SelectorParts → Type 0 = λ x. IsHeld r.answers x (every x.pseudo) in
    let before : All Held (take i selectors) = All-weaker (λ (x : SelectorParts). IsHeld q.answers x (every x.pseudo)) Held (stays q r s (every s.pseudo) a) (take i selectors) h in
    let more : take i selectors ++ s ∷ [] ≡ take (i + 1) selectors = ap (λ (x : SelectorParts). take i selectors ++ x ∷ []) at ∙ sym (take_more selectors i s below) in
    subst (λ (xs : List SelectorParts). All Held xs) more (All-push Held (take i selectors) s before new)
