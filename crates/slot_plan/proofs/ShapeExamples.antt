-- A pair of selectors with a shape, and one without.
use lib.Utf8.{scalar}
use Rattle.std.proofs.Common.{◌≡◌, ◌⊎◌, ◌<◌, ◌≤◌, ℕ, zero, suc, Bool, true, false, List, [], ◌∷◌, length, None, pos, refl, sym, ap, ◌∙◌, subst, inl, inr, arith}
use Rattle.std.specs.Prelude.{Contains, codes, ◌&&◌, ◌==◌, slice_index}
use Rattle.std.specs.Char.{IsScalar}
use Rattle.std.specs.List.{All, filter_map, list_all}
use Rattle.std.proofs.lemmas.Bool.{false≢true, eqb-true}
use Rattle.std.proofs.lemmas.Bool.Decides.{Decides-by_and}
use Rattle.std.proofs.lemmas.List.Elements.{All-cons, All-nil, All-contains, Contains-append_right}
use Rattle.list_facts.proofs.Members.{Contains-here, Contains-there, Contains-nil}
use Rattle.css_model.specs.declared.selector.Combinator.TheVariants.{Child, Next}
use Rattle.css_model.specs.declared.selector.Simple.{Simple}
use Rattle.css_model.specs.declared.selector.Test.TheVariants.{Kind, NthLast, Root}
use Rattle.css_model.specs.Documents.Document.{Attribute, Element, IsLegalElement, IsText}
use Rattle.css_model.specs.Documents.Features.{CanSuit, PassesSimple}
use Rattle.css_model.specs.Documents.SelectorParts.{SelectorParts}
use Rattle.slot_plan.specs.declared.shape.SlotStep.TheVariants.{NextTo, UpOne}
use Rattle.slot_plan.specs.Positions.{PositionFits}
use Rattle.slot_plan.specs.ShapeParts.{ShapeParts}
use Rattle.slot_plan.specs.ValidShape.{ValidShape, SlotsOf, simples_in, simples_at, is_root_slot, is_empty_test, asked_id, EmptyFits}
use Rattle.slot_plan.specs.Steps.{is_parent}

abbrev named : List ℕ → Simple
named name = record { negated = false; test = Kind name }

-- `a>b` and `:root`
abbrev child : SelectorParts
child = record { chain = (named (codes "b") ∷ []) ∷ (named (codes "a") ∷ []) ∷ []; links = Child ∷ []; pseudo = None }

abbrev root_test : Simple
root_test = record { negated = false; test = Root }

abbrev root : SelectorParts
root = record { chain = (root_test ∷ []) ∷ []; links = []; pseudo = None }

-- no child is the root: slot 0 would be the last one
child_is_no_root : (shape : ShapeParts) → ValidShape child root shape → ⊥
child_is_no_root shape v = by shape.left shape.right refl refl v.left v.right
  where
    by : (left right : List ℕ) → shape.left ≡ left → shape.right ≡ right → SlotsOf child.chain child.links shape.steps left → SlotsOf root.chain root.links shape.steps right → ⊥
    by [] right l r h g = h
    by (p ∷ left) [] l r h g = g
    by (p ∷ []) (q ∷ right) l r h g = let n : length (p ∷ []) ≡ 2 = h.2 in omega arith
    by (p ∷ p' ∷ left) (q ∷ right) l r h g =
        let inside = v.inside p' (inl (subst (λ slots. Contains slots p') (sym l) (Contains-there p (p' ∷ left) p' (Contains-here p' left)))) in
        let less : p < p' = h.1.0 in
        let all = v.positions 0 (omega arith) in
        let here : Contains (simples_at root.chain shape.right 0) root_test = subst (λ slots. Contains (simples_at root.chain slots 0) root_test) (sym (r ∙ ap (λ (m : ℕ). m ∷ right) g.0)) (Contains-here root_test []) in
        let fits = All-contains (PositionFits (is_root_slot shape 0) shape.root_is_child (slice_index shape.before 0) (slice_index shape.after 0)) (simples_in child root shape 0) root_test all (Contains-append_right (simples_at child.chain shape.left 0) (simples_at root.chain shape.right 0) root_test here) in
        last shape.top_is_root (length shape.steps) (fits refl) (omega arith)
      where
        last : (top : Bool) (n : ℕ) → (top && (0 == n)) ≡ true → 0 < n → ⊥
        last true n e some = let z : 0 ≡ n = eqb-true 0 n e in omega arith
        last false n e some = false≢true e

-- `ul>li+li` and `li:last-child`
abbrev second_item : SelectorParts
second_item = record { chain = (named (codes "li") ∷ []) ∷ (named (codes "li") ∷ []) ∷ (named (codes "ul") ∷ []) ∷ []; links = Next ∷ Child ∷ []; pseudo = None }

abbrev last_test : Simple
last_test = record { negated = false; test = NthLast (record { a = pos 0; b = pos 1 }) }

abbrev last_item : SelectorParts
last_item = record { chain = (named (codes "li") ∷ last_test ∷ []) ∷ []; links = []; pseudo = None }

-- a list of two items
abbrev items : ShapeParts
items = record { steps = NextTo ∷ UpOne ∷ []; left = 0 ∷ 1 ∷ 2 ∷ []; right = 0 ∷ []; before = 1 ∷ 0 ∷ 0 ∷ []; after = 0 ∷ 1 ∷ 0 ∷ []; top_is_root = false; root_is_child = false }

abbrev element : List ℕ → Element
element name = record { kind = name; attributes = []; flags = λ flag. false; text = false }

text : (numbers : List ℕ) → list_all scalar numbers ≡ true → IsText numbers
text numbers h = (Decides-by_and scalar IsScalar (list_all scalar) (λ c. (λ g. g, λ g. g)) refl (λ _ _. refl) numbers).0 h

legal : (name : List ℕ) → list_all scalar name ≡ true → IsLegalElement (element name)
legal name h = record {
  kind = text name h;
  attributes = All-nil (λ (a : Attribute). IsText a.name × IsText a.value);
  names = λ i j d l m. absurd (omega arith);
  links = λ e f. false≢true e;
  controls = λ e f. false≢true e;
}

no_position : (r c : Bool) (b a : ℕ) (name : List ℕ) → PositionFits r c b a (named name)
no_position r c b a name bad = absurd (false≢true bad)

none_empty : (simples : List Simple) (parent : Bool) → All (λ s. is_empty_test s.test ≡ false) simples → EmptyFits parent simples
none_empty simples parent all s in' asks plain = absurd (false≢true (sym (All-contains (λ s. is_empty_test s.test ≡ false) simples s all in') ∙ asks))

items_fit : ValidShape second_item last_item items
items_fit = record {
  left = (refl, (omega arith, (omega arith, tt)), refl, (refl, (([], refl, tt), tt)));
  right = (refl, tt, refl, tt);
  used = used;
  inside = inside;
  counts = ((refl, refl), (tt, tt));
  root = λ top. absurd (false≢true top);
  positions = positions;
  empties = empties;
  features = features;
  ids = λ j k id less high h g. no_ids j k id less high h;
  pseudo = refl;
}
  where
    used : (k : ℕ) → k ≤ 2 → Contains items.left k ⊎ Contains items.right k
    used zero h = inl (Contains-here 0 (1 ∷ 2 ∷ []))
    used (suc zero) h = inl (Contains-there 0 (1 ∷ 2 ∷ []) 1 (Contains-here 1 (2 ∷ [])))
    used (suc (suc zero)) h = inl (Contains-there 0 (1 ∷ 2 ∷ []) 2 (Contains-there 1 (2 ∷ []) 2 (Contains-here 2 [])))
    used (suc (suc (suc k))) h = absurd (omega arith)

    low : (slots : List ℕ) (k : ℕ) → All (λ p. p ≤ 2) slots → Contains slots k → k ≤ 2
    low slots k all h = All-contains (λ p. p ≤ 2) slots k all h

    at_most : All (λ p. p ≤ 2) items.left
    at_most = All-cons (λ p. p ≤ 2) 0 (1 ∷ 2 ∷ []) (omega arith) (All-cons (λ p. p ≤ 2) 1 (2 ∷ []) (omega arith) (All-cons (λ p. p ≤ 2) 2 [] (omega arith) (All-nil (λ p. p ≤ 2))))

    inside : (k : ℕ) → Contains items.left k ⊎ Contains items.right k → k ≤ 2
    inside k (inl h) = low items.left k at_most h
    inside k (inr h) = low items.right k (All-cons (λ p. p ≤ 2) 0 [] (omega arith) (All-nil (λ p. p ≤ 2))) h

    positions : (k : ℕ) → k ≤ 2 → All (PositionFits (is_root_slot items k) false (slice_index items.before k) (slice_index items.after k)) (simples_in second_item last_item items k)
    positions zero h =
        let P = PositionFits false false 1 0 in
        All-cons P (named (codes "li")) (named (codes "li") ∷ last_test ∷ []) (no_position false false 1 0 (codes "li"))
        (All-cons P (named (codes "li")) (last_test ∷ []) (no_position false false 1 0 (codes "li"))
        (All-cons P last_test [] (λ _. (0, refl)) (All-nil P)))
    positions (suc zero) h = let P = PositionFits false false 0 1 in All-cons P (named (codes "li")) [] (no_position false false 0 1 (codes "li")) (All-nil P)
    positions (suc (suc zero)) h = let P = PositionFits false false 0 0 in All-cons P (named (codes "ul")) [] (no_position false false 0 0 (codes "ul")) (All-nil P)
    positions (suc (suc (suc k))) h = absurd (omega arith)

    features : (k : ℕ) → k ≤ 2 → CanSuit (simples_in second_item last_item items k)
    features zero h =
        let e = element (codes "li") in
        let P = PassesSimple e in
        (e, legal (codes "li") refl, All-cons P (named (codes "li")) (named (codes "li") ∷ last_test ∷ []) refl (All-cons P (named (codes "li")) (last_test ∷ []) refl (All-cons P last_test [] tt (All-nil P))))
    features (suc zero) h = let e = element (codes "li") in (e, legal (codes "li") refl, All-cons (PassesSimple e) (named (codes "li")) [] refl (All-nil (PassesSimple e)))
    features (suc (suc zero)) h = let e = element (codes "ul") in (e, legal (codes "ul") refl, All-cons (PassesSimple e) (named (codes "ul")) [] refl (All-nil (PassesSimple e)))
    features (suc (suc (suc k))) h = absurd (omega arith)

    empties : (k : ℕ) → k ≤ 2 → EmptyFits (is_parent items.steps k) (simples_in second_item last_item items k)
    empties zero h =
        let P : Simple → Type 0 = λ s. is_empty_test s.test ≡ false in
        none_empty (simples_in second_item last_item items 0) (is_parent items.steps 0)
        (All-cons P (named (codes "li")) (named (codes "li") ∷ last_test ∷ []) refl (All-cons P (named (codes "li")) (last_test ∷ []) refl (All-cons P last_test [] refl (All-nil P))))
    empties (suc zero) h = none_empty (simples_in second_item last_item items 1) (is_parent items.steps 1) (All-cons (λ s. is_empty_test s.test ≡ false) (named (codes "li")) [] refl (All-nil (λ s. is_empty_test s.test ≡ false)))
    empties (suc (suc zero)) h = none_empty (simples_in second_item last_item items 2) (is_parent items.steps 2) (All-cons (λ s. is_empty_test s.test ≡ false) (named (codes "ul")) [] refl (All-nil (λ s. is_empty_test s.test ≡ false)))
    empties (suc (suc (suc k))) h = absurd (omega arith)

    no_ids : (j k : ℕ) (id : List ℕ) → j < k → k ≤ 2 → Contains (filter_map asked_id (simples_in second_item last_item items j)) id → ⊥
    no_ids zero k id less high h = Contains-nil id h
    no_ids (suc zero) k id less high h = Contains-nil id h
    no_ids (suc (suc j)) k id less high h = absurd (omega arith)
