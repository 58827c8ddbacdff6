-- In a legal document no two elements have one id.
use Rattle.std.proofs.Common.{Bool, List, None, Option, Some, [], ap, arith, false, length, refl, subst, suc, sym, true, zero, ℕ, ◌++◌, ◌+◌, ◌∙◌, ◌∷◌, ◌≡◌, ◌≢◌}
use Rattle.std.proofs.lemmas.List.{append-nil, get_or-append-add, get_or_append_left, length-append}
use Rattle.std.proofs.lemmas.List.Elements.{Contains-append_left, Contains-append_right, filter_map-append}
use Rattle.std.specs.Cmp.Lexicographic.{bytes_decides}
use Rattle.std.specs.List.{AllPairs, Contains, cons_option, filter_map}
use Rattle.std.specs.Prelude.{IsSomeAnd, codes, if◌then◌else◌}
use Rattle.css_model.specs.Documents.Attribute.{Passes}
use Rattle.css_model.specs.Documents.Document.{Document, Element, ElementAt, IsLegal, Siblings, attribute_value, element_at, element_below, elements_below, first, if_not_empty, none}
use Rattle.css_model.specs.Documents.Matching.{SimpleHolds}
use Rattle.css_model.specs.Lists.{same_text}
use Rattle.css_model.specs.declared.selector.AttrTest.{AttrTest}
use Rattle.css_model.specs.declared.selector.Op.{Op}
use Rattle.css_model.specs.declared.selector.Op.TheVariants.{Dash, Equal, Part, Prefix, Present, Suffix, Word}
use Rattle.css_model.specs.declared.selector.Simple.{Simple}
use Rattle.css_model.specs.declared.selector.Test.{Test}
use Rattle.css_model.specs.declared.selector.Test.TheVariants.{Any, Attr, Empty, Id, Kind, Nth, NthLast, OnlyChild, Root, State}
use Rattle.list_facts.proofs.Members.{Contains-here}
use Rattle.slot_plan.specs.ValidShape.{asked_id}
use Rattle.shape_laws.proofs.Elements.Siblings.{placed_same}

-- no value stands on both sides
apart : {X : Type 0} (xs ys : List X) (v : X) → AllPairs ◌≢◌ (xs ++ ys) → Contains xs v → Contains ys v → ⊥
apart xs ys v pairs (i, hi, ei) (j, hj, ej) =
    pairs i (length xs + j) v (omega arith) (let l = length-append xs ys in omega arith)
    (get_or_append_left xs ys v i hi ∙ ei ∙ sym ej ∙ sym (get_or-append-add xs ys j v))

-- pairwise different values are so in each part of their list
pairs_left : {X : Type 0} (xs ys : List X) → AllPairs ◌≢◌ (xs ++ ys) → AllPairs ◌≢◌ xs
pairs_left xs ys pairs i j d hij hj e = pairs i j d hij (let l = length-append xs ys in omega arith) (get_or_append_left xs ys d i (omega arith) ∙ e ∙ sym (get_or_append_left xs ys d j hj))

-- the same for the second part
pairs_right : {X : Type 0} (xs ys : List X) → AllPairs ◌≢◌ (xs ++ ys) → AllPairs ◌≢◌ ys
pairs_right xs ys pairs i j d hij hj e = pairs (length xs + i) (length xs + j) d (omega arith) (let l = length-append xs ys in omega arith) (get_or-append-add xs ys i d ∙ e ∙ sym (get_or-append-add xs ys j d))

-- the values that elements below have
abbrev pub ids : {Y : Type 0} → (Element → Option Y) → Siblings → List Y
ids f s = filter_map f (elements_below s)

-- the value of one element, as a list
abbrev pub own : {Y : Type 0} → Option Y → List Y
own o = cons_option o []

-- those of a first sibling, what stands in it, and its later siblings
ids_first : {Y : Type 0} (f : Element → Option Y) (e : Element) (children later : Siblings) → ids f (first e children later) ≡ own (f e) ++ (ids f children ++ ids f later)
ids_first f e children later = ap (cons_option (f e)) (filter_map-append f (elements_below children) (elements_below later)) ∙ by (f e)
  where
    by : (o : Option _) → cons_option o (ids f children ++ ids f later) ≡ cons_option o [] ++ (ids f children ++ ids f later)
    by None = refl
    by (Some y) = refl

-- an element has its own value
own_has : {Y : Type 0} (o : Option Y) (v : Y) → o ≡ Some v → Contains (own o) v
own_has o v e = subst (λ p. Contains (own p) v) (sym e) (Contains-here v [])

-- the value of an element below is among them
has : {Y : Type 0} (f : Element → Option Y) (s : Siblings) (k : ℕ) (p : List ℕ) (x : ElementAt) (v : Y) → element_below s k p ≡ Some x → f x.element ≡ Some v → Contains (ids f s) v
has f none k p x v e h = absurd (let n : None ≡ Some x = e in cc)
has f (first g children later) zero [] x v e h = subst (λ vs. Contains vs v) (sym (ids_first f g children later)) (Contains-append_left (own (f g)) (ids f children ++ ids f later) v (own_has (f g) v (ap (λ (r : ElementAt). f r.element) (placed_same (record { element = g; children = children; later = later }) x e) ∙ h)))
has f (first g children later) zero (j ∷ p) x v e h = subst (λ vs. Contains vs v) (sym (ids_first f g children later)) (Contains-append_right (own (f g)) (ids f children ++ ids f later) v (Contains-append_left (ids f children) (ids f later) v (has f children j p x v e h)))
has f (first g children later) (suc k) p x v e h = subst (λ vs. Contains vs v) (sym (ids_first f g children later)) (Contains-append_right (own (f g)) (ids f children ++ ids f later) v (Contains-append_right (ids f children) (ids f later) v (has f later k p x v e h)))

-- the path of the same element, as seen from one sibling before
abbrev pub bump : List ℕ → List ℕ
bump [] = []
bump (n ∷ ns) = suc n ∷ ns

-- two elements with one value stand in one place
one_place : {Y : Type 0} (f : Element → Option Y) (s : Siblings) (k l : ℕ) (p q : List ℕ) (x y : ElementAt) (v : Y) → AllPairs ◌≢◌ (ids f s) → element_below s k p ≡ Some x → element_below s l q ≡ Some y → f x.element ≡ Some v → f y.element ≡ Some v → (k ∷ p) ≡ (l ∷ q)
one_place f none k l p q x y v pairs e e' h h' = absurd (let n : None ≡ Some x = e in cc)
one_place f (first g children later) k l p q x y v pairs e e' h h' = by k l p q e e'
    (λ i j p q d d'. one_place f children i j p q x y v (pairs_left (ids f children) (ids f later) rest) d d' h h')
    (λ i j p q d d'. one_place f later i j p q x y v (pairs_right (ids f children) (ids f later) rest) d d' h h')
  where
    split : AllPairs ◌≢◌ (own (f g) ++ (ids f children ++ ids f later))
    split = subst (AllPairs ◌≢◌) (ids_first f g children later) pairs

    rest : AllPairs ◌≢◌ (ids f children ++ ids f later)
    rest = pairs_right (own (f g)) (ids f children ++ ids f later) split

    self : (z : ElementAt) → Some (record { element = g; children = children; later = later }) ≡ Some z → f z.element ≡ Some v → Contains (own (f g)) v
    self z q hz = own_has (f g) v (let w : record { element = g; children = children; later = later } ≡ z = cc in ap (λ (r : ElementAt). f r.element) w ∙ hz)

    by : (k l : ℕ) (p q : List ℕ) → element_below (first g children later) k p ≡ Some x → element_below (first g children later) l q ≡ Some y →
        ((i j : ℕ) (p q : List ℕ) → element_below children i p ≡ Some x → element_below children j q ≡ Some y → (i ∷ p) ≡ (j ∷ q)) →
        ((i j : ℕ) (p q : List ℕ) → element_below later i p ≡ Some x → element_below later j q ≡ Some y → (i ∷ p) ≡ (j ∷ q)) → (k ∷ p) ≡ (l ∷ q)
    by zero zero [] [] e e' below' beside = refl
    by zero zero [] (j ∷ q) e e' below' beside = absurd (apart (own (f g)) (ids f children ++ ids f later) v split (self x e h) (Contains-append_left (ids f children) (ids f later) v (has f children j q y v e' h')))
    by zero (suc l) [] q e e' below' beside = absurd (apart (own (f g)) (ids f children ++ ids f later) v split (self x e h) (Contains-append_right (ids f children) (ids f later) v (has f later l q y v e' h')))
    by zero zero (i ∷ p) [] e e' below' beside = absurd (apart (own (f g)) (ids f children ++ ids f later) v split (self y e' h') (Contains-append_left (ids f children) (ids f later) v (has f children i p x v e h)))
    by (suc k) zero p [] e e' below' beside = absurd (apart (own (f g)) (ids f children ++ ids f later) v split (self y e' h') (Contains-append_right (ids f children) (ids f later) v (has f later k p x v e h)))
    by zero zero (i ∷ p) (j ∷ q) e e' below' beside = ap (λ r. 0 ∷ r) (below' i j p q e e')
    by zero (suc l) (i ∷ p) q e e' below' beside = absurd (apart (ids f children) (ids f later) v rest (has f children i p x v e h) (has f later l q y v e' h'))
    by (suc k) zero p (j ∷ q) e e' below' beside = absurd (apart (ids f children) (ids f later) v rest (has f children j q y v e' h') (has f later k p x v e h))
    by (suc k) (suc l) p q e e' below' beside = ap bump (beside k l p q e e')

-- the id of an element, if it is not empty
abbrev pub own_id : Element → Option (List ℕ)
own_id e = if_not_empty (attribute_value e (codes "id"))

-- one id, one path
no_later : (doc : Document) (path : List ℕ) (x : ElementAt) → element_at doc path ≡ Some x → (y : ElementAt) × (element_below (first doc.root doc.children none) 0 path ≡ Some y) × (y.element ≡ x.element)
no_later doc [] x e = (x, e, refl)
no_later doc (k ∷ p) x e = (x, e, refl)

-- in a legal document two elements with one id are one
pub one_id : (doc : Document) (p q : List ℕ) (x y : ElementAt) (v : List ℕ) → IsLegal doc → element_at doc p ≡ Some x → element_at doc q ≡ Some y → own_id x.element ≡ Some v → own_id y.element ≡ Some v → p ≡ q
one_id doc p q x y v legal e e' h h' =
    let a = no_later doc p x e in let b = no_later doc q y e' in
    let same = one_place own_id (first doc.root doc.children none) 0 0 p q a.0 b.0 v
    (subst (λ els. AllPairs ◌≢◌ (filter_map own_id (doc.root ∷ els))) (sym (append-nil (elements_below doc.children))) legal.ids) a.1 b.1 (ap own_id a.2 ∙ h) (ap own_id b.2 ∙ h') in
    tail_same p q same
  where
    tail_same : (p q : List ℕ) → 0 ∷ p ≡ 0 ∷ q → p ≡ q
    tail_same p q e = cc

-- who asks for an id and holds has it
pub asked : (doc : Document) (path : List ℕ) (here : ElementAt) (s : Simple) (v : List ℕ) → asked_id s ≡ Some v → SimpleHolds doc path here s → own_id here.element ≡ Some v
asked doc path here s v = by s.negated s.test
  where
    attr : (t : AttrTest) (b : Bool) (op : Op) → same_text t.name (codes "id") ≡ b → (if b then (elim op [ Equal ↦ if_not_empty (Some t.value) | _ ↦ None ]) else None) ≡ Some v → IsSomeAnd (attribute_value here.element t.name) (λ value. Passes op t.value value) → own_id here.element ≡ Some v
    attr t false op n e h = absurd (let w : None ≡ Some v = e in cc)
    attr t true Present n e h = absurd (let w : None ≡ Some v = e in cc)
    attr t true Word n e h = absurd (let w : None ≡ Some v = e in cc)
    attr t true Dash n e h = absurd (let w : None ≡ Some v = e in cc)
    attr t true Prefix n e h = absurd (let w : None ≡ Some v = e in cc)
    attr t true Suffix n e h = absurd (let w : None ≡ Some v = e in cc)
    attr t true Part n e h = absurd (let w : None ≡ Some v = e in cc)
    attr t true Equal n e h =
        let name = (bytes_decides t.name (codes "id")).0 n in
        let at = value_of (attribute_value here.element t.name) h in
        ap if_not_empty (ap (attribute_value here.element) (sym name) ∙ at) ∙ e
      where
        value_of : (o : Option (List ℕ)) → IsSomeAnd o (λ value. value ≡ t.value) → o ≡ Some t.value
        value_of None h = absurd h
        value_of (Some w) h = ap Some h

    by : (n : Bool) (t : Test) → asked_id (record { negated = n; test = t }) ≡ Some v → SimpleHolds doc path here (record { negated = n; test = t }) → own_id here.element ≡ Some v
    by true t e h = absurd (let w : None ≡ Some v = e in cc)
    by false (Id name) e h = ap if_not_empty h ∙ e
    by false (Attr test) e h = attr test (same_text test.name (codes "id")) test.op refl e h
    by false Any e h = absurd (let w : None ≡ Some v = e in cc)
    by false (Kind name) e h = absurd (let w : None ≡ Some v = e in cc)
    by false (Nth x) e h = absurd (let w : None ≡ Some v = e in cc)
    by false (NthLast x) e h = absurd (let w : None ≡ Some v = e in cc)
    by false OnlyChild e h = absurd (let w : None ≡ Some v = e in cc)
    by false Root e h = absurd (let w : None ≡ Some v = e in cc)
    by false Empty e h = absurd (let w : None ≡ Some v = e in cc)
    by false (State flag) e h = absurd (let w : None ≡ Some v = e in cc)
