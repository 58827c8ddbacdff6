-- Elements side by side in a document: what stands around them, and which compounds hold of them.
use Rattle.std.proofs.Common.{◌≡◌, ℕ, zero, suc, ◌+◌, Bool, true, false, not, ◌&&◌, List, [], ◌∷◌, ◌++◌, map, Option, Some, None, refl, sym, ap, ◌∙◌, arith}
use Rattle.std.specs.Prelude.{◌==◌, if◌then◌else◌}
use Rattle.std.specs.List.{list_all}
use Rattle.std.proofs.lemmas.List.{append_assoc}
use Rattle.css_model.specs.declared.position.AnB.{AnB}
use Rattle.css_model.specs.declared.selector.Combinator.{Combinator}
use Rattle.css_model.specs.declared.selector.Simple.{Simple}
use Rattle.css_model.specs.declared.selector.Test.{Test}
use Rattle.css_model.specs.declared.selector.Test.TheVariants.{Any, Kind, Id, Attr, Nth, NthLast, OnlyChild, Root, Empty, State}
use Rattle.css_model.specs.Documents.Document.{Document, Element, ElementAt, Siblings, element_at, element_below}
use Rattle.css_model.specs.Documents.Matching.{compound_holds, count_siblings, is_none, is_nth, is_root, sibling_number, sibling_number_from_end, simple_holds, some_passes, test_holds}
use Rattle.css_model.specs.Documents.RunDocuments.{repeated}
use Rattle.cascade_laws.specs.declared.reaching.Surroundings.{Surroundings}
use Rattle.cascade_laws.specs.Eval.Climbing.{child_among}
use Rattle.cascade_laws.specs.Eval.Reaching.{from_next, located, passed}
use Rattle.cascade_laws.specs.Eval.Surrounded.{chain_among, compound_among, simple_among, test_among}
use Rattle.cascade_laws.proofs.Eval.Numbers.{joined, moved, none_first, none_last, one_first}
use Rattle.cascade_laws.proofs.Eval.Seeing.{arrived, at_itself, at_next, found}

-- ---- Elements by their index

past_run : (n : ℕ) (e : Element) (children later : Siblings) (i : ℕ) (path : List ℕ) → element_below (repeated n e children later) (n + i) path ≡ element_below later i path
past_run zero e children later i path = ap (λ (k : ℕ). element_below later k path) (none_first i)
past_run (suc n) e children later i path = ap (λ (k : ℕ). element_below (repeated (suc n) e children later) k path) (one_first n i) ∙ past_run n e children later i path

count_run : (m : ℕ) (e : Element) (children later : Siblings) → count_siblings (repeated m e children later) ≡ m + count_siblings later
count_run zero e children later = sym (none_first (count_siblings later))
count_run (suc m) e children later = ap suc (count_run m e children later) ∙ sym (one_first m (count_siblings later))

-- elements side by side stand at a path's end, from an index on
abbrev pub IsRow : Document → List ℕ → ℕ → Siblings → Type 0
IsRow doc p before s = (i : ℕ) (path : List ℕ) → element_at doc (p ++ (before + i) ∷ path) ≡ element_below s i path

pub row_past : (doc : Document) (p : List ℕ) (before n : ℕ) (e : Element) (children later : Siblings) →
    IsRow doc p before (repeated n e children later) → IsRow doc p (before + n) later
row_past doc p before n e children later row i path =
    ap (λ (k : ℕ). element_at doc (p ++ k ∷ path)) (joined before n i) ∙ row (n + i) path ∙ past_run n e children later i path

pub row_below : (doc : Document) (p : List ℕ) (before : ℕ) (e : Element) (children later : Siblings) →
    IsRow doc p before (repeated 1 e children later) → IsRow doc (p ++ before ∷ []) 0 children
row_below doc p before e children later row i path =
    ap (λ (k : ℕ). element_at doc ((p ++ before ∷ []) ++ k ∷ path)) (none_first i)
    ∙ ap (element_at doc) (append_assoc p (before ∷ []) (i ∷ path))
    ∙ ap (λ (k : ℕ). element_at doc (p ++ k ∷ i ∷ path)) (none_last before)
    ∙ row 0 (i ∷ path)

row_next : (doc : Document) (p : List ℕ) (before n : ℕ) (e : Element) (children later : Siblings) →
    IsRow doc p before (repeated (suc n) e children later) → IsRow doc p (suc before) (repeated n e children later)
row_next doc p before n e children later row i path = ap (λ (k : ℕ). element_at doc (p ++ k ∷ path)) (sym (moved before i)) ∙ row (suc i) path

-- ---- What stands around an element

abbrev pub number_of : Bool → ℕ → Option ℕ
number_of is_child n = if is_child then Some (suc n) else None

pub record Around (doc : Document) (path : List ℕ) (here : ElementAt) (s : Surroundings) : Type 0 where
  pub number : sibling_number doc path ≡ number_of s.is_child s.before
  pub from_end : sibling_number_from_end doc path here ≡ number_of s.is_child s.behind
  pub root : is_root path ≡ s.is_root
  pub children : is_none here.children ≡ not s.has_children

nth_same : (x : AnB) (b : Bool) (n : ℕ) → some_passes (is_nth x) (number_of b n) ≡ (b && is_nth x (suc n))
nth_same x true n = refl
nth_same x false n = refl

only_same : (b : Bool) (m n : ℕ) → (some_passes (λ place. place == 1) (number_of b m) && some_passes (λ place. place == 1) (number_of b n)) ≡ (b && (m == 0 && n == 0))
only_same true m n = ap (λ b. b && (suc n == 1)) (one_more m) ∙ ap (λ b. (m == 0) && b) (one_more n)
  where
    one_more : (k : ℕ) → (suc k == 1) ≡ (k == 0)
    one_more k = grind arith
only_same false m n = refl

test_same : (doc : Document) (path : List ℕ) (here : ElementAt) (s : Surroundings) → Around doc path here s → (t : Test) → test_holds doc path here t ≡ test_among here.element s t
test_same doc path here s a Any = refl
test_same doc path here s a (Kind name) = refl
test_same doc path here s a (Id name) = refl
test_same doc path here s a (Attr test) = refl
test_same doc path here s a (Nth x) = ap (some_passes (is_nth x)) a.number ∙ nth_same x s.is_child s.before
test_same doc path here s a (NthLast x) = ap (some_passes (is_nth x)) a.from_end ∙ nth_same x s.is_child s.behind
test_same doc path here s a OnlyChild =
    ap (λ o. some_passes (λ place. place == 1) o && some_passes (λ place. place == 1) (sibling_number_from_end doc path here)) a.number
    ∙ ap (λ o. some_passes (λ place. place == 1) (number_of s.is_child s.before) && some_passes (λ place. place == 1) o) a.from_end
    ∙ only_same s.is_child s.before s.behind
test_same doc path here s a Root = a.root
test_same doc path here s a Empty = ap (λ b. b && not here.element.text) a.children
test_same doc path here s a (State flag) = refl

simple_same : (doc : Document) (path : List ℕ) (here : ElementAt) (s : Surroundings) → Around doc path here s → (simple : Simple) →
    simple_holds doc path here simple ≡ simple_among here.element s simple
simple_same doc path here s a simple = ap (λ b. if simple.negated then not b else b) (test_same doc path here s a simple.test)

simples_same : (doc : Document) (path : List ℕ) (here : ElementAt) (s : Surroundings) → Around doc path here s → (simples : List Simple) →
    list_all (simple_holds doc path here) simples ≡ compound_among here.element s simples
simples_same doc path here s a [] = refl
simples_same doc path here s a (simple ∷ simples) =
    ap (λ b. b && list_all (simple_holds doc path here) simples) (simple_same doc path here s a simple)
    ∙ ap (λ b. simple_among here.element s simple && b) (simples_same doc path here s a simples)

pub chain_same : (doc : Document) (path : List ℕ) (here : ElementAt) (s : Surroundings) → element_at doc path ≡ Some here → Around doc path here s →
    (chain : List (List Simple)) → map (compound_holds doc path) chain ≡ chain_among chain here.element s
chain_same doc path here s e a [] = refl
chain_same doc path here s e a (c ∷ chain) =
    ap (λ b. b ∷ map (compound_holds doc path) chain) (ap (some_passes (λ other. list_all (simple_holds doc path other) c)) e ∙ simples_same doc path here s a c)
    ∙ ap (λ bs. compound_among here.element s c ∷ bs) (chain_same doc path here s e a chain)

child_number : (doc : Document) (p : List ℕ) (k : ℕ) → sibling_number doc (p ++ k ∷ []) ≡ Some (suc k)
child_number doc [] k = refl
child_number doc (i ∷ []) k = refl
child_number doc (i ∷ j ∷ p) k = child_number doc (j ∷ p) k

child_number_from_end : (doc : Document) (p : List ℕ) (k : ℕ) (here : ElementAt) → sibling_number_from_end doc (p ++ k ∷ []) here ≡ Some (suc (count_siblings here.later))
child_number_from_end doc [] k here = refl
child_number_from_end doc (i ∷ p) k here = refl

no_root : (p : List ℕ) (k : ℕ) → is_root (p ++ k ∷ []) ≡ false
no_root [] k = refl
no_root (i ∷ p) k = refl

pub not_not : (b : Bool) → b ≡ not (not b)
not_not true = refl
not_not false = refl

-- ---- The elements of a run

pub first_same : (doc : Document) (chain : List (List Simple)) (p : List ℕ) (before m : ℕ) (e : Element) (children later : Siblings) →
    IsRow doc p before (repeated (suc m) e children later) →
    map (compound_holds doc (p ++ before ∷ [])) chain ≡ chain_among chain e (child_among (not (is_none children)) before (m + count_siblings later))
first_same doc chain p before m e children later row =
    chain_same doc (p ++ before ∷ []) (record { element = e; children = children; later = repeated m e children later })
    (child_among (not (is_none children)) before (m + count_siblings later))
    (ap (λ (k : ℕ). element_at doc (p ++ k ∷ [])) (none_last before) ∙ row 0 [])
    (record {
      number = child_number doc p before;
      from_end = child_number_from_end doc p before (record { element = e; children = children; later = repeated m e children later })
          ∙ ap (λ (k : ℕ). Some (suc k)) (count_run m e children later);
      root = no_root p before;
      children = not_not (is_none children);
    })
    chain

pub first_found : (doc : Document) (chain : List (List Simple)) (links : List Combinator) (p : List ℕ) (before m : ℕ) (e : Element) (children later : Siblings) →
    IsRow doc p before (repeated (suc m) e children later) →
    located (chain_among chain e (child_among (not (is_none children)) before (m + count_siblings later))) links (arrived doc chain links (p ++ before ∷ []))
    ≡ found doc chain links (p ++ before ∷ [])
first_found doc chain links p before m e children later row =
    ap (λ ts. located ts links (arrived doc chain links (p ++ before ∷ []))) (sym (first_same doc chain p before m e children later row))
    ∙ at_itself doc chain links (p ++ before ∷ [])

pub run_passed : (doc : Document) (chain : List (List Simple)) (links : List Combinator) (p : List ℕ) (n before : ℕ) (e : Element) (children later : Siblings) →
    IsRow doc p before (repeated n e children later) →
    passed (λ a b. chain_among chain e (child_among (not (is_none children)) a b)) links n before (count_siblings later) (arrived doc chain links (p ++ before ∷ []))
    ≡ arrived doc chain links (p ++ (before + n) ∷ [])
run_passed doc chain links p zero before e children later row = ap (λ (k : ℕ). arrived doc chain links (p ++ k ∷ [])) (none_last before)
run_passed doc chain links p (suc n) before e children later row =
    ap (λ rs. passed (λ a b. chain_among chain e (child_among (not (is_none children)) a b)) links n (suc before) (count_siblings later) (map from_next rs))
    (first_found doc chain links p before n e children later row)
    ∙ ap (passed (λ a b. chain_among chain e (child_among (not (is_none children)) a b)) links n (suc before) (count_siblings later)) (at_next doc chain links p before)
    ∙ run_passed doc chain links p n (suc before) e children later (row_next doc p before n e children later row)
    ∙ ap (λ (k : ℕ). arrived doc chain links (p ++ k ∷ [])) (sym (moved before n))
