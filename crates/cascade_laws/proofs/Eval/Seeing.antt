-- What is known at an element of a document, and how it follows from what is known at the one before.
use Rattle.std.proofs.Common.{◌≡◌, ℕ, suc, Bool, true, false, ◌&&◌, ◌||◌, List, [], ◌∷◌, ◌++◌, map, drop, refl, sym, ap, ◌∙◌, append-nil}
use Rattle.std.specs.List.{list_any}
use Rattle.std.proofs.lemmas.List.{map-append}
use Rattle.std.proofs.lemmas.List.Folds.{list_any-append}
use Rattle.css_model.specs.declared.selector.Combinator.{Combinator}
use Rattle.css_model.specs.declared.selector.Combinator.TheVariants.{Inside, Child, Next, Later}
use Rattle.css_model.specs.declared.selector.Simple.{Simple}
use Rattle.css_model.specs.Documents.Document.{Document}
use Rattle.css_model.specs.Documents.Matching.{all_before, allowed, ancestors, change_last, compound_holds, matches_from, one_before}
use Rattle.cascade_laws.specs.declared.reaching.Reached.{Reached}
use Rattle.cascade_laws.specs.Eval.Reaching.{from_child, from_next, from_root, leads, located}

-- ---- Paths

map_itself : {A : Type 0} (xs : List A) → xs ≡ map (λ x. x) xs
map_itself [] = refl
map_itself (x ∷ xs) = ap (λ ys. x ∷ ys) (map_itself xs)

map_twice : {A B C : Type 0} (f : B → C) (g : A → B) (xs : List A) → map f (map g xs) ≡ map (λ x. f (g x)) xs
map_twice f g [] = refl
map_twice f g (x ∷ xs) = ap (λ ys. f (g x) ∷ ys) (map_twice f g xs)

change_last_at : (change : ℕ → List (List ℕ)) (p : List ℕ) (k : ℕ) → change_last change (p ++ k ∷ []) ≡ map (λ o. p ++ o) (change k)
change_last_at change [] k = map_itself (change k)
change_last_at change (i ∷ []) k = refl
change_last_at change (i ∷ j ∷ p) k =
    ap (map (λ o. i ∷ o)) (change_last_at change (j ∷ p) k) ∙ map_twice (λ o. i ∷ o) (λ o. (j ∷ p) ++ o) (change k)

next_paths : (p : List ℕ) (k : ℕ) → allowed Next (p ++ suc k ∷ []) ≡ (p ++ k ∷ []) ∷ []
next_paths p k = change_last_at one_before p (suc k)

no_next : (p : List ℕ) → allowed Next (p ++ 0 ∷ []) ≡ []
no_next p = change_last_at one_before p 0

later_paths : (p : List ℕ) (k : ℕ) → allowed Later (p ++ suc k ∷ []) ≡ (p ++ k ∷ []) ∷ allowed Later (p ++ k ∷ [])
later_paths p k = change_last_at all_before p (suc k) ∙ ap (λ os. (p ++ k ∷ []) ∷ os) (sym (change_last_at all_before p k))

no_later : (p : List ℕ) → allowed Later (p ++ 0 ∷ []) ≡ []
no_later p = change_last_at all_before p 0

child_paths : (p : List ℕ) (k : ℕ) → allowed Child (p ++ k ∷ []) ≡ p ∷ []
child_paths p k = change_last_at (λ i. [] ∷ []) p k ∙ ap (λ o. o ∷ []) (append-nil p)

inside_paths : (p : List ℕ) (k : ℕ) → allowed Inside (p ++ k ∷ []) ≡ ancestors p ++ p ∷ []
inside_paths [] k = refl
inside_paths (i ∷ p) k = ap (λ os. [] ∷ map (λ o. i ∷ o) os) (inside_paths p k) ∙ ap (λ os. [] ∷ os) (map-append (λ o. i ∷ o) (ancestors p) (p ∷ []))

-- ---- What is known of one test of paths

abbrev pub seen : (List ℕ → Bool) → Bool → List ℕ → Reached
seen test here path = record {
  here = here;
  next = list_any test (allowed Next path);
  later = list_any test (allowed Later path);
  child = list_any test (allowed Child path);
  inside = list_any test (allowed Inside path);
}

abbrev reached : Bool → Bool → Bool → Bool → Bool → Reached
reached h n l c i = record { here = h; next = n; later = l; child = c; inside = i }

same_reached : {n n' l l' c c' i i' : Bool} → n ≡ n' → l ≡ l' → c ≡ c' → i ≡ i' → reached false n l c i ≡ reached false n' l' c' i'
same_reached en el ec ei = cc

or_no : (b : Bool) → b ≡ (b || false)
or_no true = refl
or_no false = refl

or_other : (a b : Bool) → (a || b) ≡ (b || (a || false))
or_other true true = refl
or_other true false = refl
or_other false true = refl
or_other false false = refl

next_seen : (test : List ℕ → Bool) (p : List ℕ) (k : ℕ) → from_next (seen test (test (p ++ k ∷ [])) (p ++ k ∷ [])) ≡ seen test false (p ++ suc k ∷ [])
next_seen test p k = same_reached
    (or_no (test (p ++ k ∷ [])) ∙ sym (ap (list_any test) (next_paths p k)))
    (sym (ap (list_any test) (later_paths p k)))
    (ap (list_any test) (child_paths p k ∙ sym (child_paths p (suc k))))
    (ap (list_any test) (inside_paths p k ∙ sym (inside_paths p (suc k))))

child_seen : (test : List ℕ → Bool) (p : List ℕ) → from_child (seen test (test p) p) ≡ seen test false (p ++ 0 ∷ [])
child_seen test p = same_reached
    (sym (ap (list_any test) (no_next p)))
    (sym (ap (list_any test) (no_later p)))
    (or_no (test p) ∙ sym (ap (list_any test) (child_paths p 0)))
    (or_other (test p) (list_any test (ancestors p)) ∙ sym (list_any-append test (ancestors p) (p ∷ [])) ∙ sym (ap (list_any test) (inside_paths p 0)))

-- ---- The same of each compound of a chain, from it on

abbrev pub arrived : Document → List (List Simple) → List Combinator → List ℕ → List Reached
arrived doc [] links path = []
arrived doc (c ∷ cs) links path = seen (matches_from doc (c ∷ cs) links) false path ∷ arrived doc cs (drop 1 links) path

abbrev pub found : Document → List (List Simple) → List Combinator → List ℕ → List Reached
found doc [] links path = []
found doc (c ∷ cs) links path = seen (matches_from doc (c ∷ cs) links) (matches_from doc (c ∷ cs) links path) path ∷ found doc cs (drop 1 links) path

pub at_root : (doc : Document) (chain : List (List Simple)) (links : List Combinator) → map (λ c. from_root) chain ≡ arrived doc chain links []
at_root doc [] links = refl
at_root doc (c ∷ cs) links = ap (λ rs. from_root ∷ rs) (at_root doc cs (drop 1 links))

pub at_next : (doc : Document) (chain : List (List Simple)) (links : List Combinator) (p : List ℕ) (k : ℕ) →
    map from_next (found doc chain links (p ++ k ∷ [])) ≡ arrived doc chain links (p ++ suc k ∷ [])
at_next doc [] links p k = refl
at_next doc (c ∷ cs) links p k =
    ap (λ r. r ∷ map from_next (found doc cs (drop 1 links) (p ++ k ∷ []))) (next_seen (matches_from doc (c ∷ cs) links) p k)
    ∙ ap (λ rs. seen (matches_from doc (c ∷ cs) links) false (p ++ suc k ∷ []) ∷ rs) (at_next doc cs (drop 1 links) p k)

pub at_child : (doc : Document) (chain : List (List Simple)) (links : List Combinator) (p : List ℕ) →
    map from_child (found doc chain links p) ≡ arrived doc chain links (p ++ 0 ∷ [])
at_child doc [] links p = refl
at_child doc (c ∷ cs) links p =
    ap (λ r. r ∷ map from_child (found doc cs (drop 1 links) p)) (child_seen (matches_from doc (c ∷ cs) links) p)
    ∙ ap (λ rs. seen (matches_from doc (c ∷ cs) links) false (p ++ 0 ∷ []) ∷ rs) (at_child doc cs (drop 1 links) p)

led : (doc : Document) (link : Combinator) (c : List Simple) (cs : List (List Simple)) (links : List Combinator) (path : List ℕ) →
    leads link (arrived doc (c ∷ cs) links path) ≡ list_any (λ other. matches_from doc (c ∷ cs) links other) (allowed link path)
led doc Inside c cs links path = refl
led doc Child c cs links path = refl
led doc Next c cs links path = refl
led doc Later c cs links path = refl

pub at_itself : (doc : Document) (chain : List (List Simple)) (links : List Combinator) (path : List ℕ) →
    located (map (compound_holds doc path) chain) links (arrived doc chain links path) ≡ found doc chain links path
at_itself doc [] links path = refl
at_itself doc (c ∷ []) links path = refl
at_itself doc (c ∷ d ∷ cs) [] path = ap (λ rs. seen (matches_from doc (c ∷ d ∷ cs) []) false path ∷ rs) (at_itself doc (d ∷ cs) [] path)
at_itself doc (c ∷ d ∷ cs) (link ∷ links) path =
    ap (λ b. seen (matches_from doc (c ∷ d ∷ cs) (link ∷ links)) (compound_holds doc path c && b) path ∷ located (map (compound_holds doc path) (d ∷ cs)) links (arrived doc (d ∷ cs) links path))
    (led doc link d cs links path)
    ∙ ap (λ rs. seen (matches_from doc (c ∷ d ∷ cs) (link ∷ links)) (matches_from doc (c ∷ d ∷ cs) (link ∷ links) path) path ∷ rs) (at_itself doc (d ∷ cs) links path)
