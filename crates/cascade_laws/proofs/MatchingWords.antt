-- Matching, in words and as a test that computes.
use Rattle.std.proofs.Common.{◌≡◌, ◌≢◌, ◌⊎◌, ℕ, zero, suc, ◌<◌, ◌*◌, ◌/◌, ◌%◌, Bool, true, false, not, ◌&&◌, ◌||◌, List, [], ◌∷◌, ◌++◌, map, Option, Some, None, ℤ, pos, negsuc, neg_ℤ, ◌+ℤ◌, ◌-ℤ◌, ◌*ℤ◌, refl, sym, ap, ◌∙◌, subst, inl, inr, arith, append-nil}
use Rattle.std.specs.Prelude.{IsSomeAnd, ◌==◌, if◌then◌else◌, codes}
use Rattle.std.specs.Bool.{Decides, MatchBool}
use Rattle.std.specs.List.{All, list_all, list_any}
use Rattle.std.specs.Cmp.Lexicographic.{bytes_decides}
use Rattle.std.proofs.Math.Nat.{mul-mod_right, mul-zero, zero-mul}
use Rattle.std.proofs.lemmas.Bool.{or_cases, and_parts, and_from, or_left, or_right, false≢true, eqb-true, eq-eqb, not-true, not_from_false, cases_eq}
use Rattle.std.proofs.lemmas.Bool.Decides.{Decides-by_and, Decides-and, Decides-not, Decides-eqb}
use Rattle.std.proofs.lemmas.Int.{ints}
use Rattle.cascade_laws.proofs.AttributeWords.{passes-decides}
use Rattle.css_model.specs.declared.position.AnB.{AnB}
use Rattle.css_model.specs.declared.selector.Combinator.{Combinator}
use Rattle.css_model.specs.declared.selector.Combinator.TheVariants.{Inside, Child, Next, Later}
use Rattle.css_model.specs.declared.selector.Pseudo.{Pseudo}
use Rattle.css_model.specs.declared.selector.Pseudo.TheVariants.{FirstLine, FirstLetter, Before, After}
use Rattle.css_model.specs.declared.selector.Simple.{Simple}
use Rattle.css_model.specs.declared.selector.Test.{Test}
use Rattle.css_model.specs.declared.selector.Test.TheVariants.{Any, Kind, Id, Attr, Nth, NthLast, OnlyChild, Root, Empty, State}
use Rattle.css_model.specs.Documents.Attribute.{Passes, passes}
use Rattle.css_model.specs.Documents.Document.{Siblings, none, first, Document, ElementAt, element_at, Target, attribute_value}
use Rattle.css_model.specs.Lists.{same_text}
use Rattle.css_model.specs.Documents.Matching.{sibling_number, sibling_number_from_end, IsNth, TestHolds, SimpleHolds, CompoundHolds, Allows, MatchesFrom, Matches, is_multiple, is_nth, some_passes, is_none, is_root, test_holds, simple_holds, compound_holds, ancestors, change_last, one_before, all_before, allowed, matches_from, same_pseudo, matches}
use Rattle.css_model.specs.Documents.SelectorParts.{SelectorParts}

-- steps of either sign
divides : (d a : ℕ) → (d % suc a == 0) ≡ true → d ≡ suc a * (d / suc a)
divides d a h = let e : d % suc a ≡ 0 = eqb-true (d % suc a) 0 h in grind arith

multiple-divides : (d a n : ℕ) → d ≡ suc a * n → (d % suc a == 0) ≡ true
multiple-divides d a n h = eq-eqb (d % suc a) 0 (ap (λ (m : ℕ). m % suc a) h ∙ mul-mod_right (suc a) n)

minus : (m : ℕ) → neg_ℤ (pos (suc m)) ≡ negsuc m
minus m = refl

pub multiple-words : (a d : ℤ) → is_multiple a d ≡ true → (n : ℕ) × (d ≡ a *ℤ pos n)
multiple-words (pos zero) (pos zero) h = (0, refl)
multiple-words (pos zero) (pos (suc d)) h = absurd (false≢true h)
multiple-words (pos zero) (negsuc d) h = absurd (false≢true h)
multiple-words (pos (suc a)) (pos d) h = (d / suc a, ap pos (divides d a h))
multiple-words (pos (suc a)) (negsuc d) h = absurd (false≢true h)
multiple-words (negsuc a) (pos zero) h = (0, ap (λ (m : ℕ). neg_ℤ (pos m)) (sym (mul-zero (suc a))))
multiple-words (negsuc a) (pos (suc d)) h = absurd (false≢true h)
multiple-words (negsuc a) (negsuc d) h = (suc d / suc a, ap (λ (m : ℕ). neg_ℤ (pos m)) (divides (suc d) a h))

negative-zero : (m : ℕ) → pos zero ≡ neg_ℤ (pos m) → m ≡ 0
negative-zero zero h = refl
negative-zero (suc m) h = cc

negative-positive : (d m : ℕ) → pos (suc d) ≡ neg_ℤ (pos m) → ⊥
negative-positive d zero h = cc
negative-positive d (suc m) h = cc

negative-same : (d m : ℕ) → negsuc d ≡ neg_ℤ (pos m) → suc d ≡ m
negative-same d zero h = cc
negative-same d (suc m) h = cc

words-multiple : (a d : ℤ) (n : ℕ) → d ≡ a *ℤ pos n → is_multiple a d ≡ true
words-multiple (pos zero) (pos zero) n h = refl
words-multiple (pos zero) (pos (suc d)) n h = absurd (let e : pos (suc d) ≡ pos 0 = h ∙ ap pos (zero-mul n) in cc)
words-multiple (pos zero) (negsuc d) n h = absurd (let e : negsuc d ≡ pos (zero * n) = h in cc)
words-multiple (pos (suc a)) (pos d) n h = multiple-divides d a n (let e : pos d ≡ pos (suc a * n) = h in cc)
words-multiple (pos (suc a)) (negsuc d) n h = absurd (let e : negsuc d ≡ pos (suc a * n) = h in cc)
words-multiple (negsuc a) (pos zero) n h = refl
words-multiple (negsuc a) (pos (suc d)) n h = absurd (negative-positive d (suc a * n) h)
words-multiple (negsuc a) (negsuc d) n h = multiple-divides (suc d) a n (negative-same d (suc a * n) h)

shift : (k b m : ℤ) → k -ℤ b ≡ m → k ≡ m +ℤ b
shift k b m h = omega (arith, ints)

shift-back : (k b m : ℤ) → k ≡ m +ℤ b → k -ℤ b ≡ m
shift-back k b m h = omega (arith, ints)

pub nth-decides : (x : AnB) (place : ℕ) → Decides (is_nth x place) (IsNth x place)
nth-decides x place = (
  λ h. let w : (n : ℕ) × (pos place -ℤ x.b ≡ x.a *ℤ pos n) = multiple-words x.a (pos place -ℤ x.b) h in (w.0, shift (pos place) x.b (x.a *ℤ pos w.0) w.1),
  λ w. words-multiple x.a (pos place -ℤ x.b) w.0 (shift-back (pos place) x.b (x.a *ℤ pos w.0) w.1),
)

-- a value that passes
some-decides : {A : Type 0} (test : A → Bool) (P : A → Type 0) → ((x : A) → Decides (test x) (P x)) → (o : Option A) → Decides (some_passes test o) (IsSomeAnd o P)
some-decides test P each None = (λ h. absurd (false≢true h), λ h. absurd h)
some-decides test P each (Some x) = each x

-- a value that is the one asked for
some_same : {A : Type 0} (test : A → Bool) (y : A) → ((x : A) → Decides (test x) (x ≡ y)) → (o : Option A) → Decides (some_passes test o) (o ≡ Some y)
some_same test y each None = (λ h. absurd (false≢true h), λ h. cc)
some_same test y each (Some x) = (λ h. ap Some ((each x).0 h), λ h. (each x).1 cc)

none-decides : (s : Siblings) → Decides (is_none s) (s ≡ none)
none-decides none = (λ _. refl, λ _. refl)
none-decides (first e children later) = (λ h. absurd (false≢true h), λ h. cc)

root-decides : (path : List ℕ) → Decides (is_root path) (path ≡ [])
root-decides [] = (λ _. refl, λ _. refl)
root-decides (i ∷ path) = (λ h. absurd (false≢true h), λ h. cc)

pub test-decides : (doc : Document) (path : List ℕ) (here : ElementAt) (test : Test) → Decides (test_holds doc path here test) (TestHolds doc path here test)
test-decides doc path here Any = (λ _. tt, λ _. refl)
test-decides doc path here (Kind name) = bytes_decides here.element.kind name
test-decides doc path here (Id name) = some_same (λ value. same_text value name) name (λ value. bytes_decides value name) (attribute_value here.element (codes "id"))
test-decides doc path here (Attr test) = some-decides (passes test.op test.value) (λ value. Passes test.op test.value value) (passes-decides test.op test.value) (attribute_value here.element test.name)
test-decides doc path here (Nth x) = some-decides (is_nth x) (λ place. IsNth x place) (nth-decides x) (sibling_number doc path)
test-decides doc path here (NthLast x) = some-decides (is_nth x) (λ place. IsNth x place) (nth-decides x) (sibling_number_from_end doc path here)
test-decides doc path here OnlyChild =
    Decides-and (some_passes (λ place. place == 1) (sibling_number doc path)) (some_passes (λ place. place == 1) (sibling_number_from_end doc path here))
    (some_same (λ place. place == 1) 1 (λ place. Decides-eqb place 1) (sibling_number doc path)) (some_same (λ place. place == 1) 1 (λ place. Decides-eqb place 1) (sibling_number_from_end doc path here))
test-decides doc path here Root = root-decides path
test-decides doc path here Empty =
    Decides-and (is_none here.children) (not here.element.text) (none-decides here.children) (not-true here.element.text, not_from_false here.element.text)
test-decides doc path here (State flag) = (λ h. h, λ h. h)

pub simple-decides : (doc : Document) (path : List ℕ) (here : ElementAt) (s : Simple) → Decides (simple_holds doc path here s) (SimpleHolds doc path here s)
simple-decides doc path here s = by_sign s.negated
  where
    by_sign : (negated : Bool) → Decides (if negated then not (test_holds doc path here s.test) else test_holds doc path here s.test) (MatchBool negated (TestHolds doc path here s.test → ⊥) (TestHolds doc path here s.test))
    by_sign true = Decides-not (test_holds doc path here s.test) (test-decides doc path here s.test)
    by_sign false = test-decides doc path here s.test

pub compound-decides : (doc : Document) (path : List ℕ) (simples : List Simple) → Decides (compound_holds doc path simples) (CompoundHolds doc path simples)
compound-decides doc path simples =
    some-decides (λ here. list_all (simple_holds doc path here) simples) (λ here. All (λ s. SimpleHolds doc path here s) simples)
    (λ here. Decides-by_and (simple_holds doc path here) (λ s. SimpleHolds doc path here s) (list_all (simple_holds doc path here)) (simple-decides doc path here) refl (λ _ _. refl) simples)
    (element_at doc path)

-- some path of a list passes
any-map : (test : List ℕ → Bool) (f : List ℕ → List ℕ) (xs : List (List ℕ)) → list_any test (map f xs) ≡ list_any (λ x. test (f x)) xs
any-map test f [] = refl
any-map test f (x ∷ xs) = ap (λ b. test (f x) || b) (any-map test f xs)

-- the ancestors
ancestors-words : (test : List ℕ → Bool) (path : List ℕ) → list_any test (ancestors path) ≡ true → (other : List ℕ) × Allows Inside path other × (test other ≡ true)
ancestors-words test [] h = absurd (false≢true h)
ancestors-words test (i ∷ path) h = more (or_cases (test []) (list_any test (map (λ other. i ∷ other) (ancestors path))) h) (ancestors-words (λ other. test (i ∷ other)) path)
  where
    more : (test [] ≡ true) ⊎ (list_any test (map (λ other. i ∷ other) (ancestors path)) ≡ true) →
        (list_any (λ other. test (i ∷ other)) (ancestors path) ≡ true → (other : List ℕ) × Allows Inside path other × (test (i ∷ other) ≡ true)) →
        (other : List ℕ) × Allows Inside (i ∷ path) other × (test other ≡ true)
    more (inl e) rest = ([], (i ∷ path, (λ e. cc), refl), e)
    more (inr e) rest =
        let w = rest (sym (any-map test (λ other. i ∷ other) (ancestors path)) ∙ e) in
        (i ∷ w.0, (w.1.0, w.1.1, ap (λ (ns : List ℕ). i ∷ ns) w.1.2), w.2)

words-ancestors : (test : List ℕ → Bool) (other rest : List ℕ) → (rest ≢ []) → test other ≡ true → list_any test (ancestors (other ++ rest)) ≡ true
words-ancestors test [] [] some h = absurd (some refl)
words-ancestors test [] (i ∷ rest) some h = or_left (test []) (list_any test (map (λ other. i ∷ other) (ancestors rest))) h
words-ancestors test (i ∷ other) rest some h =
    or_right (test []) (list_any test (map (λ q. i ∷ q) (ancestors (other ++ rest)))) (any-map test (λ q. i ∷ q) (ancestors (other ++ rest)) ∙ words-ancestors (λ q. test (i ∷ q)) other rest some h)

-- what comes in place of the last index
last-words : (change : ℕ → List (List ℕ)) (test : List ℕ → Bool) (path : List ℕ) → list_any test (change_last change path) ≡ true →
    (parent : List ℕ) × (i : ℕ) × (path ≡ parent ++ i ∷ []) × (list_any (λ other. test (parent ++ other)) (change i) ≡ true)
last-words change test [] h = absurd (false≢true h)
last-words change test (i ∷ []) h = ([], i, refl, h)
last-words change test (i ∷ j ∷ path) h =
    let w = last-words change (λ other. test (i ∷ other)) (j ∷ path) (sym (any-map test (λ other. i ∷ other) (change_last change (j ∷ path))) ∙ h) in
    (i ∷ w.0, w.1, ap (λ (ns : List ℕ). i ∷ ns) w.2, w.3)

words-last : (change : ℕ → List (List ℕ)) (test : List ℕ → Bool) (parent : List ℕ) (i : ℕ) → list_any (λ other. test (parent ++ other)) (change i) ≡ true → list_any test (change_last change (parent ++ i ∷ [])) ≡ true
words-last change test [] i h = h
words-last change test (k ∷ []) i h = any-map test (λ other. k ∷ other) (change i) ∙ h
words-last change test (k ∷ l ∷ parent) i h =
    any-map test (λ other. k ∷ other) (change_last change (l ∷ parent ++ i ∷ [])) ∙ words-last change (λ other. test (k ∷ other)) (l ∷ parent) i h

-- the index before, and all indexes before
one-words : (test : List ℕ → Bool) (i : ℕ) → list_any test (one_before i) ≡ true → (j : ℕ) × (i ≡ suc j) × (test (j ∷ []) ≡ true)
one-words test zero h = absurd (false≢true h)
one-words test (suc j) h = (j, refl, only (or_cases (test (j ∷ [])) false h))
  where
    only : (test (j ∷ []) ≡ true) ⊎ (false ≡ true) → test (j ∷ []) ≡ true
    only (inl e) = e
    only (inr e) = absurd (false≢true e)

all-words : (test : List ℕ → Bool) (i : ℕ) → list_any test (all_before i) ≡ true → (j : ℕ) × (j < i) × (test (j ∷ []) ≡ true)
all-words test zero h = absurd (false≢true h)
all-words test (suc i) h = more (or_cases (test (i ∷ [])) (list_any test (all_before i)) h) (all-words test i)
  where
    more : (test (i ∷ []) ≡ true) ⊎ (list_any test (all_before i) ≡ true) → (list_any test (all_before i) ≡ true → (j : ℕ) × (j < i) × (test (j ∷ []) ≡ true)) → (j : ℕ) × (j < suc i) × (test (j ∷ []) ≡ true)
    more (inl e) rest = (i, omega arith, e)
    more (inr e) rest = let w : (j : ℕ) × (j < i) × (test (j ∷ []) ≡ true) = rest e in (w.0, omega arith, w.2)

words-all : (test : List ℕ → Bool) (i j : ℕ) → j < i → test (j ∷ []) ≡ true → list_any test (all_before i) ≡ true
words-all test zero j l h = absurd (omega arith)
words-all test (suc i) j l h = pick (cases_eq j i) (λ m. words-all test i j m h)
  where
    pick : (j ≡ i) ⊎ (j ≡ i → ⊥) → (j < i → list_any test (all_before i) ≡ true) → list_any test (all_before (suc i)) ≡ true
    pick (inl e) rest = or_left (test (i ∷ [])) (list_any test (all_before i)) (subst (λ (k : ℕ). test (k ∷ []) ≡ true) e h)
    pick (inr e) rest = or_right (test (i ∷ [])) (list_any test (all_before i)) (rest (omega arith))

-- an element that a combinator allows passes exactly where one of the listed paths does
allowed-words : (test : List ℕ → Bool) (link : Combinator) (path : List ℕ) → list_any test (allowed link path) ≡ true → (other : List ℕ) × Allows link path other × (test other ≡ true)
allowed-words test Inside path h = ancestors-words test path h
allowed-words test Child path h =
    let w = last-words (λ i. [] ∷ []) test path h in
    (w.0, (w.1, w.2), only w.0 (or_cases (test (w.0 ++ [])) false w.3))
  where
    only : (parent : List ℕ) → (test (parent ++ []) ≡ true) ⊎ (false ≡ true) → test parent ≡ true
    only parent (inl e) = ap test (sym (append-nil parent)) ∙ e
    only parent (inr e) = absurd (false≢true e)
allowed-words test Next path h =
    let w = last-words one_before test path h in
    let o = one-words (λ other. test (w.0 ++ other)) w.1 w.3 in
    (w.0 ++ o.0 ∷ [], (w.0, o.0, w.2 ∙ ap (λ (k : ℕ). w.0 ++ k ∷ []) o.1, refl), o.2)
allowed-words test Later path h =
    let w = last-words all_before test path h in
    let o = all-words (λ other. test (w.0 ++ other)) w.1 w.3 in
    (w.0 ++ o.0 ∷ [], (w.0, w.1, o.0, w.2, refl, o.1), o.2)

words-allowed : (test : List ℕ → Bool) (link : Combinator) (path other : List ℕ) → Allows link path other → test other ≡ true → list_any test (allowed link path) ≡ true
words-allowed test Inside path other a h = subst (λ (p : List ℕ). list_any test (ancestors p) ≡ true) (sym a.2) (words-ancestors test other a.0 a.1 h)
words-allowed test Child path other a h =
    subst (λ (p : List ℕ). list_any test (change_last (λ i. [] ∷ []) p) ≡ true) (sym a.1)
    (words-last (λ i. [] ∷ []) test other a.0 (or_left (test (other ++ [])) false (ap test (append-nil other) ∙ h)))
words-allowed test Next path other a h =
    subst (λ (p : List ℕ). list_any test (change_last one_before p) ≡ true) (sym a.2)
    (words-last one_before test a.0 (suc a.1) (or_left (test (a.0 ++ a.1 ∷ [])) false (ap test (sym a.3) ∙ h)))
words-allowed test Later path other a h =
    subst (λ (p : List ℕ). list_any test (change_last all_before p) ≡ true) (sym a.3)
    (words-last all_before test a.0 a.1 (words-all (λ q. test (a.0 ++ q)) a.1 a.2 a.5 (ap test (sym a.4) ∙ h)))

-- one sequence, and some element for those at its left
link-decides : (doc : Document) (path : List ℕ) (c : List Simple) (link : Combinator) (test : List ℕ → Bool) (P : List ℕ → Type 0) → ((other : List ℕ) → Decides (test other) (P other)) →
    Decides (compound_holds doc path c && list_any test (allowed link path)) (CompoundHolds doc path c × ((other : List ℕ) × Allows link path other × P other))
link-decides doc path c link test P each =
    Decides-and (compound_holds doc path c) (list_any test (allowed link path)) (compound-decides doc path c) (
      λ h. let w : (other : List ℕ) × Allows link path other × (test other ≡ true) = allowed-words test link path h in (w.0, w.1, (each w.0).0 w.2),
      λ w. words-allowed test link path w.0 w.1 ((each w.0).1 w.2),
    )

pub from-decides : (doc : Document) (chain : List (List Simple)) (links : List Combinator) (path : List ℕ) → Decides (matches_from doc chain links path) (MatchesFrom doc chain links path)
from-decides doc [] links path = (λ h. absurd (false≢true h), λ h. absurd h)
from-decides doc (c ∷ []) links path = compound-decides doc path c
from-decides doc (c ∷ d ∷ cs) [] path = (λ h. absurd (false≢true h), λ h. absurd h)
from-decides doc (c ∷ d ∷ cs) (link ∷ links) path =
    link-decides doc path c link (λ other. matches_from doc (d ∷ cs) links other) (λ other. MatchesFrom doc (d ∷ cs) links other) (λ other. from-decides doc (d ∷ cs) links other)

pseudo-decides : (p q : Option Pseudo) → Decides (same_pseudo p q) (p ≡ q)
pseudo-decides None None = (λ _. refl, λ _. refl)
pseudo-decides (Some FirstLine) (Some FirstLine) = (λ _. refl, λ _. refl)
pseudo-decides (Some FirstLetter) (Some FirstLetter) = (λ _. refl, λ _. refl)
pseudo-decides (Some Before) (Some Before) = (λ _. refl, λ _. refl)
pseudo-decides (Some After) (Some After) = (λ _. refl, λ _. refl)
pseudo-decides _ _ = (λ h. absurd (false≢true h), λ h. cc)

pub matches-words : (doc : Document) (target : Target) (selector : SelectorParts) → matches doc target selector ≡ true → Matches doc target selector
matches-words doc target selector h =
    let parts : (same_pseudo target.pseudo selector.pseudo ≡ true) × (matches_from doc selector.chain selector.links target.path ≡ true) =
    and_parts (same_pseudo target.pseudo selector.pseudo) (matches_from doc selector.chain selector.links target.path) h in
    record { pseudo = (pseudo-decides target.pseudo selector.pseudo).0 parts.0; element = (from-decides doc selector.chain selector.links target.path).0 parts.1 }

pub words-match : (doc : Document) (target : Target) (selector : SelectorParts) → Matches doc target selector → matches doc target selector ≡ true
words-match doc target selector m =
    and_from (same_pseudo target.pseudo selector.pseudo) (matches_from doc selector.chain selector.links target.path)
    ((pseudo-decides target.pseudo selector.pseudo).1 m.pseudo) ((from-decides doc selector.chain selector.links target.path).1 m.element)
