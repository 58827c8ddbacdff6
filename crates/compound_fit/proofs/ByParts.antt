-- What compounds ask of an element, part by part.
use Rattle.std.proofs.Common.{◌≡◌, ℕ, Bool, true, false, not, List, [], ◌∷◌, Option, Some, None, refl, sym, ap, subst}
use Rattle.std.proofs.lemmas.List.Elements.{All-head, All-tail, All-nil, All-cons}
use Rattle.std.specs.Prelude.{IsSomeAnd, codes}
use Rattle.std.specs.Bool.{MatchBool}
use Rattle.std.specs.List.{All}
use Rattle.css_model.specs.declared.selector.AttrTest.{AttrTest}
use Rattle.css_model.specs.declared.selector.Simple.{Simple}
use Rattle.css_model.specs.declared.selector.Test.{Test}
use Rattle.css_model.specs.declared.selector.Test.TheVariants.{Any, Kind, Id, Attr, Nth, NthLast, OnlyChild, Root, Empty, State}
use Rattle.css_model.specs.Documents.Document.{Element, attribute_value}
use Rattle.css_model.specs.Documents.Features.{is_structural, HoldsOf, PassesSimple, Suits}
use Rattle.compound_fit.specs.Attributes.{AttributeFits, attribute_test, attribute_tests, id_test, tests_of}
use Rattle.compound_fit.specs.Laws.{PartsApart}
use Rattle.compound_fit.specs.Parts.{is_of_kind, KindHolds, PassesKind, is_of_flag, FlagHolds, PassesFlag}
use Rattle.compound_fit.proofs.Apart.{Holds, all_fit, all_hold}

-- what the test of an attribute says, if it is one
OfAttribute : Element → Test → Bool → Type 0
OfAttribute e (Attr t) w = Holds e (t, w)
OfAttribute e (Id v) w = Holds e (id_test v, w)
OfAttribute e _ w = Unit {0}

put : (e : Element) (test : Test) (w : Bool) (rest : List (AttrTest × Bool)) → OfAttribute e test w → All (Holds e) rest → All (Holds e) (attribute_test test w rest)
unfolding OfAttribute
put e (Attr t) w rest h all = All-cons (Holds e) (t, w) rest h all
put e (Id v) w rest h all = All-cons (Holds e) (id_test v, w) rest h all
put e Any w rest h all = all
put e (Kind name) w rest h all = all
put e (Nth x) w rest h all = all
put e (NthLast x) w rest h all = all
put e OnlyChild w rest h all = all
put e Root w rest h all = all
put e Empty w rest h all = all
put e (State flag) w rest h all = all

got : (e : Element) (test : Test) (w : Bool) (rest : List (AttrTest × Bool)) → All (Holds e) (attribute_test test w rest) → OfAttribute e test w × All (Holds e) rest
unfolding OfAttribute
got e (Attr t) w rest all = (All-head (Holds e) (t, w) rest all, All-tail (Holds e) (t, w) rest all)
got e (Id v) w rest all = (All-head (Holds e) (id_test v, w) rest all, All-tail (Holds e) (id_test v, w) rest all)
got e Any w rest all = (tt, all)
got e (Kind name) w rest all = (tt, all)
got e (Nth x) w rest all = (tt, all)
got e (NthLast x) w rest all = (tt, all)
got e OnlyChild w rest all = (tt, all)
got e Root w rest all = (tt, all)
got e Empty w rest all = (tt, all)
got e (State flag) w rest all = (tt, all)

Parts : Element → Test → Bool → Type 0
Parts e test negated =
    MatchBool (is_of_kind test) (MatchBool negated (KindHolds e.kind test → ⊥) (KindHolds e.kind test)) (Unit {0}) ×
    MatchBool (is_of_flag test) (MatchBool negated (FlagHolds e.flags test → ⊥) (FlagHolds e.flags test)) (Unit {0}) ×
    OfAttribute e test (not negated)

-- `#x` says what the test of `id` says
some_is : (o : Option (List ℕ)) (v : List ℕ) → o ≡ Some v → IsSomeAnd o (λ value. value ≡ v)
some_is o v e = subst (λ (p : Option (List ℕ)). IsSomeAnd p (λ value. value ≡ v)) (sym e) refl

is_some : (o : Option (List ℕ)) (v : List ℕ) → IsSomeAnd o (λ value. value ≡ v) → o ≡ Some v
is_some None v h = absurd h
is_some (Some w) v h = ap (λ (n : List ℕ). Some n) h

split : (e : Element) (test : Test) (negated : Bool) → MatchBool (is_structural test) (Unit {0}) (MatchBool negated (HoldsOf e test → ⊥) (HoldsOf e test)) → Parts e test negated
unfolding Parts OfAttribute
split e Any true h = (h, tt, tt)
split e Any false h = (h, tt, tt)
split e (Kind name) true h = (h, tt, tt)
split e (Kind name) false h = (h, tt, tt)
split e (Id value) true h = (tt, tt, λ g. h (is_some (attribute_value e (codes "id")) value g))
split e (Id value) false h = (tt, tt, some_is (attribute_value e (codes "id")) value h)
split e (Attr t) true h = (tt, tt, h)
split e (Attr t) false h = (tt, tt, h)
split e (Nth x) negated h = (tt, tt, tt)
split e (NthLast x) negated h = (tt, tt, tt)
split e OnlyChild negated h = (tt, tt, tt)
split e Root negated h = (tt, tt, tt)
split e Empty negated h = (tt, tt, tt)
split e (State flag) negated h = (tt, h, tt)

join : (e : Element) (test : Test) (negated : Bool) → Parts e test negated → MatchBool (is_structural test) (Unit {0}) (MatchBool negated (HoldsOf e test → ⊥) (HoldsOf e test))
unfolding Parts OfAttribute
join e Any true h = h.0
join e Any false h = h.0
join e (Kind name) true h = h.0
join e (Kind name) false h = h.0
join e (Id value) true h = λ g. h.2 (some_is (attribute_value e (codes "id")) value g)
join e (Id value) false h = is_some (attribute_value e (codes "id")) value h.2
join e (Attr t) true h = h.2
join e (Attr t) false h = h.2
join e (Nth x) negated h = tt
join e (NthLast x) negated h = tt
join e OnlyChild negated h = tt
join e Root negated h = tt
join e Empty negated h = tt
join e (State flag) negated h = h.1

all_split : (e : Element) (simples : List Simple) → Suits simples e → All (PassesKind e.kind) simples × All (PassesFlag e.flags) simples × All (Holds e) (attribute_tests simples)
unfolding Parts
all_split e [] h = (All-nil (PassesKind e.kind), All-nil (PassesFlag e.flags), All-nil (Holds e))
all_split e (s ∷ simples) h =
    let here = split e s.test s.negated (All-head (PassesSimple e) s simples h) in
    let rest = all_split e simples (All-tail (PassesSimple e) s simples h) in
    (All-cons (PassesKind e.kind) s simples here.0 rest.0, All-cons (PassesFlag e.flags) s simples here.1 rest.1, put e s.test (not s.negated) (attribute_tests simples) here.2 rest.2)

all_join : (e : Element) (simples : List Simple) → All (PassesKind e.kind) simples → All (PassesFlag e.flags) simples → All (Holds e) (attribute_tests simples) → Suits simples e
unfolding Parts
all_join e [] k f a = All-nil (PassesSimple e)
all_join e (s ∷ simples) k f a =
    let attribute = got e s.test (not s.negated) (attribute_tests simples) a in
    All-cons (PassesSimple e) s simples
    (join e s.test s.negated (All-head (PassesKind e.kind) s simples k, All-head (PassesFlag e.flags) s simples f, attribute.0))
    (all_join e simples (All-tail (PassesKind e.kind) s simples k) (All-tail (PassesFlag e.flags) s simples f) attribute.1)

pub parts_apart : PartsApart
parts_apart e simples = (there, back)
  where
    there : Suits simples e → All (PassesKind e.kind) simples × All (PassesFlag e.flags) simples × ((name : List ℕ) → AttributeFits (attribute_value e name) (tests_of name (attribute_tests simples)))
    there h = let p = all_split e simples h in (p.0, p.1, all_fit e (attribute_tests simples) p.2)

    back : All (PassesKind e.kind) simples × All (PassesFlag e.flags) simples × ((name : List ℕ) → AttributeFits (attribute_value e name) (tests_of name (attribute_tests simples))) → Suits simples e
    back h = all_join e simples h.0 h.1 (all_hold e (attribute_tests simples) h.2)
