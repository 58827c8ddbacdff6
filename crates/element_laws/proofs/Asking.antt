-- What is asked of ids, by the simple selectors and by their tests of attributes.
use Rattle.std.proofs.Common.{Bool, List, None, Option, Some, [], ap, cond, false, not, refl, subst, sym, true, ℕ, ◌&&◌, ◌||◌, ◌∙◌, ◌∷◌, ◌≡◌}
use Rattle.std.proofs.lemmas.Bool.{false≢true}
use Rattle.std.specs.Bool.{MatchBool}
use Rattle.std.specs.List.{cons_option, filter_map}
use Rattle.std.specs.Prelude.{Contains, MatchOption, codes, if◌then◌else◌}
use Rattle.css_model.specs.Documents.Document.{if_not_empty}
use Rattle.css_model.specs.Lists.{same_text}
use Rattle.css_model.specs.declared.selector.AttrTest.{AttrTest}
use Rattle.css_model.specs.declared.selector.Op.{Op}
use Rattle.css_model.specs.declared.selector.Op.TheVariants.{Dash, Equal, Part, Prefix, Present, Suffix, Word}
use Rattle.css_model.specs.declared.selector.Simple.{Simple}
use Rattle.css_model.specs.declared.selector.Test.{Test}
use Rattle.css_model.specs.declared.selector.Test.TheVariants.{Any, Attr, Empty, Id, Kind, Nth, NthLast, OnlyChild, Root, State}
use Rattle.attr_values.specs.Asked.{asked, is_asked, is_equal, refused, some_of}
use Rattle.attr_values.specs.Value.{head_of}
use Rattle.attr_values.specs.declared.solve.Fits.TheVariants.{Value}
use Rattle.compound_fit.specs.Attributes.{attribute_test, attribute_tests, tests_of}
use Rattle.compound_fit.specs.FreeNames.{IsFirstFree, is_among}
use Rattle.compound_fit.specs.Ids.{IsFreeId, SolvesId}
use Rattle.element_laws.specs.Ids.{asked_ids, asks_for_id, id_value, is_id_free, is_id_test, refused_id, refused_ids}
use Rattle.list_facts.proofs.Members.{Contains-here, Contains-nil}
use Rattle.shape_laws.proofs.ForCallers.{from_given, given}
use Rattle.slot_plan.specs.ValidShape.{asked_id}

-- the tests of the id among those of attributes
abbrev pub id_tests : List (AttrTest × Bool) → List (AttrTest × Bool)
id_tests tests = tests_of (codes "id") tests

-- an id that a simple selector asks for, be it empty
abbrev pub equal_id : Simple → Option (List ℕ)
equal_id s = if s.negated then None else id_value s.test

abbrev pub equal_ids : List Simple → List (List ℕ)
equal_ids simples = filter_map equal_id simples

-- the value of an operator, where it is `=`
abbrev equal_value : Op → List ℕ → Option (List ℕ)
equal_value op v = elim op [ Equal ↦ Some v | _ ↦ None ]

-- one test more
asked_more : (t : Test) (n : Bool) (rest : List (AttrTest × Bool)) → asked is_equal (id_tests (attribute_test t (not n) rest)) ≡ cons_option (if n then None else id_value t) (asked is_equal (id_tests rest))
asked_more (Id v) true rest = refl
asked_more (Id v) false rest = refl
asked_more (Attr t) n rest = by (same_text t.name (codes "id")) n t.op
  where
    by : (b n : Bool) (op : Op) →
        asked is_equal (cond b ((record { name = t.name; op = op; value = t.value }, not n) ∷ id_tests rest) (id_tests rest))
        ≡ cons_option (if n then None else (if b then equal_value op t.value else None)) (asked is_equal (id_tests rest))
    by false true op = refl
    by false false op = refl
    by true true op = refl
    by true false Equal = refl
    by true false Present = refl
    by true false Word = refl
    by true false Dash = refl
    by true false Prefix = refl
    by true false Suffix = refl
    by true false Part = refl
asked_more Any true rest = refl
asked_more Any false rest = refl
asked_more (Kind name) true rest = refl
asked_more (Kind name) false rest = refl
asked_more (Nth x) true rest = refl
asked_more (Nth x) false rest = refl
asked_more (NthLast x) true rest = refl
asked_more (NthLast x) false rest = refl
asked_more OnlyChild true rest = refl
asked_more OnlyChild false rest = refl
asked_more Root true rest = refl
asked_more Root false rest = refl
asked_more Empty true rest = refl
asked_more Empty false rest = refl
asked_more (State flag) true rest = refl
asked_more (State flag) false rest = refl

refused_more : (t : Test) (n : Bool) (rest : List (AttrTest × Bool)) → refused is_equal (id_tests (attribute_test t (not n) rest)) ≡ cons_option (if n then id_value t else None) (refused is_equal (id_tests rest))
refused_more (Id v) true rest = refl
refused_more (Id v) false rest = refl
refused_more (Attr t) n rest = by (same_text t.name (codes "id")) n t.op
  where
    by : (b n : Bool) (op : Op) →
        refused is_equal (cond b ((record { name = t.name; op = op; value = t.value }, not n) ∷ id_tests rest) (id_tests rest))
        ≡ cons_option (if n then (if b then equal_value op t.value else None) else None) (refused is_equal (id_tests rest))
    by false true op = refl
    by false false op = refl
    by true false op = refl
    by true true Equal = refl
    by true true Present = refl
    by true true Word = refl
    by true true Dash = refl
    by true true Prefix = refl
    by true true Suffix = refl
    by true true Part = refl
refused_more Any true rest = refl
refused_more Any false rest = refl
refused_more (Kind name) true rest = refl
refused_more (Kind name) false rest = refl
refused_more (Nth x) true rest = refl
refused_more (Nth x) false rest = refl
refused_more (NthLast x) true rest = refl
refused_more (NthLast x) false rest = refl
refused_more OnlyChild true rest = refl
refused_more OnlyChild false rest = refl
refused_more Root true rest = refl
refused_more Root false rest = refl
refused_more Empty true rest = refl
refused_more Empty false rest = refl
refused_more (State flag) true rest = refl
refused_more (State flag) false rest = refl

asks_more : (t : Test) (n : Bool) (rest : List (AttrTest × Bool)) → is_asked (id_tests (attribute_test t (not n) rest)) ≡ ((not n && is_id_test t) || is_asked (id_tests rest))
asks_more (Id v) true rest = refl
asks_more (Id v) false rest = refl
asks_more (Attr t) n rest = by (same_text t.name (codes "id")) n
  where
    by : (b n : Bool) → is_asked (cond b ((t, not n) ∷ id_tests rest) (id_tests rest)) ≡ ((not n && b) || is_asked (id_tests rest))
    by false true = refl
    by false false = refl
    by true true = refl
    by true false = refl
asks_more Any true rest = refl
asks_more Any false rest = refl
asks_more (Kind name) true rest = refl
asks_more (Kind name) false rest = refl
asks_more (Nth x) true rest = refl
asks_more (Nth x) false rest = refl
asks_more (NthLast x) true rest = refl
asks_more (NthLast x) false rest = refl
asks_more OnlyChild true rest = refl
asks_more OnlyChild false rest = refl
asks_more Root true rest = refl
asks_more Root false rest = refl
asks_more Empty true rest = refl
asks_more Empty false rest = refl
asks_more (State flag) true rest = refl
asks_more (State flag) false rest = refl

-- all tests
asked_same : (simples : List Simple) → asked is_equal (id_tests (attribute_tests simples)) ≡ equal_ids simples
asked_same [] = refl
asked_same (s ∷ simples) = asked_more s.test s.negated (attribute_tests simples) ∙ ap (cons_option (equal_id s)) (asked_same simples)

refused_same : (simples : List Simple) → refused is_equal (id_tests (attribute_tests simples)) ≡ refused_ids simples
refused_same [] = refl
refused_same (s ∷ simples) = refused_more s.test s.negated (attribute_tests simples) ∙ ap (cons_option (refused_id s)) (refused_same simples)

asks_same : (simples : List Simple) → is_asked (id_tests (attribute_tests simples)) ≡ asks_for_id simples
asks_same [] = refl
asks_same (s ∷ simples) = asks_more s.test s.negated (attribute_tests simples) ∙ ap (λ b. (not s.negated && is_id_test s.test) || b) (asks_same simples)

-- an id that is asked for, if it is not empty
asked_is : (s : Simple) (w : List ℕ) → equal_id s ≡ Some w → asked_id s ≡ if_not_empty (Some w)
asked_is s w e = by s.test s.negated e
  where
    not_there : {A : Type 0} → None ≡ Some w → A
    not_there h = absurd (let bad : ⊥ = cc in bad)

    by : (t : Test) (n : Bool) → (if n then None else id_value t) ≡ Some w → asked_id (record { negated = n; test = t }) ≡ if_not_empty (Some w)
    by t true e = not_there e
    by (Id v) false e = ap if_not_empty e
    by (Attr t) false e = of (same_text t.name (codes "id")) t.op e
      where
        of : (b : Bool) (op : Op) → (if b then equal_value op t.value else None) ≡ Some w →
            (if b then (elim op [ Equal ↦ if_not_empty (Some t.value) | _ ↦ None ]) else None) ≡ if_not_empty (Some w)
        of false op e = not_there e
        of true Equal e = ap if_not_empty e
        of true Present e = not_there e
        of true Word e = not_there e
        of true Dash e = not_there e
        of true Prefix e = not_there e
        of true Suffix e = not_there e
        of true Part e = not_there e
    by Any false e = not_there e
    by (Kind name) false e = not_there e
    by (Nth x) false e = not_there e
    by (NthLast x) false e = not_there e
    by OnlyChild false e = not_there e
    by Root false e = not_there e
    by Empty false e = not_there e
    by (State flag) false e = not_there e

-- an id that is asked for is one of these
asked_equal : (s : Simple) (v : List ℕ) → asked_id s ≡ Some v → equal_id s ≡ Some v
asked_equal s v e = by s.test s.negated e
  where
    not_there : {A : Type 0} → None ≡ Some v → A
    not_there h = absurd (let bad : ⊥ = cc in bad)

    full : (w : List ℕ) → if_not_empty (Some w) ≡ Some v → Some w ≡ Some v
    full [] e = not_there e
    full (c ∷ cs) e = e

    by : (t : Test) (n : Bool) → asked_id (record { negated = n; test = t }) ≡ Some v → (if n then None else id_value t) ≡ Some v
    by t true e = not_there e
    by (Id w) false e = full w e
    by (Attr t) false e = of (same_text t.name (codes "id")) t.op e
      where
        of : (b : Bool) (op : Op) → (if b then (elim op [ Equal ↦ if_not_empty (Some t.value) | _ ↦ None ]) else None) ≡ Some v → (if b then equal_value op t.value else None) ≡ Some v
        of false op e = e
        of true Equal e = full t.value e
        of true Present e = e
        of true Word e = e
        of true Dash e = e
        of true Prefix e = e
        of true Suffix e = e
        of true Part e = e
    by Any false e = e
    by (Kind name) false e = e
    by (Nth x) false e = e
    by (NthLast x) false e = e
    by OnlyChild false e = e
    by Root false e = e
    by Empty false e = e
    by (State flag) false e = e

-- where none is there at all, none is asked for
none_asked : (simples : List Simple) → equal_ids simples ≡ [] → some_of (asked_ids simples) ≡ false
none_asked simples none = by (asked_ids simples) refl
  where
    by : (vs : List (List ℕ)) → asked_ids simples ≡ vs → some_of vs ≡ false
    by [] e = refl
    by (v ∷ vs) e =
        let from = from_given asked_id simples v (subst (λ l. Contains l v) (sym e) (Contains-here v vs)) in
        absurd (Contains-nil v (subst (λ l. Contains l v) none (given equal_id simples from.0 v from.1 (asked_equal from.0 v from.2))))

-- The id that the features have, where it is not free and not empty, is asked for.
pub own_asked : (simples : List Simple) (v : List ℕ) → SolvesId (Value v) (id_tests (attribute_tests simples)) → is_id_free simples ≡ false → if_not_empty (Some v) ≡ Some v → Contains (asked_ids simples) v
own_asked simples v (some, passes, tried) not_free full = by (equal_ids simples) refl (subst (λ l. MatchOption (head_of l) (IsFreeId v (refused is_equal (id_tests (attribute_tests simples)))) (λ w. v ≡ w)) (asked_same simples) tried)
  where
    empty_full : v ≡ [] → ⊥
    empty_full e = let h : if_not_empty (Some []) ≡ Some [] = subst (λ (w : List ℕ). if_not_empty (Some w) ≡ Some w) e full in let bad : None ≡ Some [] = h in cc

    by : (ids : List (List ℕ)) → equal_ids simples ≡ ids → MatchOption (head_of ids) (IsFreeId v (refused is_equal (id_tests (attribute_tests simples)))) (λ w. v ≡ w) → Contains (asked_ids simples) v
    by (w ∷ ids) e same =
        let from = from_given equal_id simples w (subst (λ l. Contains l w) (sym e) (Contains-here w ids)) in
        given asked_id simples from.0 v from.1 (asked_is from.0 v (from.2 ∙ ap Some (sym same)) ∙ full)
    by [] e free = of (is_among (refused is_equal (id_tests (attribute_tests simples))) []) refl free
      where
        of : (b : Bool) → is_among (refused is_equal (id_tests (attribute_tests simples))) [] ≡ b → MatchBool b (IsFirstFree v (refused is_equal (id_tests (attribute_tests simples)))) (v ≡ []) → Contains (asked_ids simples) v
        of false is empty = absurd (empty_full empty)
        of true is first = absurd (false≢true (sym not_free ∙ all_three (asks_for_id simples) (some_of (asked_ids simples)) (is_among (refused_ids simples) [])
            (sym (asks_same simples) ∙ some) (none_asked simples e) (ap (λ l. is_among l []) (sym (refused_same simples)) ∙ is)))
          where
            all_three : (a b c : Bool) → a ≡ true → b ≡ false → c ≡ true → (a && (not b && c)) ≡ true
            all_three true false true e f g = refl
            all_three true true c e f g = absurd (false≢true (sym f))
            all_three true false false e f g = g
            all_three false b c e f g = e
