-- The types and the attributes of features have names.
use Rattle.std.proofs.Common.{Bool, List, None, Option, Some, [], ap, cond, false, get_or, inl, inr, not, refl, subst, sym, true, ℕ, ◌++◌, ◌∙◌, ◌∷◌, ◌≡◌, ◌≢◌}
use Rattle.std.proofs.lemmas.Bool.{false≢true}
use Rattle.std.proofs.lemmas.List.Elements.{Contains-get_or}
use Rattle.std.specs.List.{All}
use Rattle.std.specs.Prelude.{Contains, MatchOption, codes, decimal, if◌then◌else◌, ◌==◌}
use Rattle.css_model.specs.Lists.{same_text}
use Rattle.css_model.specs.declared.selector.AttrTest.{AttrTest}
use Rattle.css_model.specs.declared.selector.Simple.{Simple}
use Rattle.css_model.specs.declared.selector.Test.{Test}
use Rattle.css_model.specs.declared.selector.Test.TheVariants.{Any, Attr, Empty, Id, Kind, Nth, NthLast, OnlyChild, Root, State}
use Rattle.attr_values.specs.Value.{head_of}
use Rattle.compound_fit.specs.Attributes.{attribute_test, attribute_tests, tests_of, value_of}
use Rattle.compound_fit.specs.Fitting.{AreSolved, SolvesName, as_answer}
use Rattle.compound_fit.specs.FreeNames.{IsFirstFree}
use Rattle.compound_fit.specs.Kinds.{IsTriedKind, asked_kinds, named_kind, refused_kinds}
use Rattle.element_laws.specs.Names.{HasName, HaveNames}
use Rattle.list_facts.proofs.Members.{Contains-cons_cases, Contains-nil}

-- a free name
pub free_full : (v : List ℕ) (refused : List (List ℕ)) → IsFirstFree v refused → v ≢ []
free_full v refused first empty = by (first.number == 0) (sym first.is ∙ empty)
  where
    by : (b : Bool) → (if b then codes "x" else codes "x" ++ decimal first.number) ≡ [] → ⊥
    by true e = cc
    by false e = let q : 0x78 ∷ decimal first.number ≡ [] = e in cc

-- the type
asked_full : (simples : List Simple) (name : List ℕ) → HaveNames simples → head_of (asked_kinds simples) ≡ Some name → name ≢ []
asked_full [] name named e = let bad : None ≡ Some name = e in absurd cc
asked_full (s ∷ simples) name (here, named) e = by s.test s.negated here e (asked_full simples name named)
  where
    by : (t : Test) (n : Bool) → HasName t → head_of (if n then asked_kinds simples else named_kind t (asked_kinds simples)) ≡ Some name → (head_of (asked_kinds simples) ≡ Some name → name ≢ []) → name ≢ []
    by t true is e rest = rest e
    by (Kind v) false is e rest = λ empty. is ((let q : Some v ≡ Some name = e in let r : v ≡ name = cc in r) ∙ empty)
    by Any false is e rest = rest e
    by (Id v) false is e rest = rest e
    by (Attr t) false is e rest = rest e
    by (Nth x) false is e rest = rest e
    by (NthLast x) false is e rest = rest e
    by OnlyChild false is e rest = rest e
    by Root false is e rest = rest e
    by Empty false is e rest = rest e
    by (State flag) false is e rest = rest e

pub kind_full : (kind : List ℕ) (simples : List Simple) → HaveNames simples → IsTriedKind kind simples → kind ≢ []
kind_full kind simples named tried = by (head_of (asked_kinds simples)) refl tried
  where
    by : (o : Option (List ℕ)) → head_of (asked_kinds simples) ≡ o → MatchOption o (IsFirstFree kind (refused_kinds simples)) (λ name. kind ≡ name) → kind ≢ []
    by None e first empty = free_full kind (refused_kinds simples) first empty
    by (Some name) e is empty = asked_full simples name named e (sym is ∙ empty)

-- no attribute is tested whose name is empty
none_empty : (simples : List Simple) → HaveNames simples → tests_of [] (attribute_tests simples) ≡ []
none_empty [] named = refl
none_empty (s ∷ simples) (here, named) = by s.test here (none_empty simples named)
  where
    rest : List (AttrTest × Bool)
    rest = attribute_tests simples

    other : (v : List ℕ) → v ≢ [] → same_text v [] ≡ false
    other [] e = absurd (e refl)
    other (c ∷ cs) e = refl

    by : (t : Test) → HasName t → tests_of [] rest ≡ [] → tests_of [] (attribute_test t (not s.negated) rest) ≡ []
    by (Attr a) is e = ap (λ b. cond b ((a, not s.negated) ∷ tests_of [] rest) (tests_of [] rest)) (other a.name is) ∙ e
    by (Id v) is e = e
    by Any is e = e
    by (Kind name) is e = e
    by (Nth x) is e = e
    by (NthLast x) is e = e
    by OnlyChild is e = e
    by Root is e = e
    by Empty is e = e
    by (State flag) is e = e

-- an attribute of this name has a value
found : (attrs : List (List ℕ × List ℕ)) (a : List ℕ × List ℕ) → Contains attrs a → a.0 ≡ [] → (w : List ℕ) × (value_of attrs [] ≡ Some w)
found [] a in' e = absurd (Contains-nil a in')
found (b ∷ attrs) a in' e = by (same_text b.0 []) refl (λ more. found attrs a more e)
  where
    empty : same_text b.0 [] ≡ false → b ≡ a → ⊥
    empty no' is = false≢true (sym no' ∙ ap (λ (v : List ℕ). same_text v []) (ap (λ (p : List ℕ × List ℕ). p.0) is ∙ e))

    by : (c : Bool) → same_text b.0 [] ≡ c → (Contains attrs a → (w : List ℕ) × (value_of attrs [] ≡ Some w)) → (w : List ℕ) × ((if same_text b.0 [] then Some b.1 else value_of attrs []) ≡ Some w)
    by true is rest = (b.1, ap (λ c. if c then Some b.1 else value_of attrs []) is)
    by false is rest = elim (Contains-cons_cases b attrs a in') [
      | inl same ↦ absurd (empty is same)
      | inr more ↦ (let r = rest more in (r.0, ap (λ c. if c then Some b.1 else value_of attrs []) is ∙ r.1))
    ]

-- the attributes
pub names_full : (attrs : List (List ℕ × List ℕ)) (simples : List Simple) → HaveNames simples → AreSolved attrs (attribute_tests simples) → All (λ a. a.0 ≢ []) attrs
names_full attrs simples named solved k d h empty =
    let w = found attrs (get_or attrs k d) (Contains-get_or attrs k d h) empty in
    let s : SolvesName [] (as_answer (Some w.0)) [] = subst (λ ts. SolvesName [] (as_answer (Some w.0)) ts) (none_empty simples named) (subst (λ o. SolvesName [] (as_answer o) (tests_of [] (attribute_tests simples))) w.1 (solved.each [])) in
    false≢true s.1.0
