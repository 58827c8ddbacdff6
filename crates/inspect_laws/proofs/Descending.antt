-- Entries of which each is greater than those after it, and the first of them that passes a test.
use Rattle.std.proofs.Common.{◌≡◌, ◌⊎◌, inl, inr, ℕ, suc, Bool, true, false, cond, List, [], ◌∷◌, Option, Some, None, refl, sym, ap, subst, ◌∙◌, arith}
use Rattle.std.specs.Prelude.{⊤, IsTrue, find}
use Rattle.std.specs.List.{All, AllByRecursion, AllPairs, Contains}
use Rattle.std.proofs.lemmas.Bool.{false≢true}
use Rattle.std.proofs.lemmas.List.Elements.{All-contains, All-from_recursion, recursion_from_All}
use Rattle.list_facts.proofs.Members.{Contains-cons_cases, Contains-here, Contains-nil, Contains-there}
use Rattle.cascade_laws.proofs.ForCallers.{exceeds-irreflexive, exceeds-transitive}
use Rattle.inspect_laws.specs.Entries.{Entry}
use Rattle.inspect_laws.specs.Order.{outranks, rank}

pub not_itself : (e : Entry) → outranks e e ≡ false
not_itself e = exceeds-irreflexive (rank e)

pub outranks_chain : (e f g : Entry) → outranks e f ≡ true → outranks f g ≡ true → outranks e g ≡ true
outranks_chain e f g = exceeds-transitive (rank e) (rank f) (rank g)

-- by recursion
abbrev pub Descends : List Entry → Type 0
Descends [] = ⊤
Descends (e ∷ es) = AllByRecursion (λ f. outranks e f ≡ true) es × Descends es

pub descends_from : (es : List Entry) → AllPairs (λ e f. IsTrue (outranks e f)) es → Descends es
descends_from [] pairs = tt
descends_from (e ∷ es) pairs = (
  recursion_from_All (λ (f : Entry). outranks e f ≡ true) es (λ k d within. pairs 0 (suc k) d (omega arith) (omega (arith, within))),
  descends_from es (λ i j d before within. pairs (suc i) (suc j) d (omega (arith, before)) (omega (arith, within))),
)

pub above : (e : Entry) (es : List Entry) (f : Entry) → Descends (e ∷ es) → Contains es f → outranks e f ≡ true
above e es f down among = All-contains (λ (g : Entry). outranks e g ≡ true) es f (All-from_recursion (λ (g : Entry). outranks e g ≡ true) es down.0) among

-- ---- The first that passes a test

-- one that passes, and is greater than no other one that does
pub first_is : (p : Entry → Bool) (es : List Entry) (e : Entry) → Descends es → Contains es e → p e ≡ true →
    ((f : Entry) → Contains es f → outranks f e ≡ true → p f ≡ false) → find p es ≡ Some e
first_is p [] e down among passes none = absurd (Contains-nil e among)
first_is p (x ∷ es) e down among passes none = which (p x) refl (Contains-cons_cases x es e among) (λ there. first_is p es e down.1 there passes (λ f g. none f (Contains-there x es f g)))
  where
    which : (b : Bool) → p x ≡ b → (x ≡ e) ⊎ Contains es e → (Contains es e → find p es ≡ Some e) → cond b (Some x) (find p es) ≡ Some e
    which true h (inl same) later = ap Some same
    which true h (inr there) later = absurd (false≢true (sym (none x (Contains-here x es) (above x es e down there)) ∙ h))
    which false h (inl same) later = absurd (false≢true (sym h ∙ ap p same ∙ passes))
    which false h (inr there) later = later there

-- it is one of them, and passes
pub first_among : (p : Entry → Bool) (es : List Entry) (e : Entry) → find p es ≡ Some e → Contains es e × (p e ≡ true)
first_among p [] e is = absurd (let none : ⊥ = cc in none)
first_among p (x ∷ es) e is = which (p x) refl is (λ later. first_among p es e later)
  where
    which : (b : Bool) → p x ≡ b → cond b (Some x) (find p es) ≡ Some e → (find p es ≡ Some e → Contains es e × (p e ≡ true)) → Contains (x ∷ es) e × (p e ≡ true)
    which true h is later =
        let same : x ≡ e = cc in
        (subst (λ (y : Entry). Contains (x ∷ es) y) same (Contains-here x es), subst (λ (y : Entry). p y ≡ true) same h)
    which false h is later = let there = later is in (Contains-there x es e there.0, there.1)

-- no other one that passes is greater
pub none_above : (p : Entry → Bool) (es : List Entry) (e : Entry) → Descends es → find p es ≡ Some e → (f : Entry) → Contains es f → p f ≡ true → outranks f e ≡ true → ⊥
none_above p [] e down is f among passes over = Contains-nil f among
none_above p (x ∷ es) e down is f among passes over = which (p x) refl is (Contains-cons_cases x es f among) (λ later there. none_above p es e down.1 later f there passes over)
  where
    which : (b : Bool) → p x ≡ b → cond b (Some x) (find p es) ≡ Some e → (x ≡ f) ⊎ Contains es f → (find p es ≡ Some e → Contains es f → ⊥) → ⊥
    which true h is (inl same) later =
        let one : x ≡ e = cc in
        false≢true (sym (not_itself e) ∙ subst (λ (y : Entry). outranks y e ≡ true) (sym same ∙ one) over)
    which true h is (inr there) later =
        let one : x ≡ e = cc in
        let under : outranks e f ≡ true = subst (λ (y : Entry). outranks y f ≡ true) one (above x es f down there) in
        false≢true (sym (not_itself e) ∙ outranks_chain e f e under over)
    which false h is (inl same) later = false≢true (sym h ∙ ap p same ∙ passes)
    which false h is (inr there) later = later is there

-- where none is found, none passes
pub none_passes : (p : Entry → Bool) (es : List Entry) → find p es ≡ None → (f : Entry) → Contains es f → p f ≡ false
none_passes p [] is f among = absurd (Contains-nil f among)
none_passes p (x ∷ es) is f among = which (p x) refl is (Contains-cons_cases x es f among) (λ later there. none_passes p es later f there)
  where
    which : (b : Bool) → p x ≡ b → cond b (Some x) (find p es) ≡ None → (x ≡ f) ⊎ Contains es f → (find p es ≡ None → Contains es f → p f ≡ false) → p f ≡ false
    which true h is there later = absurd (let none : ⊥ = cc in none)
    which false h is (inl same) later = subst (λ (y : Entry). p y ≡ false) same h
    which false h is (inr there) later = later is there
