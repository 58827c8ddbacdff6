-- The type that is tried passes, where some does.
use Rattle.std.proofs.Common.{◌≡◌, ◌≢◌, ℕ, Bool, true, false, cond, Decides, List, [], ◌∷◌, Option, Some, None, refl, sym, subst, ◌∙◌}
use Rattle.std.proofs.lemmas.Bool.{false≢true}
use Rattle.std.proofs.lemmas.Bool.Decides.{Decides-by_and, Decides-not}
use Rattle.std.proofs.lemmas.List.Elements.{All-head, All-tail, All-nil, All-cons}
use Rattle.std.specs.Prelude.{MatchOption}
use Rattle.std.specs.Bool.{MatchBool}
use Rattle.std.specs.Cmp.Lexicographic.{bytes_decides}
use Rattle.std.specs.List.{All, list_all}
use Rattle.css_model.specs.declared.selector.Simple.{Simple}
use Rattle.css_model.specs.declared.selector.Test.{Test}
use Rattle.css_model.specs.declared.selector.Test.TheVariants.{Any, Kind, Id, Attr, Nth, NthLast, OnlyChild, Root, Empty, State}
use Rattle.attr_values.specs.Value.{head_of}
use Rattle.compound_fit.specs.FreeNames.{IsFirstFree}
use Rattle.compound_fit.specs.Kinds.{IsTriedKind, SolvesKind, asked_kinds, kind_holds, named_kind, passes_kind, passes_kinds, refused_kinds}
use Rattle.compound_fit.specs.Parts.{KindHolds, PassesKind, is_of_kind}
use Rattle.compound_fit.proofs.Members.{not_among}

OneKind : List ℕ → Test → Bool → Type 0
OneKind kind test negated = MatchBool (is_of_kind test) (MatchBool negated (KindHolds kind test → ⊥) (KindHolds kind test)) (Unit {0})

one_decides : (kind : List ℕ) (test : Test) (negated : Bool) →
    Decides (passes_kind kind (record { negated = negated; test = test })) (OneKind kind test negated)
unfolding OneKind
one_decides kind Any true = (λ e. absurd (false≢true e), λ h. absurd (h tt))
one_decides kind Any false = (λ e. tt, λ h. refl)
one_decides kind (Kind name) true = Decides-not (kind_holds kind (Kind name)) (bytes_decides kind name)
one_decides kind (Kind name) false = bytes_decides kind name
one_decides kind (Id v) negated = (λ e. tt, λ h. refl)
one_decides kind (Attr t) negated = (λ e. tt, λ h. refl)
one_decides kind (Nth x) negated = (λ e. tt, λ h. refl)
one_decides kind (NthLast x) negated = (λ e. tt, λ h. refl)
one_decides kind OnlyChild negated = (λ e. tt, λ h. refl)
one_decides kind Root negated = (λ e. tt, λ h. refl)
one_decides kind Empty negated = (λ e. tt, λ h. refl)
one_decides kind (State flag) negated = (λ e. tt, λ h. refl)

kinds_decide : (kind : List ℕ) (simples : List Simple) → Decides (passes_kinds kind simples) (All (PassesKind kind) simples)
unfolding OneKind
kinds_decide kind simples = Decides-by_and (passes_kind kind) (PassesKind kind) (list_all (passes_kind kind)) (λ s. one_decides kind s.test s.negated) refl (λ _ _. refl) simples

-- the type that is asked for first is each that passes
asked_is : (kind name : List ℕ) (simples : List Simple) → All (PassesKind kind) simples → head_of (asked_kinds simples) ≡ Some name → kind ≡ name
asked_is kind name [] h is = absurd (let none : ⊥ = cc in none)
asked_is kind name (s ∷ simples) h is = cases s.test s.negated (All-head (PassesKind kind) s simples h) is (asked_is kind name simples (All-tail (PassesKind kind) s simples h))
  where
    cases : (test : Test) (negated : Bool) → MatchBool (is_of_kind test) (MatchBool negated (KindHolds kind test → ⊥) (KindHolds kind test)) (Unit {0}) →
        head_of (cond negated (asked_kinds simples) (named_kind test (asked_kinds simples))) ≡ Some name → (head_of (asked_kinds simples) ≡ Some name → kind ≡ name) → kind ≡ name
    cases test true one e later = later e
    cases (Kind n) false one e later = one ∙ (let same : n ≡ name = cc in same)
    cases Any false one e later = later e
    cases (Id v) false one e later = later e
    cases (Attr t) false one e later = later e
    cases (Nth x) false one e later = later e
    cases (NthLast x) false one e later = later e
    cases OnlyChild false one e later = later e
    cases Root false one e later = later e
    cases Empty false one e later = later e
    cases (State flag) false one e later = later e

-- where none is asked for, one that is not refused passes
free_passes : (kind free : List ℕ) (simples : List Simple) → All (PassesKind kind) simples → head_of (asked_kinds simples) ≡ None → All (λ r. r ≢ free) (refused_kinds simples) → All (PassesKind free) simples
free_passes kind free [] h none refused = All-nil (PassesKind free)
free_passes kind free (s ∷ simples) h none refused =
    let here = cases s.test s.negated (All-head (PassesKind kind) s simples h) none refused in
    All-cons (PassesKind free) s simples here.0 (free_passes kind free simples (All-tail (PassesKind kind) s simples h) here.1 here.2)
  where
    cases : (test : Test) (negated : Bool) → MatchBool (is_of_kind test) (MatchBool negated (KindHolds kind test → ⊥) (KindHolds kind test)) (Unit {0}) →
        head_of (cond negated (asked_kinds simples) (named_kind test (asked_kinds simples))) ≡ None → All (λ r. r ≢ free) (cond negated (named_kind test (refused_kinds simples)) (refused_kinds simples)) →
        MatchBool (is_of_kind test) (MatchBool negated (KindHolds free test → ⊥) (KindHolds free test)) (Unit {0}) × (head_of (asked_kinds simples) ≡ None) × All (λ r. r ≢ free) (refused_kinds simples)
    cases Any true one e all = (one, e, all)
    cases Any false one e all = (tt, e, all)
    cases (Kind n) true one e all = (λ same. All-head (λ r. r ≢ free) n (refused_kinds simples) all (sym same), e, All-tail (λ r. r ≢ free) n (refused_kinds simples) all)
    cases (Kind n) false one e all = absurd (let none : ⊥ = cc in none)
    cases (Id v) true one e all = (tt, e, all)
    cases (Id v) false one e all = (tt, e, all)
    cases (Attr t) true one e all = (tt, e, all)
    cases (Attr t) false one e all = (tt, e, all)
    cases (Nth x) true one e all = (tt, e, all)
    cases (Nth x) false one e all = (tt, e, all)
    cases (NthLast x) true one e all = (tt, e, all)
    cases (NthLast x) false one e all = (tt, e, all)
    cases OnlyChild true one e all = (tt, e, all)
    cases OnlyChild false one e all = (tt, e, all)
    cases Root true one e all = (tt, e, all)
    cases Root false one e all = (tt, e, all)
    cases Empty true one e all = (tt, e, all)
    cases Empty false one e all = (tt, e, all)
    cases (State flag) true one e all = (tt, e, all)
    cases (State flag) false one e all = (tt, e, all)

tried_passes : (kind tried : List ℕ) (simples : List Simple) → All (PassesKind kind) simples → IsTriedKind tried simples → All (PassesKind tried) simples
tried_passes kind tried simples h is = cases (head_of (asked_kinds simples)) refl is
  where
    cases : (o : Option (List ℕ)) → head_of (asked_kinds simples) ≡ o → MatchOption o (IsFirstFree tried (refused_kinds simples)) (λ name. tried ≡ name) → All (PassesKind tried) simples
    cases (Some name) e same = subst (λ (v : List ℕ). All (PassesKind v) simples) (asked_is kind name simples h e ∙ sym same) h
    cases None e first = free_passes kind tried simples h e (not_among (refused_kinds simples) tried first.free)

-- at the ends of the functions
pub kind_passes : (tried : List ℕ) (simples : List Simple) → IsTriedKind tried simples → true ≡ passes_kinds tried simples → SolvesKind (Some tried) simples
kind_passes tried simples is passes = ((kinds_decide tried simples).0 (sym passes), is)

pub kind_fails : (tried : List ℕ) (simples : List Simple) → IsTriedKind tried simples → false ≡ passes_kinds tried simples → SolvesKind None simples
kind_fails tried simples is fails = λ kind h. false≢true (fails ∙ (kinds_decide tried simples).1 (tried_passes kind tried simples h is))

pub asked_tried : (P : Type 0) (o : Option (List ℕ)) (v w : List ℕ) → o ≡ Some v → w ≡ v → MatchOption o P (λ name. w ≡ name)
asked_tried P o v w is same = subst (λ (p : Option (List ℕ)). MatchOption p P (λ name. w ≡ name)) (sym is) same

pub free_tried : (P : Type 0) (o : Option (List ℕ)) (w : List ℕ) → o ≡ None → P → MatchOption o P (λ name. w ≡ name)
free_tried P o w is h = subst (λ (p : Option (List ℕ)). MatchOption p P (λ name. w ≡ name)) (sym is) h
