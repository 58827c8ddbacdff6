-- The id that is tried passes, where some does.
use Rattle.std.proofs.Common.{◌≡◌, ◌≢◌, ℕ, Bool, true, false, not, ◌&&◌, cond, List, [], ◌∷◌, Option, Some, None, refl, sym, ap, subst, ◌∙◌}
use Rattle.std.proofs.lemmas.Bool.{false≢true}
use Rattle.std.proofs.lemmas.List.Elements.{All-head, All-tail, All-nil, All-cons}
use Rattle.std.specs.Prelude.{MatchOption}
use Rattle.std.specs.Bool.{MatchBool}
use Rattle.std.specs.List.{All}
use Rattle.css_model.specs.declared.selector.AttrTest.{AttrTest}
use Rattle.css_model.specs.declared.selector.Op.{Op}
use Rattle.css_model.specs.declared.selector.Op.TheVariants.{Present, Equal, Word, Dash, Prefix, Suffix, Part}
use Rattle.css_model.specs.Documents.Attribute.{Passes}
use Rattle.attr_values.specs.declared.solve.Fits.{Fits}
use Rattle.attr_values.specs.Asked.{PassesAsAsked, PassesOne, asked, is_asked, is_equal, passes_as_asked, refused}
use Rattle.attr_values.specs.Value.{head_of}
use Rattle.attr_values.proofs.ForCallers.{passing-decides}
use Rattle.compound_fit.specs.FreeNames.{IsFirstFree, is_among}
use Rattle.compound_fit.specs.Ids.{ArePlain, IsFreeId, IsTriedId, SolvesId, if_passes, is_plain}
use Rattle.compound_fit.proofs.Members.{not_among}

asked_is : (s w : List ℕ) (tests : List (AttrTest × Bool)) → PassesAsAsked tests s → head_of (asked is_equal tests) ≡ Some w → s ≡ w
asked_is s w [] h is = absurd (let none : ⊥ = cc in none)
asked_is s w (t ∷ tests) h is = cases t.0.op t.0.value t.1 (All-head (PassesOne s) t tests h) is (asked_is s w tests (All-tail (PassesOne s) t tests h))
  where
    cases : (op : Op) (v : List ℕ) (b : Bool) → MatchBool b (Passes op v s) (Passes op v s → ⊥) →
        head_of (cond (b && is_equal op) (v ∷ asked is_equal tests) (asked is_equal tests)) ≡ Some w → (head_of (asked is_equal tests) ≡ Some w → s ≡ w) → s ≡ w
    cases op v false one e later = later e
    cases Equal v true one e later = one ∙ (let same : v ≡ w = cc in same)
    cases Present v true one e later = later e
    cases Word v true one e later = later e
    cases Dash v true one e later = later e
    cases Prefix v true one e later = later e
    cases Suffix v true one e later = later e
    cases Part v true one e later = later e

-- where none is asked for, one that is not refused passes
free_passes : (s free : List ℕ) (tests : List (AttrTest × Bool)) → ArePlain tests → PassesAsAsked tests s → head_of (asked is_equal tests) ≡ None → All (λ r. r ≢ free) (refused is_equal tests) → PassesAsAsked tests free
free_passes s free [] plain h none differ = All-nil (PassesOne free)
free_passes s free (t ∷ tests) plain h none differ =
    let here = cases t.0.op t.0.value t.1 (All-head (λ t. is_plain t.0.op ≡ true) t tests plain) (All-head (PassesOne s) t tests h) none differ in
    All-cons (PassesOne free) t tests here.0 (free_passes s free tests (All-tail (λ t. is_plain t.0.op ≡ true) t tests plain) (All-tail (PassesOne s) t tests h) here.1 here.2)
  where
    cases : (op : Op) (v : List ℕ) (b : Bool) → is_plain op ≡ true → MatchBool b (Passes op v s) (Passes op v s → ⊥) →
        head_of (cond (b && is_equal op) (v ∷ asked is_equal tests) (asked is_equal tests)) ≡ None → All (λ r. r ≢ free) (cond (not b && is_equal op) (v ∷ refused is_equal tests) (refused is_equal tests)) →
        MatchBool b (Passes op v free) (Passes op v free → ⊥) × (head_of (asked is_equal tests) ≡ None) × All (λ r. r ≢ free) (refused is_equal tests)
    cases Present v true is one e all = (tt, e, all)
    cases Present v false is one e all = (one, e, all)
    cases Equal v true is one e all = absurd (let none : ⊥ = cc in none)
    cases Equal v false is one e all = (λ same. All-head (λ r. r ≢ free) v (refused is_equal tests) all (sym same), e, All-tail (λ r. r ≢ free) v (refused is_equal tests) all)
    cases Word v b is one e all = absurd (false≢true is)
    cases Dash v b is one e all = absurd (false≢true is)
    cases Prefix v b is one e all = absurd (false≢true is)
    cases Suffix v b is one e all = absurd (false≢true is)
    cases Part v b is one e all = absurd (false≢true is)

free_differs : (v : List ℕ) (texts : List (List ℕ)) → IsFreeId v texts → All (λ r. r ≢ v) texts
free_differs v texts is = cases (is_among texts []) refl is
  where
    cases : (b : Bool) → is_among texts [] ≡ b → MatchBool b (IsFirstFree v texts) (v ≡ []) → All (λ r. r ≢ v) texts
    cases true e first = not_among texts v first.free
    cases false e empty = not_among texts v (ap (is_among texts) empty ∙ e)

tried_passes : (s v : List ℕ) (tests : List (AttrTest × Bool)) → ArePlain tests → PassesAsAsked tests s → IsTriedId v tests → PassesAsAsked tests v
tried_passes s v tests plain h is = cases (head_of (asked is_equal tests)) refl is
  where
    cases : (o : Option (List ℕ)) → head_of (asked is_equal tests) ≡ o → MatchOption o (IsFreeId v (refused is_equal tests)) (λ w. v ≡ w) → PassesAsAsked tests v
    cases (Some w) e same = subst (PassesAsAsked tests) (asked_is s w tests h e ∙ sym same) h
    cases None e free = free_passes s v tests plain h e (free_differs v (refused is_equal tests) free)

-- at the end of the function
pub id_solved : (tests : List (AttrTest × Bool)) (v : List ℕ) (fits : Fits) → ArePlain tests → true ≡ is_asked tests → IsTriedId v tests → fits ≡ if_passes v (passes_as_asked tests v) → SolvesId fits tests
id_solved tests v fits plain some is made = subst (λ (f : Fits). SolvesId f tests) (sym made) (cases (passes_as_asked tests v) refl)
  where
    cases : (b : Bool) → passes_as_asked tests v ≡ b → SolvesId (if_passes v b) tests
    cases true passes = (sym some, (passing-decides tests v).0 passes, is)
    cases false fails = (sym some, λ s h. false≢true (sym fails ∙ (passing-decides tests v).1 (tried_passes s v tests plain h is)))
