-- Texts among others.
use Rattle.std.proofs.Common.{◌≡◌, ◌≢◌, ◌⊎◌, ℕ, Bool, true, false, List, [], ◌∷◌, Option, Some, None, subst, refl, sym, inl, inr, ◌∙◌}
use Rattle.std.proofs.lemmas.Bool.{true≢false, or_parts}
use Rattle.std.proofs.lemmas.List.Elements.{All-nil, All-cons}
use Rattle.std.specs.Prelude.{MatchOption}
use Rattle.std.specs.Cmp.Lexicographic.{bytes_decides}
use Rattle.std.specs.List.{All, Contains}
use Rattle.css_model.specs.Lists.{same_text}
use Rattle.list_facts.proofs.Members.{Contains-cons_cases, Contains-nil}
use Rattle.compound_fit.specs.FreeNames.{is_among}

pub same_itself : (v : List ℕ) → same_text v v ≡ true
same_itself v = (bytes_decides v v).1 refl

pub other_text : (v w : List ℕ) → v ≢ w → same_text v w ≡ false
other_text v w differ = cases (same_text v w) refl
  where
    cases : (b : Bool) → same_text v w ≡ b → b ≡ false
    cases true is = absurd (differ ((bytes_decides v w).0 is))
    cases false is = refl

-- each of these texts differs from one that is not among them
pub not_among : (texts : List (List ℕ)) (v : List ℕ) → is_among texts v ≡ false → All (λ r. r ≢ v) texts
not_among [] v none = All-nil (λ r. r ≢ v)
not_among (r ∷ texts) v none =
    let both = or_parts (same_text r v) (is_among texts v) none in
    All-cons (λ r. r ≢ v) r texts (λ same. true≢false (sym ((bytes_decides r v).1 same) ∙ both.0)) (not_among texts v both.1)

pub contained_differs : (texts : List (List ℕ)) (v r : List ℕ) → is_among texts v ≡ false → Contains texts r → r ≢ v
contained_differs [] v r none has = absurd (Contains-nil r has)
contained_differs (x ∷ texts) v r none has =
    let both = or_parts (same_text x v) (is_among texts v) none in
    cases both (contained_differs texts v r both.1) (Contains-cons_cases x texts r has)
  where
    cases : (same_text x v ≡ false) × (is_among texts v ≡ false) → (Contains texts r → r ≢ v) → (x ≡ r) ⊎ Contains texts r → r ≢ v
    cases both later (inl e) = λ same. true≢false (sym ((bytes_decides x v).1 (e ∙ same)) ∙ both.0)
    cases both later (inr c) = later c

-- what is known of a value that may be missing
pub match_none : {A : Type 0} (P : Type 0) (Q : A → Type 0) (o : Option A) → o ≡ None → MatchOption o P Q → P
match_none P Q o e h = subst (λ p. MatchOption p P Q) e h

pub match_some : {A : Type 0} (P : Type 0) (Q : A → Type 0) (o : Option A) (a : A) → o ≡ Some a → MatchOption o P Q → Q a
match_some P Q o a e h = subst (λ p. MatchOption p P Q) e h
