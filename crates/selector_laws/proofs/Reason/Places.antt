-- Places behind terms that are done where a reason comes, while the reasons of arguments are not told apart yet.
use Rattle.std.proofs.Common.{◌≡◌, Bool, true, false, cond, List, [], ◌∷◌, ◌++◌, refl, sym, ap, ◌∙◌, subst, append_assoc, ◌⊎◌, inl, inr}
use Rattle.std.proofs.lemmas.List.{append-nil}
use Rattle.css_model.specs.declared.reason.Reason.{Reason}
use Rattle.css_model.specs.declared.reason.Reason.TheVariants.{Namespace, NotAllowed}
use Rattle.css_model.specs.declared.token.Gap.{Gap}
use Rattle.css_model.specs.declared.token.Gap.TheVariants as gap
use Rattle.css_model.specs.Selectors.Refusals.{against, against_first}
use Rattle.css_model.specs.Selectors.Terms.{Term, right_behind}
use Rattle.css_model.specs.Selectors.Tokens.{bar}
use Rattle.css_model.specs.Text.Lexemes.{is_delim_of}
use Rattle.selector_laws.specs.Reason.Refusals.{IsArgumentRefused, IsBar, StandsAt, equals_follows, opens_match}
use Rattle.selector_laws.specs.Reason.Refusals.IsBar.{alone, elsewhere}

pub record Finds (done : List Term) (reason : Reason) (terms : List Term) : Type 0 where
  pub before : List Term
  pub after : List Term
  pub parts : terms ≡ before ++ after
  pub at : StandsAt reason (done ++ before) after ⊎ IsArgumentRefused reason after

pub here : (done : List Term) (reason : Reason) (xs : List Term) → StandsAt reason done xs → Finds done reason xs
here done reason xs stands =
    record { before = []; after = xs; parts = refl; at = inl (subst (λ (ds : List Term). StandsAt reason ds xs) (sym (append-nil done)) stands) }

pub in_argument : (done : List Term) (reason : Reason) (xs : List Term) → IsArgumentRefused reason xs → Finds done reason xs
in_argument done reason xs refused = record { before = []; after = xs; parts = refl; at = inr refused }

pub behind_all : (done : List Term) (reason : Reason) (front rest xs : List Term) → xs ≡ front ++ rest → Finds (done ++ front) reason rest → Finds done reason xs
behind_all done reason front rest xs is f =
    record {
      before = front ++ f.before;
      after = f.after;
      parts = is ∙ ap (λ ys. front ++ ys) f.parts ∙ sym (append_assoc front f.before f.after);
      at = subst (λ (ds : List Term). StandsAt reason ds f.after ⊎ IsArgumentRefused reason f.after) (append_assoc done front f.before) f.at;
    }

pub behind : (done : List Term) (reason : Reason) (x : Term) (xs : List Term) → Finds (done ++ x ∷ []) reason xs → Finds done reason (x ∷ xs)
behind done reason x xs f = behind_all done reason (x ∷ []) xs (x ∷ xs) refl f

pub two_behind : (done : List Term) (reason : Reason) (x y : Term) (xs : List Term) → Finds (done ++ x ∷ y ∷ []) reason xs → Finds done reason (x ∷ y ∷ xs)
two_behind done reason x y xs f = behind_all done reason (x ∷ y ∷ []) xs (x ∷ y ∷ xs) refl f

pub not_allowed : (done xs : List Term) → Finds done NotAllowed xs
not_allowed done xs = here done NotAllowed xs tt

-- against a term that is a bar in its place, if it is one
against_is : (done : List Term) (x : Term) (xs : List Term) → (is_delim_of bar x.kind ≡ true → IsBar done (x ∷ xs)) → Finds done (against x) (x ∷ xs)
against_is done x xs in_place = cases (is_delim_of bar x.kind) refl
  where
    cases : (b : Bool) → is_delim_of bar x.kind ≡ b → Finds done (cond b Namespace NotAllowed) (x ∷ xs)
    cases true h = here done Namespace (x ∷ xs) (inl (in_place h))
    cases false h = not_allowed done (x ∷ xs)

pub against_finds : (done : List Term) (x : Term) (xs : List Term) → opens_match done ≡ false → Finds done (against x) (x ∷ xs)
against_finds done x xs apart = against_is done x xs (λ h. elsewhere x xs h apart)

pub against_alone : (done : List Term) (x : Term) (xs : List Term) → equals_follows x xs ≡ false → Finds done (against x) (x ∷ xs)
against_alone done x xs follows = against_is done x xs (λ h. alone x xs h follows)

pub against_none : (done : List Term) (x : Term) (xs : List Term) → (is_delim_of bar x.kind ≡ true → ⊥) → Finds done (against x) (x ∷ xs)
against_none done x xs no_bar = against_is done x xs (λ h. absurd (no_bar h))

pub against_first_finds : (done : List Term) (g : Gap) (xs : List Term) → opens_match done ≡ false → Finds done (against_first (right_behind g xs)) xs
against_first_finds done gap.White xs apart = not_allowed done xs
against_first_finds done gap.Nothing [] apart = not_allowed done []
against_first_finds done gap.Nothing (x ∷ xs) apart = against_finds done x xs apart
against_first_finds done gap.Comments [] apart = not_allowed done []
against_first_finds done gap.Comments (x ∷ xs) apart = against_finds done x xs apart
