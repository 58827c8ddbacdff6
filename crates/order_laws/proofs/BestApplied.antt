-- The best of what applies, and what two of which neither outranks the other have in common.
use Rattle.std.proofs.Common.{◌≡◌, ◌⊎◌, ℕ, ◌<◌, Bool, true, false, List, refl, sym, ap, ap₂, ◌∙◌, subst, inl, inr}
use Rattle.std.proofs.lemmas.Bool.{false≢true}
use Rattle.std.proofs.lemmas.List.Elements.{All-contains}
use Rattle.cascade_laws.proofs.ForCallers.{applied-words, words-applied, words-outranks}
use Rattle.css_model.specs.declared.selector.Specificity.{Specificity}
use Rattle.css_model.specs.declared.sheet.Decl.{Decl}
use Rattle.css_model.specs.declared.sheet.Item.{Item}
use Rattle.css_model.specs.Cascade.Winner.{Declared, AppliedDeclaration, applied, Understood, is_understood, outranks, IsLater}
use Rattle.css_model.specs.Documents.Document.{Document, Target}
use Rattle.cascade_laws.specs.Winning.{IsMoreSpecific, Outranks, IsGreatest}
use Rattle.order_laws.proofs.PlaceOrder.{which_less}
use Rattle.order_laws.proofs.AppliedPairs.{Applies, AreAlike}

-- ---- The best of what applies

pub record IsBest (doc : Document) (target : Target) (meanings : List (List Declared)) (items : List Item) (us : List Understood) (e : AppliedDeclaration) : Type 0 where
  pub applies : Applies doc target meanings items e
  pub understood : is_understood us e ≡ true
  pub best : (f : AppliedDeclaration) → Applies doc target meanings items f → is_understood us f ≡ true → Outranks f e → ⊥

pub is_best : (doc : Document) (target : Target) (meanings : List (List Declared)) (items : List Item) (us : List Understood) (e : AppliedDeclaration) → IsGreatest us (applied doc target meanings items) e → IsBest doc target meanings items us e
is_best doc target meanings items us e g = record {
  applies = applied-words doc target meanings items e g.applied;
  understood = g.understood;
  best = λ f a u over. false≢true (sym (All-contains (λ x. is_understood us x ≡ true → outranks x e ≡ false) (applied doc target meanings items) f g.greatest (words-applied doc target meanings items f a) u) ∙ words-outranks f e over);
}

-- of two applied declarations, of which neither outranks the other's like, all but the places are equal
pub record Level (e f e' f' : AppliedDeclaration) : Type 0 where
  pub importance : e.decl.important ≡ f.decl.important
  pub specificity : e.specificity ≡ f.specificity
  pub first : IsLater e'.place f.place → ⊥
  pub second : IsLater f'.place e.place → ⊥

-- e' is like e and does not outrank f, and f' is like f and does not outrank e
pub level : (e f e' f' : AppliedDeclaration) → AreAlike e' e → AreAlike f' f → (Outranks e' f → ⊥) → (Outranks f' e → ⊥) → Level e f e' f'
level e f e' f' (ed, es) (fd, fs) no_first no_second = record {
  importance = important;
  specificity = specific;
  first = λ h. no_first (inr (inr (important', es ∙ specific, h)));
  second = λ h. no_second (inr (inr (ap (λ (d : Decl). d.important) fd ∙ sym important, fs ∙ sym specific, h)));
}
  where
    same_importance : (a b : Bool) → e.decl.important ≡ a → f.decl.important ≡ b → e.decl.important ≡ f.decl.important
    same_importance true true h g = h ∙ sym g
    same_importance false false h g = h ∙ sym g
    same_importance true false h g = absurd (no_first (inl (ap (λ (d : Decl). d.important) ed ∙ h, g)))
    same_importance false true h g = absurd (no_second (inl (ap (λ (d : Decl). d.important) fd ∙ g, h)))

    important : e.decl.important ≡ f.decl.important
    important = same_importance e.decl.important f.decl.important refl refl

    important' : e'.decl.important ≡ f.decl.important
    important' = ap (λ (d : Decl). d.important) ed ∙ important

    not_more : IsMoreSpecific e f → ⊥
    not_more more = no_first (inr (inl (important', subst (λ (s : Specificity). (f.specificity.a < s.a) ⊎ ((s.a ≡ f.specificity.a) × (f.specificity.b < s.b)) ⊎ ((s.a ≡ f.specificity.a) × (s.b ≡ f.specificity.b) × (f.specificity.c < s.c))) (sym es) more)))

    not_less : IsMoreSpecific f e → ⊥
    not_less more = no_second (inr (inl (ap (λ (d : Decl). d.important) fd ∙ sym important, subst (λ (s : Specificity). (e.specificity.a < s.a) ⊎ ((s.a ≡ e.specificity.a) × (e.specificity.b < s.b)) ⊎ ((s.a ≡ e.specificity.a) × (s.b ≡ e.specificity.b) × (e.specificity.c < s.c))) (sym fs) more)))

    last_count : e.specificity.a ≡ f.specificity.a → e.specificity.b ≡ f.specificity.b → (e.specificity.c < f.specificity.c) ⊎ (e.specificity.c ≡ f.specificity.c) ⊎ (f.specificity.c < e.specificity.c) → e.specificity ≡ f.specificity
    last_count a b (inl h) = absurd (not_less (inr (inr (sym a, sym b, h))))
    last_count a b (inr (inl c)) = ap₂ (λ (n : ℕ) (t : Specificity). record { a = n; b = t.b; c = t.c }) a (ap₂ (λ (m k : ℕ). record { a = f.specificity.a; b = m; c = k }) b c)
    last_count a b (inr (inr h)) = absurd (not_more (inr (inr (a, b, h))))

    middle_count : e.specificity.a ≡ f.specificity.a → (e.specificity.b < f.specificity.b) ⊎ (e.specificity.b ≡ f.specificity.b) ⊎ (f.specificity.b < e.specificity.b) → e.specificity ≡ f.specificity
    middle_count a (inl h) = absurd (not_less (inr (inl (sym a, h))))
    middle_count a (inr (inl b)) = last_count a b (which_less e.specificity.c f.specificity.c)
    middle_count a (inr (inr h)) = absurd (not_more (inr (inl (a, h))))

    first_count : (e.specificity.a < f.specificity.a) ⊎ (e.specificity.a ≡ f.specificity.a) ⊎ (f.specificity.a < e.specificity.a) → e.specificity ≡ f.specificity
    first_count (inl h) = absurd (not_less (inl h))
    first_count (inr (inl a)) = middle_count a (which_less e.specificity.b f.specificity.b)
    first_count (inr (inr h)) = absurd (not_more (inl h))

    specific : e.specificity ≡ f.specificity
    specific = first_count (which_less e.specificity.a f.specificity.a)
