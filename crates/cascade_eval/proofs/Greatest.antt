-- One entry more in front of those that were looked at.
use Rattle.std.proofs.Common.{◌≡◌, ℕ, suc, ◌<◌, Bool, true, List, [], ◌∷◌, Option, Some, length, get_or, drop, cond, sym, ap, ◌∙◌, drop-cons}
use Rattle.std.specs.List.{filter}
use Rattle.css_model.specs.Cascade.Winner.{AppliedDeclaration, greater, greatest}
use Rattle.css_model.specs.Lists.{same_text}

pub best_step : (name : List ℕ) (es : List AppliedDeclaration) (i left : ℕ) (e new : AppliedDeclaration) (old : Option AppliedDeclaration) →
    left ≡ suc i → i < length es → e ≡ get_or es i e → same_text e.decl.name name ≡ true →
    old ≡ greatest (filter (λ f. same_text f.decl.name name) (drop left es)) → Some new ≡ greater e old →
    Some new ≡ greatest (filter (λ f. same_text f.decl.name name) (drop i es))
best_step name es i left e new old more within is named before step =
    step ∙ ap (greater e) (before ∙ ap (λ (m : ℕ). greatest (filter (λ f. same_text f.decl.name name) (drop m es))) more)
    ∙ sym (
    ap (λ (fs : List AppliedDeclaration). greatest (filter (λ f. same_text f.decl.name name) fs)) (front ∙ ap (λ (x : AppliedDeclaration). x ∷ drop (suc i) es) (sym is))
    ∙ ap (λ b. greatest (cond b (e ∷ filter (λ f. same_text f.decl.name name) (drop (suc i) es)) (filter (λ f. same_text f.decl.name name) (drop (suc i) es)))) named
    )
  where
    front : drop i es ≡ get_or es i e ∷ drop (suc i) es
    front = drop-cons es i e within
