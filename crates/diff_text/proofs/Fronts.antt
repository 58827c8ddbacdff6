-- Texts that begin with a front and more.
use Rattle.std.proofs.Common.{◌≡◌, ◌≢◌, ℕ, Bool, true, false, List, [], ◌∷◌, ◌++◌, refl, ap, ap₂, ◌∙◌}
use Rattle.std.specs.Prelude.{◌==◌, ◌&&◌}
use Rattle.std.proofs.lemmas.Bool.{eq-eqb, eqb-true}
use Rattle.css_model.specs.Lists.{begins_with}

pub past_front : (v rest w : List ℕ) → begins_with (v ++ rest) (v ++ w) ≡ begins_with rest w
past_front [] rest w = refl
past_front (d ∷ v) rest w = ap (λ (b : Bool). b && begins_with (v ++ rest) (v ++ w)) (eq-eqb d d refl) ∙ past_front v rest w

pub no_front : (text v w : List ℕ) → ((rest : List ℕ) → text ≢ v ++ rest) → begins_with text (v ++ w) ≡ false
no_front text [] w none = absurd (none text refl)
no_front [] (d ∷ v) w none = refl
no_front (c ∷ text) (d ∷ v) w none = cases (c == d) refl (no_front text v w)
  where
    cases : (b : Bool) → (c == d) ≡ b → (((rest : List ℕ) → text ≢ v ++ rest) → begins_with text (v ++ w) ≡ false) → (b && begins_with text (v ++ w)) ≡ false
    cases false e later = refl
    cases true e later = later (λ rest same. none rest (ap₂ (λ (n : ℕ) (ns : List ℕ). n ∷ ns) (eqb-true c d e) same))
