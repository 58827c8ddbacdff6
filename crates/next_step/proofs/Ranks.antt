-- The order of candidates by their numbers.
use Rattle.std.proofs.Common.{◌≡◌, ◌↔◌, ℕ, ◌<◌, Bool, true, false, List, refl, sym, ap₂, inl, inr, ◌∙◌, arith}
use Rattle.css_model.specs.Cascade.Winner.{exceeds}
use Rattle.plan_laws.specs.Cover.{Priority, IsSooner}
use Rattle.step_laws.specs.Steps.{rank}

-- by what they save
pub saves_more : (s t : Priority) → t.saving < s.saving → (true ≡ true) ↔ IsSooner s t
saves_more s t more = (λ e. inl more, λ h. refl)

pub saves_less : (s t : Priority) → s.saving < t.saving → (false ≡ true) ↔ IsSooner s t
saves_less s t less = (λ e. absurd (let f : false ≡ true = e in cc), none)
  where
    none : IsSooner s t → false ≡ true
    none (inl more) = absurd (omega (arith, more, less))
    none (inr (same, before)) = absurd (omega (arith, same, less))

-- and else by the ranks of their steps
by_rank : (s t : Priority) → s.saving ≡ t.saving → (b : Bool) → b ≡ exceeds (rank t.step) (rank s.step) → (b ≡ true) ↔ IsSooner s t
by_rank s t same b is = (λ h. inr (same, sym is ∙ h), back)
  where
    back : IsSooner s t → b ≡ true
    back (inl more) = absurd (omega (arith, same, more))
    back (inr (e, before)) = is ∙ before

pub ranked : (s t : Priority) → s.saving ≡ t.saving → (xs ys : List ℕ) → rank s.step ≡ xs → rank t.step ≡ ys → (b : Bool) → b ≡ exceeds ys xs → (b ≡ true) ↔ IsSooner s t
ranked s t same xs ys rank_s rank_t b is = by_rank s t same b (is ∙ ap₂ exceeds (sym rank_t) (sym rank_s))
