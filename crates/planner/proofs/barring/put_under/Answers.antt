use Rattle.std.proofs.Common.{ℕ, ◌≤◌, sym, subst, inl, inr}
use Rattle.planner.proofs.barring.put_under.Goals as goal

pub returns : goal.returns
returns c = record {
  long = λ next old past. subst (λ (n : ℕ). n ≤ next) (sym c.put_at.ensures.long) (c.in_ok-grow.ensures.long next old past);
  each = λ b l at some. elim (c.put_at.ensures.each b l at some) [
    | inl was ↦ inl (c.in_ok-grow.ensures.left b l was some)
    | inr is ↦ inr is
  ];
}
