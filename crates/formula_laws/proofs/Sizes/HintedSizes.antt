-- The size of all hints.
use Rattle.std.proofs.Common.{length, ℕ, ◌+◌, ◌≤◌}
use Rattle.css_model.specs.Documents.SelectorParts.{SelectorParts}
use Rattle.formula_laws.proofs.Sizes.DistanceSizes.{distances_size}
use Rattle.formula_laws.proofs.Sizes.HintSizes.{asked_size}
use Rattle.formula_laws.proofs.Sizes.RefusedSizes.{refused_size}
use Rattle.formula_laws.proofs.Sizes.Sizes.{Sized, both_size, when_size}
use Rattle.formula_laws.specs.Counts.{Names}
use Rattle.formula_laws.specs.Distances.{with_distance_hints}
use Rattle.formula_laws.specs.Hinted.{with_hints}
use Rattle.formula_laws.specs.Hints.{with_asked_hints}
use Rattle.formula_laws.specs.Refused.{with_refused_hints}
use Rattle.grid_laws.specs.Solved.{nth_compound, numbers_asked}

pub hints_size : (x y : SelectorParts) (names : Names) → length x.links ≤ 11 → length y.links ≤ 11 → ((i : ℕ) → length (names.bx i) ≤ 25) → ((i : ℕ) → length (names.ax i) ≤ 25) → ((j : ℕ) → length (names.by j) ≤ 25) → ((j : ℕ) → length (names.ay j) ≤ 25) →
    ((i : ℕ) → length (nth_compound x.chain i) ≤ 64) → ((j : ℕ) → length (nth_compound y.chain j) ≤ 64) → Sized (λ f. with_hints x y names f) (824916 + 958464 + 2289600) (7598942 + 66539520 + 17563392)
hints_size x y names hx hy bx ax by ay tx ty =
    when_size (numbers_asked x y) (λ f. with_distance_hints x y names (with_refused_hints x y names (with_asked_hints x y names f))) (824916 + 958464 + 2289600) (7598942 + 66539520 + 17563392)
    (both_size (λ f. with_refused_hints x y names (with_asked_hints x y names f)) (λ f. with_distance_hints x y names f) (824916 + 958464) (7598942 + 66539520) 2289600 17563392
    (both_size (λ f. with_asked_hints x y names f) (λ f. with_refused_hints x y names f) 824916 7598942 958464 66539520 (asked_size x y names hx hy bx ax by ay) (refused_size x y names hx hy bx ax by ay tx ty))
    (distances_size x y names hx hy bx ax by ay))
