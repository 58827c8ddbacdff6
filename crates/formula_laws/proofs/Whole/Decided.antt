-- The formula can be satisfied exactly where a shape fits.
use Rattle.std.proofs.Common.{Bool, IsTrue, List, [], ap, arith, false, get_or, length, refl, subst, suc, sym, true, zero, ℕ, ◌<◌, ◌^◌, ◌↔◌, ◌∷◌, ◌≡◌, ◌≤◌}
use Rattle.std.proofs.Math.Nat.{pow-suc}
use Rattle.std.proofs.lemmas.List.Elements.{All-head, All-tail}
use Rattle.std.specs.List.{All}
use Rattle.std.specs.Prelude.{if◌then◌else◌}
use Rattle.formula_laws.proofs.Whole.Conditions.{AllowedMeans}
use Rattle.formula_laws.proofs.Whole.Filling.{formula_complete, formula_sound}
use Rattle.formula_laws.proofs.Whole.Refusals.{allowed_means}
use Rattle.formula_laws.specs.Allowed.{SuitingIsDecided, allowed_by}
use Rattle.formula_laws.specs.Formula.{SmallSteps, digits_for, formula_of, formula_with}
use Rattle.cnf.specs.Cnf.{Satisfies}
use Rattle.cnf.specs.Values.{all_hold}
use Rattle.css_model.specs.Documents.SelectorParts.{SelectorParts}
use Rattle.css_model.specs.Sheets.Limits.{max_compounds}
use Rattle.grid_laws.proofs.ForCallers.{renumbered}
use Rattle.grid_laws.specs.Grid.{Lays}
use Rattle.grid_laws.specs.Solved.{numbers_asked}
use Rattle.grid_laws.specs.Solving.{ShapesAreSolved, SolvedHasAShape}
use Rattle.nth_positions.specs.Gaps.{bounds_of}
use Rattle.slot_plan.specs.Parts.{pair_parts}
use Rattle.slot_plan.specs.ShapeParts.{ShapeParts}
use Rattle.slot_plan.specs.ValidShape.{ValidShape}
use Rattle.shape_laws.specs.Shrinking.{ShapesShrink}

some_power : (w : ℕ) → 0 < 2 ^ w
some_power zero = let e : 2 ^ 0 ≡ 1 = refl in omega arith
some_power (suc w) = let p = pow-suc 2 w in let h = some_power w in omega arith

looked_up : (w : ℕ) (xs : List ℕ) (k : ℕ) → All (λ n. n < 2 ^ w) xs → get_or xs k 0 < 2 ^ w
looked_up w [] k h = some_power w
looked_up w (x ∷ xs) zero h = All-head (λ n. n < 2 ^ w) x xs h
looked_up w (x ∷ xs) (suc k) h = looked_up w xs k (All-tail (λ n. n < 2 ^ w) x xs h)

-- a list that satisfies the clauses gives a shape
pub from_formula : SolvedHasAShape → (w : ℕ) (suits : Lays → ℕ → ℕ → Bool) (x y : SelectorParts) → length x.chain ≡ suc (length x.links) → length y.chain ≡ suc (length y.links) → SmallSteps x y → SuitingIsDecided suits x y →
    (vs : List Bool) → IsTrue (all_hold vs (formula_of w (allowed_by suits x y) x y).clauses) → (shape : ShapeParts) × ValidShape x y shape
from_formula solved w suits x y lx ly steps decides vs h = solved x y _ _ _ _ _ _ _ (formula_sound (digits_for w x y) x y (allowed_by suits x y) lx ly steps (allowed_means suits x y decides) vs h)

-- a shape gives a list that does
pub to_formula : ShapesAreSolved → (w : ℕ) (suits : Lays → ℕ → ℕ → Bool) (x y : SelectorParts) → length x.chain ≡ suc (length x.links) → length y.chain ≡ suc (length y.links) → SmallSteps x y → SuitingIsDecided suits x y →
    (shape : ShapeParts) → ValidShape x y shape → All (λ n. n < 2 ^ w) shape.before → All (λ n. n < 2 ^ w) shape.after → (vs : List Bool) × Satisfies vs (formula_of w (allowed_by suits x y) x y)
to_formula shapes w suits x y lx ly steps decides shape valid before after = split (numbers_asked x y) refl
  where
    allowed : AllowedMeans x y (allowed_by suits x y)
    allowed = allowed_means suits x y decides

    split : (b : Bool) → numbers_asked x y ≡ b → (vs : List Bool) × Satisfies vs (formula_of w (allowed_by suits x y) x y)
    split true asked =
        let s = shapes (2 ^ w) x y shape lx ly valid (λ k. looked_up w shape.before k before) (λ k. looked_up w shape.after k after) in
        subst (λ (n : ℕ). (vs : List Bool) × Satisfies vs (formula_with n (allowed_by suits x y) x y)) (sym (ap (λ b. if b then w else 0) asked))
        (formula_complete w x y (allowed_by suits x y) steps allowed s.0 s.1 s.2 s.3 s.4 shape.top_is_root shape.root_is_child s.5 (record {
          before_left = λ i h. s.6 i;
          after_left = λ i h. s.7 i;
          before_right = λ j h. s.8 j;
          after_right = λ j h. s.9 j;
        }))
    split false none =
        let s = shapes (2 ^ w) x y shape lx ly valid (λ k. looked_up w shape.before k before) (λ k. looked_up w shape.after k after) in
        let zero_number : 0 < 2 ^ 0 = some_power 0 in
        subst (λ (n : ℕ). (vs : List Bool) × Satisfies vs (formula_with n (allowed_by suits x y) x y)) (sym (ap (λ b. if b then w else 0) none))
        (formula_complete 0 x y (allowed_by suits x y) steps allowed s.0 (λ i. 0) (λ i. 0) (λ j. 0) (λ j. 0) shape.top_is_root shape.root_is_child
        (renumbered x y s.0 s.1 s.2 s.3 s.4 (λ i. 0) (λ i. 0) (λ j. 0) (λ j. 0) shape.top_is_root shape.root_is_child none (λ _. (refl, refl)) (λ _. (refl, refl)) s.5)
        (record { before_left = λ i h. zero_number; after_left = λ i h. zero_number; before_right = λ j h. zero_number; after_right = λ j h. zero_number }))

-- with the width of the bounds, and selectors of the profile
pub formula_decides_small : SolvedHasAShape → ShapesAreSolved → ShapesShrink → (suits : Lays → ℕ → ℕ → Bool) (x y : SelectorParts) → length x.chain ≡ suc (length x.links) → length y.chain ≡ suc (length y.links) → length x.chain ≤ max_compounds → length y.chain ≤ max_compounds → SmallSteps x y → SuitingIsDecided suits x y →
    ((vs : List Bool) × Satisfies vs (formula_of (bounds_of (pair_parts x y)).width (allowed_by suits x y) x y))
    ↔ ((shape : ShapeParts) × ValidShape x y shape × All (λ n. n < 2 ^ (bounds_of (pair_parts x y)).width) shape.before × All (λ n. n < 2 ^ (bounds_of (pair_parts x y)).width) shape.after)
formula_decides_small solved shapes shrink suits x y lx ly few few' steps decides =
    let w = (bounds_of (pair_parts x y)).width in (
      λ s. let f = from_formula solved w suits x y lx ly steps decides s.0 (s.1).each_holds in let t = shrink x y f.0 few few' f.1 in (t.0, t.1, (t.2).before, (t.2).after),
      λ t. to_formula shapes w suits x y lx ly steps decides t.0 t.1 t.2 t.3,
    )
